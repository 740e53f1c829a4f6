-- Tokens that are written one after another: of lists, of objects, and of a line.
use Rattle.std.proofs.Common.{◌≡◌, ℕ, ◌+◌, ◌<◌, take, length, get_or, arith, List, [], ◌∷◌, ◌++◌, IfOk, refl, sym, ap, ◌∙◌, append_assoc}
use Rattle.std.specs.Prelude.{Result, Ok, Err, codes}
use Rattle.std.specs.List.{flat_map}
use Rattle.std.proofs.lemmas.Grind.{common_steps}
use Rattle.json.specs.Token.{Token}
use Rattle.json.specs.Print.{print}
use Rattle.json.specs.Tree.{items_tokens}
use Rattle.serde_json.specs.Data.{Data}
use Rattle.serde_json.specs.View.{items_of}
use Rattle.serde_json.specs.Written.{items_outline}
use Rattle.serde_json.proofs.Texts.{print-outline}
use Rattle.squall_cli_json.specs.Tokens.{tokens_of, tokens_of_each}
use Rattle.squall_cli_json.specs.Values.{json_of_list, json_line}

-- ---- lists

pub each_more : (ds es : List Data) → tokens_of_each (ds ++ es) ≡ tokens_of_each ds ++ tokens_of_each es
each_more [] es = refl
each_more (d ∷ ds) es = ap (λ ts. tokens_of d ++ ts) (each_more ds es) ∙ sym (append_assoc (tokens_of d) (tokens_of_each ds) (tokens_of_each es))

closed : (ds : List Data) → items_tokens (items_outline (items_of ds)) ≡ tokens_of_each ds ++ Token.end_array ∷ []
closed [] = refl
closed (d ∷ ds) = ap (λ ts. tokens_of d ++ ts) (closed ds) ∙ sym (append_assoc (tokens_of d) (tokens_of_each ds) (Token.end_array ∷ []))

-- values between the brackets of a list
pub listed : (start begun last done : List Token) (ds : List Data) → begun ≡ start ++ Token.begin_array ∷ [] → last ≡ begun ++ tokens_of_each ds → done ≡ last ++ Token.end_array ∷ []
    → done ≡ start ++ tokens_of (json_of_list ds)
listed start begun last done ds b w e =
    e ∙ ap (λ ts. ts ++ Token.end_array ∷ []) (w ∙ ap (λ ts. ts ++ tokens_of_each ds) b ∙ append_assoc start (Token.begin_array ∷ []) (tokens_of_each ds))
    ∙ append_assoc start (Token.begin_array ∷ tokens_of_each ds) (Token.end_array ∷ [])
    ∙ ap (λ ts. start ++ Token.begin_array ∷ ts) (sym (closed ds))

-- the values of one more element
pub one_more : {X : Type 0} (f : X → List Data) (start old new : List Token) (xs : List X) (i : ℕ) (d : X) → i < length xs → old ≡ start ++ tokens_of_each (flat_map f (take i xs))
    → new ≡ old ++ tokens_of_each (f (get_or xs i d)) → new ≡ start ++ tokens_of_each (flat_map f (take (i + 1) xs))
one_more f start old new xs i d h was is = grind (arith, common_steps, each_more)

-- ---- objects

-- two writes, one after the other
pub then : {b c : List Token} (a xs ys : List Token) → b ≡ a ++ xs → c ≡ b ++ ys → c ≡ a ++ (xs ++ ys)
then a xs ys e f = f ∙ ap (λ x. x ++ ys) e ∙ append_assoc a xs ys

-- three writes
pub three : {b c d : List Token} (a xs ys zs : List Token) → b ≡ a ++ xs → c ≡ b ++ ys → d ≡ c ++ zs → d ≡ a ++ (xs ++ (ys ++ zs))
three {b} a xs ys zs e f g = then a xs (ys ++ zs) e (then b ys zs f g)

-- four writes
pub four : {b c d e : List Token} (a ws xs ys zs : List Token) → b ≡ a ++ ws → c ≡ b ++ xs → d ≡ c ++ ys → e ≡ d ++ zs → e ≡ a ++ (ws ++ (xs ++ (ys ++ zs)))
four {b} a ws xs ys zs e f g h = then a ws (xs ++ (ys ++ zs)) e (three b xs ys zs f g h)

-- ---- a line

-- the tokens of a value, written from nothing on, print as its line
pub line_of : {S E : Type 0} (d : Data) (bytes : S → List ℕ) (none all : List Token) (r : Result S E) → none ≡ [] → all ≡ none ++ tokens_of d
    → IfOk r (λ s. bytes s ≡ print all ++ codes "\n") → IfOk r (λ s. bytes s ≡ json_line d)
line_of d bytes none all (Ok s) n a is = is ∙ ap (λ ts. print ts ++ codes "\n") (a ∙ ap (λ ts. ts ++ tokens_of d) n) ∙ ap (λ t. t ++ codes "\n") (print-outline d)
line_of d bytes none all (Err e) n a is = tt
