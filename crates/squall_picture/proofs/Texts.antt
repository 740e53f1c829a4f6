-- Texts that are added one after another, or if something holds.
use Rattle.std.proofs.Common.{◌≡◌, ℕ, ◌+◌, ◌<◌, Bool, true, List, [], ◌∷◌, ◌++◌, length, get_or, drop, sym, ap, ◌∙◌, append_assoc}
use Rattle.std.specs.Prelude.{if◌then◌else◌}
use Rattle.std.specs.List.{flat_map}
use Rattle.std.proofs.lemmas.List.{drop_more}

pub added_if : (b w : Bool) (m : List ℕ) → w ≡ b → w ≡ true → m ≡ (if b then m else [])
added_if b w m p q = ap (λ x. if x then m else []) (sym q ∙ p)

-- the text of one item more, and those that are left
pub added_next : {X : Type 0} (f : X → List ℕ) (xs : List X) (i : ℕ) (x : X) (old new : List ℕ) → i < length xs → x ≡ get_or xs i x → new ≡ old ++ f x → new ++ flat_map f (drop (i + 1) xs) ≡ old ++ flat_map f (drop i xs)
added_next f xs i x old new lt is e =
    let rest = drop (i + 1) xs in
    let here : drop i xs ≡ x ∷ rest = drop_more xs i x lt ∙ ap (λ y. y ∷ rest) (sym is) in
    ap (λ l. l ++ flat_map f rest) e ∙ append_assoc old (f x) (flat_map f rest) ∙ ap (λ l. old ++ flat_map f l) (sym here)
