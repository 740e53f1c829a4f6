-- Texts that are made of whole lines.
use Rattle.std.proofs.Common.{◌≡◌, ◌≢◌, ℕ, ◌+◌, ◌/◌, ◌%◌, zero, suc, List, [], ◌∷◌, ◌++◌, Bool, true, false, ◌==◌, ◌&&◌, not, nat_lt, Option, None, Some, ap, sym, subst, ◌∙◌, arith, refl, append_assoc}
use Rattle.std.proofs.lemmas.Bool.{ne_eqb}
use Rattle.std.proofs.lemmas.List.{append-nil}
use Rattle.std.specs.Prelude.{codes, if◌then◌else◌, slice_index}
use Rattle.std.specs.Fmt.{decimal, digits, digits_onto, digit_glyph}
use Rattle.std.specs.List.{AllByRecursion, flat_map, last_or, onto_first}
use Rattle.squall_key.specs.Keys.{top, root_of, second_of, text_of_key, text_of_bound}
use Rattle.squall_span.specs.Spans.{Interval, text_of_span}
use Rattle.squall_plan.specs.declared.fault.PlanFault.{PlanFault}
use Rattle.squall_plan.specs.declared.fault.PlanFault.TheVariants.{Json, Shape, BadPart, BadBound, EmptyRange, TooMany, Overlap, Gap, NoMemory}
use Rattle.squall_plan.specs.Faults.{text_of_fault}
use Rattle.squall_cli_lines.specs.Lines.{lines_of}

-- ---- texts without LF

-- no byte is LF
abbrev pub no_lf : List ℕ → Bool
no_lf [] = true
no_lf (x ∷ xs) = not (x == 10) && no_lf xs

pub with_first : (x : ℕ) (a : List ℕ) → x == 10 ≡ false → no_lf a ≡ true → no_lf (x ∷ a) ≡ true
with_first x a e h = rw e h

pub first_is : (x : ℕ) (a : List ℕ) → no_lf (x ∷ a) ≡ true → x == 10 ≡ false
first_is x a h = grind (arith, h)

pub rest_is : (x : ℕ) (a : List ℕ) → no_lf (x ∷ a) ≡ true → no_lf a ≡ true
rest_is x a h = grind (arith, h)

pub no_lf-append : (a b : List ℕ) → no_lf a ≡ true → no_lf b ≡ true → no_lf (a ++ b) ≡ true
no_lf-append [] b h i = i
no_lf-append (x ∷ a) b h i = with_first x (a ++ b) (first_is x a h) (no_lf-append a b (rest_is x a h) i)

glyph_no_lf : (t : Bool) (d : ℕ) → (if t then 48 + d else 87 + d) == 10 ≡ false
glyph_no_lf true d = ne_eqb (48 + d) 10 (omega arith)
glyph_no_lf false d = ne_eqb (87 + d) 10 (omega arith)

pick_no_lf : (t : Bool) (a b : List ℕ) → no_lf a ≡ true → no_lf b ≡ true → no_lf (if t then a else b) ≡ true
pick_no_lf true a b g h = g
pick_no_lf false a b g h = h

onto_no_lf : (k n : ℕ) (acc : List ℕ) → no_lf acc ≡ true → no_lf (digits_onto k 10 false n acc) ≡ true
onto_no_lf zero n acc h = h
onto_no_lf (suc k) n acc h =
    let more = with_first (digit_glyph false (n % 10)) acc (glyph_no_lf (nat_lt (n % 10) 10) (n % 10)) h in
    pick_no_lf (n / 10 == 0) (digit_glyph false (n % 10) ∷ acc) (digits_onto k 10 false (n / 10) (digit_glyph false (n % 10) ∷ acc)) more (onto_no_lf k (n / 10) (digit_glyph false (n % 10) ∷ acc) more)

pub decimal_no_lf : (n : ℕ) → no_lf (decimal n) ≡ true
unfolding digits
decimal_no_lf n = onto_no_lf 64 n [] refl

pub key_no_lf : (key : ℕ) → no_lf (text_of_key key) ≡ true
key_no_lf key = no_lf-append (decimal (root_of key)) (58 ∷ decimal (second_of key)) (decimal_no_lf (root_of key)) (decimal_no_lf (second_of key))

bound_no_lf : (bound : ℕ) → no_lf (text_of_bound bound) ≡ true
bound_no_lf bound = pick_no_lf (bound == top) (codes "end") (text_of_key bound) refl (key_no_lf bound)

pub span_no_lf : (s : Interval) → no_lf (text_of_span s) ≡ true
span_no_lf s =
    no_lf-append (text_of_bound s.lo ++ 44 ∷ text_of_bound s.hi) (41 ∷ []) (no_lf-append (text_of_bound s.lo) (44 ∷ text_of_bound s.hi) (bound_no_lf s.lo) (bound_no_lf s.hi)) refl

pub fault_no_lf : (fault : PlanFault) → no_lf (text_of_fault fault) ≡ true
fault_no_lf Json = refl
fault_no_lf (Shape None) = refl
fault_no_lf (Shape (Some i)) = decimal_no_lf i
fault_no_lf (BadPart i) = decimal_no_lf i
fault_no_lf (BadBound i) = decimal_no_lf i
fault_no_lf (EmptyRange i) = decimal_no_lf i
fault_no_lf TooMany = refl
fault_no_lf (Overlap b) = bound_no_lf b
fault_no_lf (Gap b) = bound_no_lf b
fault_no_lf NoMemory = refl

-- ---- the lines of a text

-- the text is these lines, each with its LF
abbrev pub Spells : List ℕ → List (List ℕ) → Type 0
Spells text lines = (tail : List ℕ) → lines_of (text ++ tail) ≡ lines ++ lines_of tail

pub spells_lines : (text : List ℕ) (lines : List (List ℕ)) → Spells text lines → lines_of text ≡ lines
spells_lines text lines h = ap lines_of (sym (append-nil text)) ∙ h [] ∙ append-nil lines

pub spells_nothing : Spells [] []
spells_nothing = λ tail. refl

pub spells_lf : Spells (codes "\n") ([] ∷ [])
spells_lf = λ tail. refl

pub spells_append : (a b : List ℕ) (ls ms : List (List ℕ)) → Spells a ls → Spells b ms → Spells (a ++ b) (ls ++ ms)
spells_append a b ls ms h i = λ tail. ap lines_of (append_assoc a b tail) ∙ h (b ++ tail) ∙ ap (λ w. ls ++ w) (i tail) ∙ sym (append_assoc ls ms (lines_of tail))

-- bytes before a text that begin its first line
pub spells_glued : (a b l : List ℕ) (ls : List (List ℕ)) → no_lf a ≡ true → Spells b (l ∷ ls) → Spells (a ++ b) ((a ++ l) ∷ ls)
spells_glued [] b l ls h i = i
spells_glued (x ∷ a) b l ls h i = λ tail. rw (first_is x a h) (ap (onto_first x) (spells_glued a b l ls (rest_is x a h) i tail))

-- ---- lines that do not begin with a word

-- the line does not begin with the bytes
abbrev pub NotBegun : List ℕ → List ℕ → Type 0
NotBegun word line = (rest : List ℕ) → line ≢ word ++ rest

pub differs_at : (k : ℕ) (a b : List ℕ) → slice_index a k ≢ slice_index b k → a ≢ b
differs_at k a b h e = h (ap (λ w. slice_index w k) e)

-- the text is whole lines, of which none begins with the bytes
abbrev pub Lacks : List ℕ → List ℕ → Type 0
Lacks word text = (lines : List (List ℕ)) × Spells text lines × AllByRecursion (NotBegun word) lines

pub lacks_nothing : (word : List ℕ) → Lacks word []
lacks_nothing word = ([], spells_nothing, tt)

pub lacks_line : (word text line : List ℕ) → Spells text (line ∷ []) → NotBegun word line → Lacks word text
lacks_line word text line h i = (line ∷ [], h, (i, tt))

all_append : {X : Type 0} (P : X → Type 0) (xs ys : List X) → AllByRecursion P xs → AllByRecursion P ys → AllByRecursion P (xs ++ ys)
all_append P [] ys h i = i
all_append P (x ∷ xs) ys h i = (h.0, all_append P xs ys h.1 i)

pub lacks_append : (word a b : List ℕ) → Lacks word a → Lacks word b → Lacks word (a ++ b)
lacks_append word a b h i = (h.0 ++ i.0, spells_append a b h.0 i.0 h.1 i.1, all_append (NotBegun word) h.0 i.0 h.2 i.2)

pub lacks_each : {X : Type 0} (word : List ℕ) (text : X → List ℕ) → ((x : X) → Lacks word (text x)) → (xs : List X) → Lacks word (flat_map text xs)
lacks_each word text h [] = lacks_nothing word
lacks_each word text h (x ∷ xs) = lacks_append word (text x) (flat_map text xs) (h x) (lacks_each word text h xs)

pub lacks_picked : (word : List ℕ) (t : Bool) (a b : List ℕ) → Lacks word a → Lacks word b → Lacks word (if t then a else b)
lacks_picked word true a b g h = g
lacks_picked word false a b g h = h

-- ---- the last line

last_of_more : {X : Type 0} (o : Option X) (xs : List X) (x : X) → last_or o (xs ++ x ∷ []) ≡ Some x
last_of_more o [] x = refl
last_of_more o (y ∷ xs) x = last_of_more (Some y) xs x

pub last_is : (text : List ℕ) (lines : List (List ℕ)) (line : List ℕ) → Spells text (lines ++ line ∷ []) → last_or None (lines_of text) ≡ Some line
last_is text lines line h = ap (last_or None) (spells_lines text (lines ++ line ∷ []) h) ∙ last_of_more None lines line

abbrev IsGood : {X : Type 0} → (X → Type 0) → Option X → Type 0
IsGood P None = Unit {0}
IsGood P (Some x) = P x

last_good : {X : Type 0} (P : X → Type 0) (o : Option X) (xs : List X) → IsGood P o → AllByRecursion P xs → IsGood P (last_or o xs)
last_good P o [] h i = h
last_good P o (x ∷ xs) h i = last_good P (Some x) xs i.0 i.1

good_at : {X : Type 0} (P : X → Type 0) (o : Option X) (x : X) → IsGood P o → o ≡ Some x → P x
good_at P (Some y) x h e = subst P (some_inj e) h
  where
    some_inj : Some y ≡ Some x → y ≡ x
    some_inj e = cc
good_at P None x h e = absurd (none_some e)
  where
    none_some : None ≡ Some x → ⊥
    none_some e = cc

pub last_lacks : (word text : List ℕ) → Lacks word text → (rest : List ℕ) → last_or None (lines_of text) ≢ Some (word ++ rest)
last_lacks word text h rest e =
    let all = last_good (NotBegun word) None h.0 tt h.2 in
    good_at (NotBegun word) (last_or None h.0) (word ++ rest) all (ap (last_or None) (sym (spells_lines text h.0 h.1)) ∙ e) rest refl

pub all_lines : (P : List ℕ → Type 0) (word text : List ℕ) → ((line : List ℕ) → NotBegun word line → P line) → Lacks word text → AllByRecursion P (lines_of text)
all_lines P word text weaker h = subst (AllByRecursion P) (sym (spells_lines text h.0 h.1)) (map_all h.0 h.2)
  where
    map_all : (lines : List (List ℕ)) → AllByRecursion (NotBegun word) lines → AllByRecursion P lines
    map_all [] i = tt
    map_all (line ∷ lines) i = (weaker line i.0, map_all lines i.1)
