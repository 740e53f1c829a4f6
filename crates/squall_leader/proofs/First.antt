-- The first of moves by rising destination whose partition passes a test goes to the least such partition.
use Rattle.std.proofs.Common.{◌≡◌, ℕ, zero, suc, ◌+◌, ◌<◌, ◌≤◌, Bool, true, false, eqb, List, [], ◌∷◌, Option, None, Some, length, get_or, take, IfSome, refl, sym, ap, ◌∙◌, arith, inl, inr}
use Rattle.std.specs.Prelude.{◌||◌, ◌&&◌}
use Rattle.std.specs.List.{list_any}
use Rattle.std.specs.List.Sorted.{IsNonDecreasingBy}
use Rattle.std.proofs.lemmas.List.{take_all}
use Rattle.std.proofs.lemmas.List.Folds.{list_any_more}
use Rattle.std.proofs.lemmas.Bool.{cases_Bool, cases_eq, and_right, ne_eqb, eq-eqb, false≢true}
use Rattle.squall_key.specs.Keys.{part_limit}
use Rattle.squall_course.specs.declared.moving.Move.{Move}
use Rattle.squall_course.specs.Change.{Change}
use Rattle.squall_course.specs.Moves.{goes_to, moves_of, receivers_of}
use Rattle.squall_board.specs.Boards.{BoardValue}
use Rattle.squall_leader.specs.Leaders.{waited_for}
use Rattle.squall_leader.specs.Waiting.{awaits, IsLeast}
use Rattle.squall_leader.proofs.Least.{find_least, same_least}

-- a move goes to the partition
abbrev pub arrives : ℕ → List Move → Bool
arrives q ms = list_any (λ m. eqb m.dest q) ms

-- where no move passes, no partition to which one goes does
none_goes : (test : ℕ → Bool) (ms : List Move) → list_any (λ m. test m.dest) ms ≡ false → (q : ℕ) → (arrives q ms && test q) ≡ false
none_goes test [] none q = refl
none_goes test (m ∷ ms) none q = elim (cases_Bool (test q)) [
  | inr out ↦ and_right (arrives q (m ∷ ms)) (test q) out
  | inl is ↦ elim (cases_Bool (test m.dest)) [
    | inl bad ↦ let t : true ≡ false = rw bad at none in absurd (false≢true (sym t))
    | inr here ↦
        let apart : eqb m.dest q ≡ false = ne_eqb m.dest q (λ e. false≢true (sym here ∙ ap test e ∙ is)) in
        let rest : list_any (λ n. test n.dest) ms ≡ false = rw here at none in
        rw apart (none_goes test ms rest q)
  ]
]

-- the destinations of moves by rising destination are no lower than that of the first
first_low : (m : Move) (ms : List Move) (q : ℕ) → ((j : ℕ) (d : Move) → j < length ms → m.dest ≤ (get_or ms j d).dest) → q < m.dest → arrives q ms ≡ false
first_low m [] q above lt = refl
first_low m (n ∷ ms) q above lt = rw (ne_eqb n.dest q (λ e. omega (arith, e, lt, above 0 n (omega arith)))) (first_low m ms q (λ j d in'. above (suc j) d (omega arith)) lt)

-- the first that passes, after some that don't
pub first_is : (test : ℕ → Bool) (ms : List Move) (i : ℕ) (m : Move) → IsNonDecreasingBy (λ n. n.dest) ms → i < length ms → m ≡ get_or ms i m → list_any (λ n. test n.dest) (take i ms) ≡ false → test m.dest ≡ true → IsLeast (λ q. arrives q ms && test q) (Some m.dest)
first_is test [] i m rises lt at none is = absurd (omega arith)
first_is test (n ∷ ms) zero m rises lt at none is =
    let low : (q : ℕ) → q < m.dest → (arrives q (n ∷ ms) && test q) ≡ false = λ q less. rw (ne_eqb n.dest q (λ e. omega (arith, e, less, ap (λ (o : Move). o.dest) at)), first_low n ms q (λ j d in'. rises 0 (suc j) d (omega arith) (omega arith)) (omega (arith, less, ap (λ (o : Move). o.dest) at))) refl in
    (rw (eq-eqb n.dest m.dest (sym (ap (λ (o : Move). o.dest) at))) is, low)
first_is test (n ∷ ms) (suc i) m rises lt at none is = elim (cases_Bool (test n.dest)) [
  | inl bad ↦ let t : true ≡ false = rw bad at none in absurd (false≢true (sym t))
  | inr out ↦
      let rest : list_any (λ o. test o.dest) (take i ms) ≡ false = rw out at none in
      let least = first_is test ms i m (λ a b d le in'. rises (suc a) (suc b) d (omega arith) (omega arith)) (omega arith) at rest is in
      (later (eqb n.dest m.dest) (arrives m.dest ms) (test m.dest) least.0, λ q less. passed n q ms out (least.1 q less))
]
  where
    later : (a b c : Bool) → (b && c) ≡ true → ((a || b) && c) ≡ true
    later true true c e = e
    later false true c e = e
    later a false c e = absurd (false≢true e)

    passed : (o : Move) (q : ℕ) (os : List Move) → test o.dest ≡ false → (arrives q os && test q) ≡ false → (arrives q (o ∷ os) && test q) ≡ false
    passed o q os out e = elim (cases_eq o.dest q) [
      | inl same ↦ and_right (arrives q (o ∷ os)) (test q) (sym (ap test same) ∙ out)
      | inr ne ↦ rw (ne_eqb o.dest q ne) e
    ]

pub none_more : (test : ℕ → Bool) (ms : List Move) (i : ℕ) (m : Move) → i < length ms → m ≡ get_or ms i m → list_any (λ n. test n.dest) (take i ms) ≡ false → test m.dest ≡ false → list_any (λ n. test n.dest) (take (i + 1) ms) ≡ false
none_more test ms i m lt at none out = list_any_more (λ n. test n.dest) ms i m lt ∙ rw (none, ← at) out

-- ---- at the end

-- the moves of a sub-plan, by rising destination
pub record Arrivals (c : Change) (sub : ℕ) (ms : List Move) : Type 0 where
  pub same : (p : Move → Bool) → list_any p ms ≡ list_any (λ m. eqb m.sub sub && p m) (moves_of c.old c.new)
  pub rise : IsNonDecreasingBy (λ m. m.dest) ms

waited : (c : Change) (b : BoardValue) (sub : ℕ) (ms : List Move) (r : Option ℕ) → Arrivals c sub ms → IsLeast (λ q. arrives q ms && awaits b c.number sub q) r → IfSome r (λ p. p < part_limit) → r ≡ waited_for c b sub
unfolding receivers_of
waited c b sub ms r are least within =
    find_least (awaits b c.number sub) (λ part. list_any (goes_to sub part) (moves_of c.old c.new)) part_limit r
    (same_least _ _ r (λ q. ap (λ t. t && awaits b c.number sub q) (sym (are.same (λ m. eqb m.dest q)))) least) within

pub waited_some : (c : Change) (b : BoardValue) (number sub : ℕ) (ms : List Move) (i : ℕ) (m : Move) → number ≡ c.number → Arrivals c sub ms → i < length ms → m ≡ get_or ms i m → list_any (λ n. awaits b number sub n.dest) (take i ms) ≡ false → awaits b number sub m.dest ≡ true → m.dest < part_limit → Some m.dest ≡ waited_for c b sub
waited_some c b number sub ms i m numbered are lt at none is low =
    let none1 : list_any (λ n. awaits b c.number sub n.dest) (take i ms) ≡ false = rw numbered at none in
    let is1 : awaits b c.number sub m.dest ≡ true = rw numbered at is in
    waited c b sub ms (Some m.dest) are (first_is (awaits b c.number sub) ms i m are.rise lt at none1 is1) low

pub waited_none : (c : Change) (b : BoardValue) (number sub : ℕ) (ms : List Move) (i : ℕ) → number ≡ c.number → Arrivals c sub ms → length ms ≤ i → list_any (λ n. awaits b number sub n.dest) (take i ms) ≡ false → None ≡ waited_for c b sub
waited_none c b number sub ms i numbered are all none =
    let none1 : list_any (λ n. awaits b c.number sub n.dest) ms ≡ false = rw (take_all i ms all, numbered) at none in
    waited c b sub ms None are (none_goes (awaits b c.number sub) ms none1) tt
