-- Whether what a board tells is a part of what a node knows can be decided.
use Rattle.std.proofs.Common.{◌≡◌, ◌⊎◌, ℕ, suc, ◌+◌, ◌<◌, ◌≤◌, Bool, true, false, List, [], ◌∷◌, refl, sym, ap, ◌∙◌, subst, inl, inr, arith, true≢false}
use Rattle.std.specs.Prelude.{Some, None}
use Rattle.std.specs.Ordering.{nat_cmp, is_eq}
use Rattle.std.specs.FinMap.Entries.{find}
use Rattle.std.proofs.lemmas.Bool.{cases_Bool, cases_lt, both_ways, or_cases, eqb-true, ne_eqb, cond-true, cond-false}
use Rattle.squall_span.specs.Spans.{Interval, has, span_has}
use Rattle.squall_join.specs.declared.flat.Flat.{Flat}
use Rattle.squall_join.specs.declared.flat.Flat.TheVariants.{Unknown, One, Clash}
use Rattle.squall_join.specs.Facts.{flag_says, pair_says, map_says, found_says}
use Rattle.squall_join.specs.Looked.{looked}
use Rattle.squall_report.specs.Issues.{PlanPair, is_same_pair}
use Rattle.squall_report.specs.IssueLaws.{same_pairs_are_equal}
use Rattle.squall_report.specs.Cells.{CellPlace, place_at}
use Rattle.squall_report.specs.Queries.{Queries}
use Rattle.squall_board.specs.Boards.{CellValue, BoardValue, openings_in, issues_in, cells_in}
use Rattle.squall_board.specs.ListedLaws.{cmp_eq}
use Rattle.squall_board.specs.BoardQueries.{queries_of}
use Rattle.squall_protocol.specs.Steps.{IsPartOf}
use Rattle.squall_protocol.proofs.Changes.{in_span}
use Rattle.squall_protocol.proofs.Search.{Decided, decided_test, decided_both, decided_if, all_below}

-- ---- what a board tells lies below a limit

-- what holds of a fact up to a limit holds up to a greater one
abbrev Rises : {F : Type 0} → (ℕ → F → Type 0) → Type 0
Rises {F} Below = (m n : ℕ) (f : F) → m ≤ n → Below m f → Below n f

-- what a value tells lies below the limit of the value
abbrev Limits : {V F : Type 0} → (V → F → Bool) → (V → ℕ) → (ℕ → F → Type 0) → Type 0
Limits {V} {F} tells limit Below = (v : V) (f : F) → tells v f ≡ true → Below (limit v) f

-- the limit of a map, above its numbers and the limits of its values
abbrev sum_of : {V : Type 0} → (V → ℕ) → List (ℕ × V) → ℕ
sum_of limit [] = 0
sum_of limit (e ∷ es) = suc e.0 + (limit e.1 + sum_of limit es)

abbrev InMap : {F : Type 0} → (ℕ → F → Type 0) → ℕ → ℕ × F → Type 0
InMap Below n q = (q.0 < n) × Below n q.1

map_rises : {F : Type 0} (Below : ℕ → F → Type 0) → Rises Below → Rises (InMap Below)
map_rises Below up m n q le b = let low : q.0 < m = b.0 in (omega arith, up m n q.1 le b.1)

map_limits : {V F : Type 0} (tells : V → F → Bool) (limit : V → ℕ) (Below : ℕ → F → Type 0) → Rises Below → Limits tells limit Below → Limits (map_says nat_cmp tells) (sum_of limit) (InMap Below)
map_limits tells limit Below up low [] q h = absurd (true≢false (sym h))
map_limits tells limit Below up low (e ∷ es) q h = elim (cases_Bool (is_eq (nat_cmp q.0 e.0))) [
  | inl is ↦
      let said : tells e.1 q.1 ≡ true = subst (λ o. found_says tells o q.1 ≡ true) (cond-true (is_eq (nat_cmp q.0 e.0)) (Some e.1) (find nat_cmp q.0 es) is) h in
      let same : e.0 ≡ q.0 = eqb-true e.0 q.0 (sym (cmp_eq q.0 e.0) ∙ is) in
      (omega arith, up (limit e.1) (sum_of limit (e ∷ es)) q.1 (omega arith) (low e.1 q.1 said))
  | inr other ↦
      let said : map_says nat_cmp tells es q ≡ true = subst (λ o. found_says tells o q.1 ≡ true) (cond-false (is_eq (nat_cmp q.0 e.0)) (Some e.1) (find nat_cmp q.0 es) other) h in
      let rest = map_limits tells limit Below up low es q said in
      let within : q.0 < sum_of limit es = rest.0 in
      (omega arith, up (sum_of limit es) (sum_of limit (e ∷ es)) q.1 (omega arith) rest.1)
]

other_number : (q n : ℕ) → n < q → is_eq (nat_cmp q n) ≡ false
other_number q n lt = cmp_eq q n ∙ ne_eqb n q (λ e. let bad : ⊥ = omega arith in bad)

-- from the limit on nothing is found
none_above : {V : Type 0} (limit : V → ℕ) (es : List (ℕ × V)) (q : ℕ) → sum_of limit es ≤ q → find nat_cmp q es ≡ None
none_above limit [] q high = refl
none_above limit (e ∷ es) q high = cond-false (is_eq (nat_cmp q e.0)) (Some e.1) (find nat_cmp q es) (other_number q e.0 (omega arith)) ∙ none_above limit es q (omega arith)

-- a key lies below the limit, if the fact has one
abbrev InCell : ℕ → ℕ ⊎ Unit {0} → Type 0
InCell n (inl k) = k < n
InCell n (inr done) = Unit {0}

cell_rises : Rises InCell
cell_rises m n (inl k) le b = omega arith
cell_rises m n (inr done) le b = tt

abbrev spans_limit : List Interval → ℕ
spans_limit [] = 0
spans_limit (s ∷ ss) = s.hi + spans_limit ss

key_low : (ss : List Interval) (k : ℕ) → has ss k ≡ true → k < spans_limit ss
key_low [] k h = absurd (true≢false (sym h))
key_low (s ∷ ss) k h = elim (or_cases (span_has s k) (has ss k) h) [
  | inl here ↦ let b : k < s.hi = (in_span s k here).1 in omega arith
  | inr later ↦ let b : k < spans_limit ss = key_low ss k later in omega arith
]

abbrev cell_limit : CellValue → ℕ
cell_limit v = spans_limit v.first

cell_limits : Limits (pair_says has flag_says) cell_limit InCell
cell_limits v (inl k) h = key_low v.first k h
cell_limits v (inr done) h = tt

abbrev cells_limit : BoardValue → ℕ
cells_limit b = sum_of (sum_of (sum_of cell_limit)) (cells_in b)

cells_low : (b : BoardValue) → (q : ℕ × (ℕ × (ℕ × (ℕ ⊎ Unit {0})))) → map_says nat_cmp (map_says nat_cmp (map_says nat_cmp (pair_says has flag_says))) (cells_in b) q ≡ true
    → InMap (InMap (InMap InCell)) (cells_limit b) q
cells_low b q h =
    let one = map_rises InCell cell_rises in
    let parts = map_limits (pair_says has flag_says) cell_limit InCell cell_rises cell_limits in
    let subs = map_limits (map_says nat_cmp (pair_says has flag_says)) (sum_of cell_limit) (InMap InCell) one parts in
    map_limits (map_says nat_cmp (map_says nat_cmp (pair_says has flag_says))) (sum_of (sum_of cell_limit)) (InMap (InMap InCell)) (map_rises (InMap InCell) one) subs (cells_in b) q h

-- the cell lies below the limit
record Within (n : ℕ) (c : CellPlace) : Type 0 where
  number : c.number < n
  sub : c.sub < n
  part : c.part < n

-- what is told lies below the limit
record Bounded (n : ℕ) (q : Queries) : Type 0 where
  loaded : (c : CellPlace) (k : ℕ) → q.loaded c k ≡ true → Within n c × (k < n)
  done : (c : CellPlace) → q.done c ≡ true → Within n c
  opened : (m : ℕ) → n ≤ m → q.opened m ≡ 0
  issued : (m : ℕ) → n ≤ m → q.issued m ≡ Unknown

-- a limit of all that a board tells
abbrev limit_of : BoardValue → ℕ
limit_of b = cells_limit b + (sum_of (λ _. 0) (openings_in b) + sum_of (λ _. 0) (issues_in b))

within : (b : BoardValue) (c : CellPlace) → c.number < cells_limit b → c.sub < cells_limit b → c.part < cells_limit b → Within (limit_of b) c
within b c number sub part = record { number = omega arith; sub = omega arith; part = omega arith }

board_bounded : (b : BoardValue) → Bounded (limit_of b) (queries_of b)
board_bounded b =
    record {
      loaded = λ c k h.
          let low = cells_low b (c.number, (c.sub, (c.part, inl k))) h in
          let key : k < cells_limit b = low.1.1.1 in (within b c low.0 low.1.0 low.1.1.0, omega arith);
      done = λ c h. let low = cells_low b (c.number, (c.sub, (c.part, inr tt))) h in within b c low.0 low.1.0 low.1.1.0;
      opened = λ m ge. ap (looked 0) (none_above (λ _. 0) (openings_in b) m (omega arith));
      issued = λ m ge. ap (looked Unknown) (none_above (λ _. 0) (issues_in b) m (omega arith));
    }

-- ---- the decision

decided_like : (P Q : Type 0) → (P → Q) → (Q → P) → Decided P → Decided Q
decided_like P Q f g (inl p) = inl (f p)
decided_like P Q f g (inr never) = inr (λ q. never (g q))

-- of all cells within the limits
all_cells : (P : CellPlace → Type 0) → ((c : CellPlace) → Decided (P c)) → (n : ℕ) → Decided ((c : CellPlace) → Within n c → P c)
all_cells P d n =
    decided_like ((m : ℕ) → m < n → (s : ℕ) → s < n → (p : ℕ) → p < n → P (place_at m s p)) ((c : CellPlace) → Within n c → P c)
    (λ all c w. all c.number w.number c.sub w.sub c.part w.part)
    (λ all m a s b p e. all (place_at m s p) (record { number = a; sub = b; part = e }))
    (all_below _ (λ m. all_below _ (λ s. all_below (λ p. P (place_at m s p)) (λ p. d (place_at m s p)) n) n) n)

loaded_decided : (n : ℕ) (q f : Queries) → Bounded n q → Decided ((c : CellPlace) (k : ℕ) → q.loaded c k ≡ true → f.loaded c k ≡ true)
loaded_decided n q f b =
    decided_like ((c : CellPlace) → Within n c → (k : ℕ) → k < n → q.loaded c k ≡ true → f.loaded c k ≡ true) _
    (λ all c k h. let w = b.loaded c k h in all c w.0 k w.1 h) (λ all c w k lt. all c k)
    (all_cells (λ c. (k : ℕ) → k < n → q.loaded c k ≡ true → f.loaded c k ≡ true)
    (λ c. all_below (λ k. q.loaded c k ≡ true → f.loaded c k ≡ true) (λ k. decided_if (q.loaded c k ≡ true) (f.loaded c k ≡ true) (decided_test (q.loaded c k)) (decided_test (f.loaded c k))) n) n)

done_decided : (n : ℕ) (q f : Queries) → Bounded n q → Decided ((c : CellPlace) → q.done c ≡ true → f.done c ≡ true)
done_decided n q f b =
    decided_like ((c : CellPlace) → Within n c → q.done c ≡ true → f.done c ≡ true) _
    (λ all c h. all c (b.done c h) h) (λ all c w. all c)
    (all_cells (λ c. q.done c ≡ true → f.done c ≡ true) (λ c. decided_if (q.done c ≡ true) (f.done c ≡ true) (decided_test (q.done c)) (decided_test (f.done c))) n)

decided_le : (a b : ℕ) → Decided (a ≤ b)
decided_le a b = elim (cases_lt b a) [
  | inl less ↦ inr (λ le. let bad : ⊥ = omega arith in bad)
  | inr le ↦ inl le
]

opened_decided : (n : ℕ) (q f : Queries) → Bounded n q → Decided ((m : ℕ) → q.opened m ≤ f.opened m)
opened_decided n q f b =
    decided_like ((m : ℕ) → m < n → q.opened m ≤ f.opened m) _
    (λ all m. elim (cases_lt m n) [ inl less ↦ all m less | inr ge ↦ let none : q.opened m ≡ 0 = b.opened m ge in omega arith ]) (λ all m lt. all m)
    (all_below (λ m. q.opened m ≤ f.opened m) (λ m. decided_le (q.opened m) (f.opened m)) n)

-- nothing is issued, or the same
abbrev IssuesPart : Flat PlanPair → Flat PlanPair → Type 0
IssuesPart x y = (x ≡ Unknown) ⊎ (x ≡ y)

pair_decided : (p r : PlanPair) → Decided (One p ≡ One r)
pair_decided p r = elim (cases_Bool (is_same_pair p r)) [
  | inl same ↦ inl (ap One (same_pairs_are_equal.same p r tt tt same))
  | inr other ↦ inr (λ e. both_ways (is_same_pair p r) other (ap (is_same_pair p) (one_pair (sym e)) ∙ same_pairs_are_equal.itself p tt))
]
  where
    one_pair : One r ≡ One p → r ≡ p
    one_pair e = cc

issue_decided : (x y : Flat PlanPair) → Decided (IssuesPart x y)
issue_decided Unknown y = inl (inl refl)
issue_decided (One p) Unknown = inr (λ h. elim h [ inl e ↦ cc | inr e ↦ cc ])
issue_decided (One p) (One r) = elim (pair_decided p r) [ inl e ↦ inl (inr e) | inr never ↦ inr (λ h. elim h [ inl e ↦ cc | inr e ↦ never e ]) ]
issue_decided (One p) Clash = inr (λ h. elim h [ inl e ↦ cc | inr e ↦ cc ])
issue_decided Clash Unknown = inr (λ h. elim h [ inl e ↦ cc | inr e ↦ cc ])
issue_decided Clash (One r) = inr (λ h. elim h [ inl e ↦ cc | inr e ↦ cc ])
issue_decided Clash Clash = inl (inr refl)

issued_decided : (n : ℕ) (q f : Queries) → Bounded n q → Decided ((m : ℕ) → IssuesPart (q.issued m) (f.issued m))
issued_decided n q f b =
    decided_like ((m : ℕ) → m < n → IssuesPart (q.issued m) (f.issued m)) _
    (λ all m. elim (cases_lt m n) [ inl less ↦ all m less | inr ge ↦ inl (b.issued m ge) ]) (λ all m lt. all m)
    (all_below (λ m. IssuesPart (q.issued m) (f.issued m)) (λ m. issue_decided (q.issued m) (f.issued m)) n)

-- of each kind of query it tells nothing else than the other
abbrev PartOfEach : Queries → Queries → Type 0
PartOfEach q f =
    ((c : CellPlace) (k : ℕ) → q.loaded c k ≡ true → f.loaded c k ≡ true)
    × (((c : CellPlace) → q.done c ≡ true → f.done c ≡ true) × (((m : ℕ) → q.opened m ≤ f.opened m) × ((m : ℕ) → IssuesPart (q.issued m) (f.issued m))))

-- what the board tells is a part, or not
pub part_decided : (b : BoardValue) (f : Queries) → Decided (IsPartOf (queries_of b) f)
part_decided b f =
    let q = queries_of b in
    let bound : Bounded (limit_of b) q = board_bounded b in
    decided_like (PartOfEach q f) (IsPartOf q f)
    (λ x. record { loaded = x.0; done = x.1.0; opened = x.1.1.0; issued = x.1.1.1 })
    (λ part. (part.loaded, (part.done, (part.opened, part.issued))))
    (decided_both _ _ (loaded_decided (limit_of b) q f bound)
    (decided_both _ _ (done_decided (limit_of b) q f bound)
    (decided_both _ _ (opened_decided (limit_of b) q f bound) (issued_decided (limit_of b) q f bound))))
