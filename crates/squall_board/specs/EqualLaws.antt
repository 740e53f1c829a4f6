-- The comparison of boards tells them apart.
use Rattle.std.specs.Prelude.{◌≡◌, ℕ, Bool, true, false, ◌&&◌, ◌==◌, IsTrue, ◌↔◌, refl}
use Rattle.std.proofs.Common.{ap, ◌∙◌, sym, arith, Decides}
use Rattle.std.proofs.lemmas.Bool.{true≢false}
use Rattle.std.proofs.lemmas.Bool.Decides.{nat_tests}
use Rattle.std.specs.Bool.{one_answer}
use Rattle.std.specs.Cmp.{IsEquivalence, decided, first_so, second_so}
use Rattle.std.specs.Cmp.Lexicographic.{pointwise_decides}
use Rattle.squall_span.specs.Spans.{interval, interval_eq, spans_eq}
use Rattle.squall_join.specs.declared.flat.Flat.{Flat}
use Rattle.squall_join.specs.declared.flat.Flat.TheVariants.{Unknown, One, Clash}
use Rattle.squall_join.specs.PairLaws.{same_pair}
use Rattle.squall_report.specs.Issues.{PlanPair, is_same_pair}
use Rattle.squall_report.specs.IssueLaws.{same_pairs_are_equal}
use Rattle.squall_board.specs.Boards.{BoardValue, openings_in, issues_in, cells_in}
use Rattle.squall_board.specs.Equal.{is_same_flat, are_same_entries, is_same_flag, is_same_cell_value, is_same_board}

abbrev Tells : {V : Type 0} → (V → V → Bool) → Type 0
Tells {V} E = (x y : V) → Decides (E x y) (x ≡ y)

both_decide : (s t : Bool) (P Q R : Type 0) → Decides s P → Decides t Q → (P → Q → R) → (R → P) → (R → Q) → Decides (s && t) R
both_decide s t P Q R a b make one two = (λ e. make (a.0 (first_so s t e)) (b.0 (second_so s t e)), λ r. both_true s t (a.1 (one r)) (b.1 (two r)))
  where
    both_true : (s t : Bool) → s ≡ true → t ≡ true → (s && t) ≡ true
    both_true s t p q = ap (λ x. x && t) p ∙ q

nat_decides : Tells {V = ℕ} ◌==◌
nat_decides x y = (λ e. grind (arith, nat_tests), λ e. grind (arith, nat_tests))

flag_decides : Tells is_same_flag
flag_decides true true = (λ e. refl, λ e. refl)
flag_decides true false = (λ e. sym e, λ e. sym e)
flag_decides false true = (λ e. e, λ e. e)
flag_decides false false = (λ e. refl, λ e. refl)

span_decides : Tells interval_eq
span_decides s t = both_decide (s.lo == t.lo) (s.hi == t.hi) (s.lo ≡ t.lo) (s.hi ≡ t.hi) (s ≡ t) (nat_decides s.lo t.lo) (nat_decides s.hi t.hi) (λ p q i. interval (p i) (q i)) (ap (λ x. x.lo)) (ap (λ x. x.hi))

pair_decides : Tells is_same_pair
pair_decides p q = (same_pairs_are_equal.same p q tt tt, λ e. ap (is_same_pair p) (sym e) ∙ same_pairs_are_equal.itself p tt)

abbrev pair_in : PlanPair → Flat PlanPair → PlanPair
pair_in d Unknown = d
pair_in d (One p) = p
pair_in d Clash = d

-- which of the three
abbrev kind_of : Flat PlanPair → ℕ
kind_of Unknown = 0
kind_of (One p) = 1
kind_of Clash = 2

unlike : (x y : Flat PlanPair) → (kind_of x ≡ kind_of y → ⊥) → Decides false (x ≡ y)
unlike x y differ = (λ e. absurd (true≢false (sym e)), λ e. absurd (differ (ap kind_of e)))

flat_decides : Tells is_same_flat
flat_decides Unknown Unknown = (λ e. refl, λ e. refl)
flat_decides Unknown (One q) = unlike Unknown (One q) (λ e. omega (arith, e))
flat_decides Unknown Clash = unlike Unknown Clash (λ e. omega (arith, e))
flat_decides (One p) Unknown = unlike (One p) Unknown (λ e. omega (arith, e))
flat_decides (One p) (One q) = (λ e. ap One ((pair_decides p q).0 e), λ e. (pair_decides p q).1 (ap (pair_in p) e))
flat_decides (One p) Clash = unlike (One p) Clash (λ e. omega (arith, e))
flat_decides Clash Unknown = unlike Clash Unknown (λ e. omega (arith, e))
flat_decides Clash (One q) = unlike Clash (One q) (λ e. omega (arith, e))
flat_decides Clash Clash = (λ e. refl, λ e. refl)

cell_decides : Tells is_same_cell_value
cell_decides x y = both_decide (spans_eq x.first y.first) (is_same_flag x.second y.second) (x.first ≡ y.first) (x.second ≡ y.second) (x ≡ y) (pointwise_decides span_decides x.first y.first) (flag_decides x.second y.second) (λ p q. same_pair _ _ _ _ p q) (ap (λ v. v.first)) (ap (λ v. v.second))

entry_decides : {V : Type 0} (E : V → V → Bool) → Tells E → Tells {V = ℕ × V} (λ x y. (x.0 == y.0) && E x.1 y.1)
entry_decides E d x y = both_decide (x.0 == y.0) (E x.1 y.1) (x.0 ≡ y.0) (x.1 ≡ y.1) (x ≡ y) (nat_decides x.0 y.0) (d x.1 y.1) (λ p q i. (p i, q i)) (ap (λ v. v.0)) (ap (λ v. v.1))

entries_decide : {V : Type 0} (E : V → V → Bool) → Tells E → Tells (are_same_entries E)
entries_decide E d xs ys = pointwise_decides (entry_decides E d) xs ys

pub boards_decide : (x y : BoardValue) → Decides (is_same_board x y) (x ≡ y)
boards_decide x y =
    both_decide (are_same_entries ◌==◌ (openings_in x) (openings_in y)) _ (openings_in x ≡ openings_in y) ((issues_in x ≡ issues_in y) × (cells_in x ≡ cells_in y)) (x ≡ y)
    (entries_decide ◌==◌ nat_decides (openings_in x) (openings_in y))
    (both_decide (are_same_entries is_same_flat (issues_in x) (issues_in y)) _ (issues_in x ≡ issues_in y) (cells_in x ≡ cells_in y) _
    (entries_decide is_same_flat flat_decides (issues_in x) (issues_in y))
    (entries_decide _ (entries_decide _ (entries_decide is_same_cell_value cell_decides)) (cells_in x) (cells_in y))
    (λ p q. (p, q)) (λ r. r.0) (λ r. r.1))
    (λ p q. same_pair _ _ _ _ (same_pair _ _ _ _ p q.0) q.1)
    (ap openings_in)
    (λ e. (ap issues_in e, ap cells_in e))

pub boards_equal : IsEquivalence is_same_board
boards_equal = decided is_same_board boards_decide

-- a test that answers whether boards are equal
pub same_answer : (r : Bool) (x y z w : BoardValue) → x ≡ z → y ≡ w → (IsTrue r ↔ (x ≡ y)) → r ≡ is_same_board z w
same_answer r x y z w is too iff = one_answer r (is_same_board z w) (λ e. sym is ∙ iff.0 e ∙ too, λ e. iff.1 (is ∙ e ∙ sym too)) (boards_decide z w)
