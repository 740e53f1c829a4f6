-- Laws of pairs of plans: the test tells them apart.
use Rattle.std.specs.Prelude.{◌≡◌, true, List}
use Rattle.std.proofs.Common.{subst, arith, Decides}
use Rattle.std.proofs.lemmas.Bool.Decides.{nat_tests}
use Rattle.std.specs.Cmp.{IsEquivalence, and_equiv, on_equiv, first_so, second_so}
use Rattle.std.specs.Cmp.Lexicographic.{pointwise_decides}
use Rattle.squall_span.specs.Spans.{interval}
use Rattle.squall_join.specs.Flats.{IsExactEq}
use Rattle.squall_plan.specs.declared.range.PlanRange.{PlanRange}
use Rattle.squall_plan.specs.Equal.{is_same_range, are_same_ranges}
use Rattle.squall_plan.specs.EqualLaws.{ranges_equal}
use Rattle.squall_report.specs.Issues.{plan_pair, is_same_pair}

same_range : (r s : PlanRange) → is_same_range r s ≡ true → r ≡ s
same_range r s e =
    let lo : r.span.lo ≡ s.span.lo = grind (arith, nat_tests) in
    let hi : r.span.hi ≡ s.span.hi = grind (arith, nat_tests) in
    let part : r.part ≡ s.part = grind (arith, nat_tests) in
    λ i. record { span = interval (lo i) (hi i); part = part i }

range_itself : (r : PlanRange) → is_same_range r r ≡ true
range_itself r = grind (arith, nat_tests)

range_decides : (r s : PlanRange) → Decides (is_same_range r s) (r ≡ s)
range_decides r s = (same_range r s, λ e. subst (λ t. is_same_range r t ≡ true) e (range_itself r))

ranges_decide : (rs ss : List PlanRange) → Decides (are_same_ranges rs ss) (rs ≡ ss)
ranges_decide rs ss = pointwise_decides range_decides rs ss

pub pairs_equal : IsEquivalence is_same_pair
pairs_equal = and_equiv (on_equiv (λ p. p.old) ranges_equal) (on_equiv (λ p. p.new) ranges_equal)

pub same_pairs_are_equal : IsExactEq (λ _. Unit {0}) is_same_pair
same_pairs_are_equal = record {
  same = λ x y a b e.
      let old : x.old ≡ y.old = (ranges_decide x.old y.old).0 (first_so _ _ e) in
      let new : x.new ≡ y.new = (ranges_decide x.new y.new).0 (second_so _ _ e) in
      λ i. plan_pair (old i) (new i);
  itself = λ x a. pairs_equal.refl x;
}
