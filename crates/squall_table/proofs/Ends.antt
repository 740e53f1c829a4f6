-- The legs about a bound, by the leg at it.
use Rattle.std.proofs.Common.{◌≡◌, ℕ, zero, suc, ◌-◌, ◌<◌, ◌≤◌, List, [], ◌∷◌, length, get_or, refl, ap, subst, arith}
use Rattle.std.proofs.lemmas.List.{get_or_default}
use Rattle.squall_key.specs.Keys.{top}
use Rattle.squall_plan.specs.declared.range.PlanRange.{PlanRange}
use Rattle.squall_table.specs.Legs.{Legs, IsAt, EndsAt}
use Rattle.squall_table.specs.LegLaws.{legs_at}
use Rattle.squall_table.proofs.Kept.{legs_next}
use Rattle.squall_table.proofs.Among.{last_ends}

-- ---- the leg of the key before a bound

pub ends_last : (f : ℕ → ℕ) (k i : ℕ) (ls : List PlanRange) → Legs f 0 top ls → suc i ≡ length ls → k ≡ top → EndsAt ls k i
ends_last f k i ls t e is = record {
  within = omega (arith, e);
  from = λ d. let at = legs_at f 0 top ls i d t (omega (arith, e)) in let end = last_ends f 0 top ls i d t e in omega (arith, at.full, end, is);
  below = λ d. let end = last_ends f 0 top ls i d t e in omega (arith, end, is);
}

pub ends_here : (k i : ℕ) (ls : List PlanRange) → IsAt ls k i → ((d : PlanRange) → (get_or ls i d).span.lo < k) → EndsAt ls k i
ends_here k i ls at lt = record { within = at.within; from = lt; below = λ d. omega (arith, at.below d) }

-- the leg before the one that begins at the bound
pub ends_before : (f : ℕ → ℕ) (k i : ℕ) (ls : List PlanRange) (x : PlanRange) → Legs f 0 top ls → IsAt ls k i → 0 < k → x ≡ get_or ls i x → k ≤ x.span.lo → EndsAt ls k (i - 1)
ends_before f k zero [] x t at pos is ge = absurd (omega (arith, t))
ends_before f k zero (l ∷ ls) x t at pos is ge = let low : l.span.lo ≡ 0 = t.0 in absurd (omega (arith, at.from x, ap (λ (l : PlanRange). l.span.lo) is, low))
ends_before f k (suc j) ls x t at pos is ge =
    let same : j ≡ suc j - 1 = omega arith in
    subst (λ n. EndsAt ls k n) same (record {
      within = omega (arith, at.within);
      from = λ d.
          let next = legs_next f 0 top ls j (suc j) d t refl at.within in
          let one = legs_at f 0 top ls j d t (omega (arith, at.within)) in
          omega (arith, next, at.from d, one.full);
      below = λ d.
          let next = legs_next f 0 top ls j (suc j) x t refl at.within in
          let here = ap (λ (l : PlanRange). l.span.lo) is in
          let other = ap (λ (l : PlanRange). l.span.hi) (get_or_default ls j x d (omega (arith, at.within))) in
          omega (arith, next, here, other, ge);
    })

pub some_legs : (f : ℕ → ℕ) (ls : List PlanRange) → Legs f 0 top ls → 0 < length ls
some_legs f [] t = absurd (omega (arith, t))
some_legs f (x ∷ xs) t = omega arith
