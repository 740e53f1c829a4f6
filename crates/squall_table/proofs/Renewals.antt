-- Sets of keys that are renewed run by run.
use Rattle.std.proofs.Common.{◌≡◌, ℕ, zero, suc, ◌+◌, ◌-◌, ◌≤◌, Bool, true, false, cond, List, [], ◌∷◌, length, take, drop, refl, sym, ap, ◌∙◌, subst, arith}
use Rattle.std.specs.Prelude.{◌||◌}
use Rattle.std.proofs.Math.Seq.{take-add}
use Rattle.std.proofs.lemmas.List.{take_all}
use Rattle.squall_key.specs.Keys.{top}
use Rattle.squall_span.specs.Spans.{Interval, has, Beyond, IsCanonical, IsSet, EndsBy}
use Rattle.squall_span.specs.SpanLaws.{has-append}
use Rattle.squall_plan.specs.declared.range.PlanRange.{PlanRange}
use Rattle.squall_plan.specs.Ranges.{owner_of}
use Rattle.squall_plan.specs.Ranges.{IsCanonical as IsCanonicalTable}
use Rattle.squall_table.specs.Legs.{Legs}
use Rattle.squall_table.specs.LegLaws.{legs_as, owner_is, canonical_legs}
use Rattle.squall_table.specs.Patching.{renewed}
use Rattle.squall_table.proofs.Picks.{canonical_drop}

-- ---- a run of a set

beyond_take : (h n : ℕ) (ss : List Interval) → Beyond h ss → Beyond h (take n ss)
beyond_take h zero ss b = tt
beyond_take h (suc n) [] b = tt
beyond_take h (suc n) (s ∷ ss) b = b

canonical_take : (n : ℕ) (ss : List Interval) → IsCanonical ss → IsCanonical (take n ss)
canonical_take zero ss c = tt
canonical_take (suc n) [] c = tt
canonical_take (suc n) (s ∷ ss) c = (c.0, beyond_take s.hi n ss c.1, canonical_take n ss c.2)

ends_take : (h n : ℕ) (ss : List Interval) → EndsBy h ss → EndsBy h (take n ss)
ends_take h zero ss e = tt
ends_take h (suc n) [] e = tt
ends_take h (suc n) (s ∷ ss) e = (e.0, ends_take h n ss e.1)

ends_drop : (h n : ℕ) (ss : List Interval) → EndsBy h ss → EndsBy h (drop n ss)
ends_drop h zero ss e = e
ends_drop h (suc n) [] e = tt
ends_drop h (suc n) (s ∷ ss) e = ends_drop h n ss e.1

pub run_is_set : (n m : ℕ) (ss : List Interval) → IsSet ss → IsSet (take m (drop n ss))
run_is_set n m ss s = (canonical_take m (drop n ss) (canonical_drop ss n s.0), ends_take top m (drop n ss) (ends_drop top n ss s.1))

-- ---- one run more

-- nothing is renewed yet
pub none_renewed : (r : ℕ → ℕ) (ls : List PlanRange) (set : List Interval) → IsCanonicalTable ls → Legs (renewed (take 0 set) r (owner_of ls)) 0 top ls
none_renewed r ls set c = canonical_legs ls c

chosen : (a b : Bool) (p q : ℕ) → cond (a || b) p q ≡ cond b p (cond a p q)
chosen true true p q = refl
chosen true false p q = refl
chosen false true p q = refl
chosen false false p q = refl

pub run_renewed : (r own : ℕ → ℕ) (set part : List Interval) (n m : ℕ) (ls ls' : List PlanRange) → n ≤ m → part ≡ take (m - n) (drop n set) → Legs (renewed (take n set) r own) 0 top ls → Legs (renewed part r (owner_of ls)) 0 top ls'
    → Legs (renewed (take m set) r own) 0 top ls'
run_renewed r own set part n m ls ls' le is l l' =
    let there : n + (m - n) ≡ m = omega (arith, le) in
    let both : (k : ℕ) → has (take m set) k ≡ (has (take n set) k || has part k) = λ k.
    ap (λ i. has (take i set) k) (sym there) ∙ ap (λ t. has t k) (take-add n (m - n) set) ∙ has-append (take n set) (take (m - n) (drop n set)) k ∙ ap (λ t. has (take n set) k || has t k) (sym is) in
    legs_as (renewed part r (owner_of ls)) (renewed (take m set) r own) 0 top ls' (λ k from below.
    ap (λ t. cond t (r k) (own k)) (both k) ∙ chosen (has (take n set) k) (has part k) (r k) (own k)
    ∙ ap (λ q. cond (has part k) (r k) q) (sym (owner_is (renewed (take n set) r own) 0 top k ls l from below))) l'

pub all_renewed : (r own : ℕ → ℕ) (set : List Interval) (n : ℕ) (ls : List PlanRange) → length set ≤ n → Legs (renewed (take n set) r own) 0 top ls → Legs (renewed set r own) 0 top ls
all_renewed r own set n ls le l = subst (λ (t : List Interval). Legs (renewed t r own) 0 top ls) (take_all n set le) l
