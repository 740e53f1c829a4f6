-- The legs that are left of a walk have the owners of their table.
use Rattle.std.specs.Prelude.{◌≡◌, ◌≢◌, ℕ, ◌<◌, ◌≤◌, nat_lt, nat_le, true, false, List, [], ◌∷◌, refl}
use Rattle.std.proofs.Common.{sym, subst, ◌∙◌, arith, inl, inr}
use Rattle.std.proofs.lemmas.Bool.{cases_lt}
use Rattle.std.proofs.lemmas.Bool.Decides.{nat_tests}
use Rattle.squall_key.specs.Keys.{top}
use Rattle.squall_plan.specs.declared.range.PlanRange.{PlanRange}
use Rattle.squall_plan.specs.Ranges.{owner_of, IsTiling, IsCanonical}
use Rattle.squall_plan.specs.PlanLaws.{owner_first, owner_later, tiling_ends}
use Rattle.squall_table.specs.LegEntries.{legs_beyond}
use Rattle.squall_c_changes.specs.Walks.{first_end, first_part, passed, AreLeft, walk_over, IsWalk}

is_up_to : (a b : ℕ) → a ≤ b → nat_le a b ≡ true
is_up_to a b h = grind (arith, nat_tests)

is_not_up_to : (a b : ℕ) → b < a → nat_le a b ≡ false
is_not_up_to a b h = grind (arith, nat_tests)

is_below : (a b : ℕ) → a < b → nat_lt a b ≡ true
is_below a b h = grind (arith, nat_tests)

is_not_below : (a b : ℕ) → b ≤ a → nat_lt a b ≡ false
is_not_below a b h = grind (arith, nat_tests)

-- the legs of a table from that of a key on
left_from : (at c : ℕ) (ls : List PlanRange) → IsTiling c top ls → c ≤ at → at < top → AreLeft (owner_of ls) at (legs_beyond at ls)
left_from at c [] t from lt = absurd (omega (arith, t, from, lt))
left_from at c (l ∷ ls) t from lt = elim (cases_lt at l.span.hi) [
  | inl here ↦ rw (is_below at l.span.hi here) (record { covers = λ _. (omega (arith, t.0, from), here, t.2); owners = λ k ge le. refl })
  | inr past ↦ (let rest = left_from at l.span.hi ls t.2 past lt in rw (is_not_below at l.span.hi past)
      (record { covers = rest.covers; owners = λ k ge le. rest.owners k ge le ∙ sym (owner_later k l ls (omega (arith, past, ge))) }))
]

pub left_of_table : (at : ℕ) (ls : List PlanRange) → IsCanonical ls → at < top → AreLeft (owner_of ls) at (legs_beyond at ls)
left_of_table at ls is lt = left_from at 0 ls is.tiles (omega arith) lt

-- there is a leg
pub some_left : (f : ℕ → ℕ) (at : ℕ) (ls : List PlanRange) → AreLeft f at ls → at < top → ls ≢ []
some_left f at [] left lt none = left.covers lt
some_left f at (l ∷ ls) left lt none = cc

-- the first leg has the rank that is reached, and ends at the top at most
pub end_ahead : (f : ℕ → ℕ) (at : ℕ) (ls : List PlanRange) → at < top → AreLeft f at ls → (at < first_end ls) × (first_end ls ≤ top)
end_ahead f at [] lt left = absurd (left.covers lt)
end_ahead f at (l ∷ ls) lt left = let c = left.covers lt in (c.1, tiling_ends l.span.hi top ls c.2)

-- each key from there to the end of the first leg goes to its partition
pub part_here : (f : ℕ → ℕ) (at k : ℕ) (ls : List PlanRange) → at < top → AreLeft f at ls → at ≤ k → k < first_end ls → f k ≡ first_part ls
part_here f at k [] lt left from below = absurd (left.covers lt)
part_here f at k (l ∷ ls) lt left from below =
    let c = left.covers lt in
    let high = tiling_ends l.span.hi top ls c.2 in
    sym (left.owners k from (omega (arith, below, high))) ∙ owner_first k l ls (omega (arith, c.0, from)) below

-- what is left at a later rank
pub passed_left : (f : ℕ → ℕ) (at b : ℕ) (ls : List PlanRange) → at < top → AreLeft f at ls → at ≤ b → b ≤ first_end ls → AreLeft f b (passed b ls)
passed_left f at b [] lt left from below = absurd (left.covers lt)
passed_left f at b (l ∷ []) lt left from below =
    let c = left.covers lt in
    record {
      covers = λ high. (omega (arith, c.0, from), omega (arith, c.2, high), c.2);
      owners = λ k ge le. left.owners k (omega (arith, from, ge)) le;
    }
passed_left f at b (l ∷ m ∷ ms) lt left from below =
    let c = left.covers lt in
    elim (cases_lt b l.span.hi) [
      | inl within ↦ rw (is_not_up_to l.span.hi b within)
          (record {
            covers = λ high. (omega (arith, c.0, from), within, c.2);
            owners = λ k ge le. left.owners k (omega (arith, from, ge)) le;
          })
      | inr past ↦ rw (is_up_to l.span.hi b past)
          (record {
            covers = λ high. (omega (arith, c.2.0, past), omega (arith, c.2.1, c.2.0, below), c.2.2);
            owners = λ k ge le. sym (owner_later k l (m ∷ ms) (omega (arith, past, ge))) ∙ left.owners k (omega (arith, from, ge)) le;
          })
    ]

-- a walk begins
pub begins : (old new : List PlanRange) (from at hi : ℕ) (before after : List PlanRange) → at ≡ from → AreLeft (owner_of old) from before → AreLeft (owner_of new) from after → from ≤ hi → hi ≤ top → IsWalk (walk_over old new at hi) before after
begins old new from at hi before after e left left' le high = subst (λ a. IsWalk (walk_over old new a hi) before after) (sym e)
    (record { old_left = left; new_left = left'; within = le; high = high })

-- no rank from the top on has an owner
pub owner_past : (c : ℕ) (ls : List PlanRange) → IsTiling c top ls → (k : ℕ) → top ≤ k → owner_of ls k ≡ 0
owner_past c [] t k past = refl
owner_past c (l ∷ ls) t k past = let high = tiling_ends l.span.hi top ls t.2 in owner_later k l ls (omega (arith, high, past)) ∙ owner_past l.span.hi ls t.2 k past
