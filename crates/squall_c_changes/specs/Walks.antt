-- A walk along the legs of two tables (this project).
use Rattle.std.specs.Prelude.{◌≡◌, ℕ, ◌<◌, ◌≤◌, nat_le, Bool, true, false, List, [], ◌∷◌, Option, None, Some, if◌then◌else◌}
use Rattle.squall_key.specs.Keys.{top}
use Rattle.squall_plan.specs.declared.range.PlanRange.{PlanRange}
use Rattle.squall_plan.specs.Ranges.{owner_of, IsTiling}
use Rattle.squall_c_values.specs.declared.spans.CSpan.{CSpan}
use Rattle.squall_c_changes.specs.Changes.{differs}

-- ---- the legs of one table

-- where the first leg ends
abbrev pub first_end : List PlanRange → ℕ
first_end [] = top
first_end (l ∷ ls) = l.span.hi

-- its partition
abbrev pub first_part : List PlanRange → ℕ
first_part [] = 0
first_part (l ∷ ls) = l.part

-- the first leg is dropped if it ends at the rank or below, and another one follows
abbrev pub passed : ℕ → List PlanRange → List PlanRange
passed rank [] = []
passed rank (l ∷ []) = l ∷ []
passed rank (l ∷ m ∷ ls) = if nat_le l.span.hi rank then m ∷ ls else l ∷ m ∷ ls

-- the first leg has the rank, and the others follow it up to the top
abbrev pub Covers : ℕ → List PlanRange → Type 0
Covers at [] = ⊥
Covers at (l ∷ ls) = (l.span.lo ≤ at) × (at < l.span.hi) × IsTiling l.span.hi top ls

-- the legs that are left have the owners of a route from the rank on
pub record AreLeft (to_part : ℕ → ℕ) (at : ℕ) (ls : List PlanRange) : Type 0 where
  pub covers : at < top → Covers at ls
  pub owners : (k : ℕ) → at ≤ k → k < top → owner_of ls k ≡ to_part k

-- ---- the walk

-- both tables, the rank that is reached, and the one at which the walk ends
pub record WalkValue : Type 0 where
  pub old_table : List PlanRange
  pub new_table : List PlanRange
  pub at : ℕ
  pub hi : ℕ

abbrev pub walk_over : List PlanRange → List PlanRange → ℕ → ℕ → WalkValue
walk_over old_table new_table at hi = record { old_table = old_table; new_table = new_table; at = at; hi = hi }

-- the same walk at another rank
abbrev pub walk_at : WalkValue → ℕ → WalkValue
walk_at w at = walk_over w.old_table w.new_table at w.hi

-- the tables differ at the key
abbrev pub differs_on : WalkValue → ℕ → Bool
differs_on w k = differs (owner_of w.old_table) (owner_of w.new_table) k

-- the legs that are left of both tables
pub record IsWalk (w : WalkValue) (before after : List PlanRange) : Type 0 where
  pub old_left : AreLeft (owner_of w.old_table) w.at before
  pub new_left : AreLeft (owner_of w.new_table) w.at after
  pub within : w.at ≤ w.hi
  pub high : w.hi ≤ top

-- the next longest span in which the tables differ, after which the walk has reached a rank
pub record IsNextChange (w : WalkValue) (s : CSpan) (at : ℕ) : Type 0 where
  pub from : w.at ≤ s.lo
  pub some : s.lo < s.hi
  pub within : s.hi ≤ w.hi
  pub before : (k : ℕ) → w.at ≤ k → k < s.lo → differs_on w k ≡ false
  pub keys : (k : ℕ) → s.lo ≤ k → k < s.hi → differs_on w k ≡ true
  pub after : s.hi < w.hi → differs_on w s.hi ≡ false
  pub ends : at ≡ s.hi

-- or there is none
abbrev pub NextChange : WalkValue → Option CSpan → ℕ → Type 0
NextChange w None at = (k : ℕ) → w.at ≤ k → k < w.hi → differs_on w k ≡ false
NextChange w (Some s) at = IsNextChange w s at
