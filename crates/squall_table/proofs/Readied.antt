-- Tables with a patch that is made or left out.
use Rattle.std.proofs.Common.{◌≡◌, ℕ, ◌<◌, Bool, true, false, cond, List, refl, sym, subst, arith}
use Rattle.squall_key.specs.Keys.{top, part_limit}
use Rattle.squall_span.specs.Spans.{Interval, has}
use Rattle.squall_plan.specs.declared.range.PlanRange.{PlanRange}
use Rattle.squall_plan.specs.Ranges.{owner_of, AreRanges}
use Rattle.squall_plan.specs.PlanLaws.{are_parts, owner_low}
use Rattle.squall_course.specs.Change.{Change, ArePlans}
use Rattle.squall_course.specs.Moves.{moves_of, AreMoves}
use Rattle.squall_report.specs.Facts.{Fact}
use Rattle.squall_report.specs.Told.{TellsBoth}
use Rattle.squall_board.specs.Boards.{BoardValue, IsBoard, board_join, says, told}
use Rattle.squall_board.specs.BoardLaws.{tells_both}
use Rattle.squall_board.specs.MovesRoute.{route_by_moves}
use Rattle.squall_board.specs.MovesRouteLaws.{route_by_moves_is}
use Rattle.squall_table.specs.declared.routes.Heard.TheVariants.{All}
use Rattle.squall_table.specs.Legs.{said}
use Rattle.squall_table.specs.LegLaws.{are_legs, canonical_of_legs, legs_are_ranges}
use Rattle.squall_table.specs.Patching.{renewed, IsRenewed}
use Rattle.squall_table.specs.Readiness.{AreLegLists, Absorbs}
use Rattle.squall_table.specs.Touched.{is_touched}
use Rattle.squall_table.proofs.Built.{route_low}
use Rattle.squall_table.proofs.Renewed.{absorbed_legs}
use Rattle.squall_table.proofs.Touching.{changes_touched}

-- renewed legs are of partitions that there can be
pub renewed_ranges : (c : Change) (heard : Fact → Bool) (set : List Interval) (old new : List PlanRange) → AreMoves c.old c.new (moves_of c.old c.new) → ArePlans c.old c.new → AreRanges old → IsRenewed c heard set old new → AreRanges new
renewed_ranges c heard set old new are plans ranges l =
    let r : ℕ → ℕ = route_by_moves c.number c.old (moves_of c.old c.new) heard in
    let inside : (k : ℕ) → r k < part_limit = λ k. subst (λ n. n < part_limit) (sym (route_by_moves_is c heard (moves_of c.old c.new) k are)) (route_low c heard k plans) in
    let outside : (k : ℕ) → owner_of old k < part_limit = λ k. owner_low old k (are_parts old ranges) in
    legs_are_ranges (renewed set r (owner_of old)) 0 top new (λ k. by (has set k) (r k) (owner_of old k) (inside k) (outside k)) (omega arith) l
  where
    by : (b : Bool) (p q : ℕ) → p < part_limit → q < part_limit → cond b p q < part_limit
    by true p q x y = x
    by false p q x y = y

-- legs and those that renew some of them
pub leg_lists : (c : Change) (heard : Fact → Bool) (set : List Interval) (old new : List PlanRange) → AreMoves c.old c.new (moves_of c.old c.new) → ArePlans c.old c.new → Rattle.squall_plan.specs.Ranges.IsCanonical old → AreRanges old → IsRenewed c heard set old new → AreLegLists old new
leg_lists c heard set old new are plans canonical ranges l = record {
  old_canonical = canonical;
  old_ranges = ranges;
  new_canonical = canonical_of_legs _ new l;
  new_ranges = renewed_ranges c heard set old new are plans ranges l;
}

-- legs that are renewed for the keys that news touch are the table of each board with the news
pub absorbs : (c : Change) (d : BoardValue) (set : List Interval) (old new : List PlanRange) → AreMoves c.old c.new (moves_of c.old c.new) → IsBoard d → ((k : ℕ) → has set k ≡ is_touched c (says d) k) → IsRenewed c (said All) set old new → Absorbs c d old new
absorbs c d set old new are is_d touched l b is_b table =
    let both : TellsBoth (told (board_join b d)) (told b) (told d) = tells_both b d is_b.nested is_d.nested in
    are_legs _ 0 top new (absorbed_legs c b (board_join b d) d set old new (moves_of c.old c.new) (said All) are (λ f. refl) table touched both (changes_touched c set b (board_join b d) d touched both) l)
