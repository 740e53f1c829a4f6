-- The first values of nodes are such as their types can have.
use Rattle.std.proofs.Common.{◌≡◌, ℕ, ◌≤◌, ◌==◌, nat_lt, Bool, true, false, cond, List, [], Option, None, Some, refl, sym, ap, subst, ◌∙◌, arith, inl}
use Rattle.std.specs.Prelude.{◌||◌}
use Rattle.std.specs.Option.{option_map}
use Rattle.std.proofs.lemmas.Option.{same_Some, none-some}
use Rattle.squall_plan.specs.declared.range.PlanRange.{PlanRange}
use Rattle.squall_plan.specs.Ranges.{names}
use Rattle.squall_course.specs.Change.{Change, ArePlans}
use Rattle.squall_join.specs.declared.flat.Flat.TheVariants.{One}
use Rattle.squall_report.specs.Issues.{plan_pair}
use Rattle.squall_board.specs.Boards.{BoardValue, IsBoard, empty_board, report_board}
use Rattle.squall_board.specs.BoardLaws.{join_is, empty_is, issue_board_is}
use Rattle.squall_protocol.specs.Steps.{IsPlan}
use Rattle.squall_part.specs.Parts.{PartValue, IsPart, Log, log_with, new_part, known_to}
use Rattle.squall_part.proofs.Held.{ranges_set}
use Rattle.squall_leader.specs.Leaders.{IsLeader, new_leader, after_begin, issue_report}
use Rattle.squall_router.specs.Routers.{RouterValue, router_with}
use Rattle.squall_nodes.specs.Made.{NewPartsAreParts, FirstSystemsAreSystems}
use Rattle.squall_nodes.specs.Systems.{first_change}
use Rattle.squall_nodes.proofs.Numbers.{eq_same, eq_refl}

-- ---- a partition

known_is : (p : ℕ) (c : Change) (n : ℕ) (d : Change) → known_to (new_part p c) n ≡ Some d → option_map (λ (l : Log). l.course) (cond (c.number == n) (Some (log_with c [] [] false)) None) ≡ Some d
known_is p c n d e = by (n == c.number) refl e
  where
    by : (b : Bool) → (n == c.number) ≡ b → cond b (Some c) None ≡ Some d → option_map (λ (l : Log). l.course) (cond (c.number == n) (Some (log_with c [] [] false)) None) ≡ Some d
    by true is e = ap (λ m. option_map (λ (l : Log). l.course) (cond (c.number == m) (Some (log_with c [] [] false)) None)) (eq_same n c.number is) ∙ ap (λ b. option_map (λ (l : Log). l.course) (cond b (Some (log_with c [] [] false)) None)) (eq_refl c.number) ∙ e
    by false is e = absurd (none-some d e)

pub new_parts_are_parts : NewPartsAreParts
new_parts_are_parts p c plans = record {
  board = empty_is;
  plans = plans;
  held = ranges_set p c.old plans.old_canonical plans.old_ranges;
  logs = (record { plans = plans; given = (tt, tt); loaded = (tt, tt) }, tt);
  rising = (tt, tt);
  heard = (inl refl, tt);
  known = known_is p c;
}

-- ---- all of them

pub plans_are : (old new : List PlanRange) → IsPlan old → IsPlan new → ArePlans old new
plans_are old new a b = record { old_canonical = a.canonical; new_canonical = b.canonical; old_ranges = a.ranges; new_ranges = b.ranges }

-- where a course is begun
one_begun : (old new : List PlanRange) (n : ℕ) (b : BoardValue) → IsPlan old → IsPlan new → IsBoard b → 1 ≤ n → IsLeader (record { plan = new; last = n; course = Some (record { number = n; old = old; new = new }); opened = 0; board = b })
one_begun old new n b old_is new_is board some = record {
  board = board;
  canonical = new_is.canonical;
  ranges = new_is.ranges;
  course = λ e same. let one = that e same in (ap (λ (d : Change). d.new) one, ap (λ (d : Change). d.number) one);
  numbered = λ e same. let one = ap (λ (d : Change). d.number) (that e same) in omega (arith, some, one);
  plans = λ e same. rw (that e same) (plans_are old new old_is new_is);
  opened = λ e same. omega arith;
}
  where
    that : (e : Change) → ◌≡◌ {A = Option Change} (Some (record { number = n; old = old; new = new })) (Some e) → e ≡ record { number = n; old = old; new = new }
    that e same = sym (same_Some (record { number = n; old = old; new = new }) e same)

first_leader_is : (old new : List PlanRange) → IsPlan old → IsPlan new → IsLeader (after_begin (new_leader old 0) (first_change old new))
first_leader_is old new a b =
    one_begun old new 1 (after_begin (new_leader old 0) (first_change old new)).board a b
    (join_is empty_board (report_board (issue_report (first_change old new))) empty_is (issue_board_is 1 (One (plan_pair old new)) (omega arith))) (omega arith)

pub first_systems_are_systems : FirstSystemsAreSystems
first_systems_are_systems old new routers a b = record { leader = first_leader_is old new a b; parts = λ p x e. parts p x (names old p || names new p) e; routers = λ r x e. boards r x (nat_lt r routers) e; messages = tt }
  where
    parts : (p : ℕ) (x : PartValue) (there : Bool) → cond there (Some (new_part p (first_change old new))) None ≡ Some x → IsPart x
    parts p x true e = subst IsPart (same_Some (new_part p (first_change old new)) x e) (new_parts_are_parts p (first_change old new) (plans_are old new a b))
    parts p x false e = absurd (none-some x e)

    boards : (r : ℕ) (x : RouterValue) (there : Bool) → cond there (Some (router_with (first_change old new) empty_board)) None ≡ Some x → IsBoard x.board
    boards r x true e = subst (λ (y : RouterValue). IsBoard y.board) (same_Some (router_with (first_change old new) empty_board) x e) empty_is
    boards r x false e = absurd (none-some x e)
