-- The state of a scenario: what its lines have set up so far (this project's scenario language).
use Rattle.std.specs.Prelude.{ℕ, Bool, List, [], true, false}
use Rattle.squall_plan.specs.declared.range.PlanRange.{PlanRange}
use Rattle.squall_board.specs.Boards.{BoardValue, empty_board}
use Rattle.squall_wire.specs.Hearing.{FeedValue, feed_with}
use Rattle.squall_world_rows.specs.Maps.{MapWorld}

-- How far a scenario is, whose worlds are seen as a W. No plan is read, the old one is, both are, or a world takes events and commands on
-- rows.
pub data StageOf (W : Type 0) : Type 0 where
  NoPlan : StageOf W
  OldPlan : List PlanRange → StageOf W
  BothPlans : List PlanRange → List PlanRange → StageOf W
  InWorld : W → StageOf W

-- A scenario after some lines. It has the count of lines, bad and skipped ones too, and how far it is. It has the board of
-- what was reported, and the feed that hears frames. In a world board and feed rest: its nodes have boards of their own.
pub record ScenarioOf (W : Type 0) : Type 0 where
  pub line : ℕ
  pub stage : StageOf W
  pub board : BoardValue
  pub feed : FeedValue

-- its world has one map of rows: no partition or chunk has rows here
abbrev pub StageState : Type 0
StageState = StageOf MapWorld

abbrev pub ScenarioState : Type 0
ScenarioState = ScenarioOf MapWorld

-- a scenario before its first line
abbrev pub at_start : ScenarioState
at_start = record { line = 0; stage = NoPlan; board = empty_board; feed = feed_with [] false }

-- whether a world takes events
abbrev pub has_world : StageState → Bool
has_world NoPlan = false
has_world (OldPlan old) = false
has_world (BothPlans old new) = false
has_world (InWorld w) = true
