-- How contracts see the stage that the code keeps, for `Scenario`'s model, and what of it the definition speaks of.
use Rattle.std.specs.Prelude.{◌≡◌}
use Rattle.squall_board.specs.Boards.{BoardValue, empty_board}
use Rattle.squall_world_rows.specs.Seen.{RowNetValue}
use Rattle.squall_world_rows.specs.Maps.{mapped}
use Rattle.squall_cli_scenario.specs.declared.scenario.Stage.{Stage}
use Rattle.squall_cli_scenario.specs.declared.scenario.Stage.TheVariants.{Unplanned, Planned, Running, Happening}
use Rattle.squall_cli_scenario.specs.State.{StageOf, NoPlan, OldPlan, BothPlans, InWorld, StageState, ScenarioOf, ScenarioState}

-- the plans that are read: both are those of the router's first course; or the world that takes events
abbrev pub stage_seen : Stage → StageOf RowNetValue
stage_seen Unplanned = NoPlan
stage_seen (Planned old) = OldPlan old
stage_seen (Running router) = BothPlans router.first.old router.first.new
stage_seen (Happening world) = InWorld world

-- what was reported: before both plans are read nothing can be, and in a world each node has a board of its own
abbrev pub board_seen : Stage → BoardValue
board_seen Unplanned = empty_board
board_seen (Planned old) = empty_board
board_seen (Running router) = router.board
board_seen (Happening world) = empty_board

-- the router's first course has the first number
abbrev pub IsFirstCourse : Stage → Type 0
IsFirstCourse Unplanned = Unit {0}
IsFirstCourse (Planned old) = Unit {0}
IsFirstCourse (Running router) = router.first.number ≡ 1
IsFirstCourse (Happening world) = Unit {0}

-- ---- the definition's scenario

abbrev pub stage_meant : StageOf RowNetValue → StageState
stage_meant NoPlan = NoPlan
stage_meant (OldPlan old) = OldPlan old
stage_meant (BothPlans old new) = BothPlans old new
stage_meant (InWorld net) = InWorld (mapped net)

-- the scenario that the definition speaks of: its world is what the code keeps, seen as a world with one map
abbrev pub meant : ScenarioOf RowNetValue → ScenarioState
meant s = record { line = s.line; stage = stage_meant s.stage; board = s.board; feed = s.feed }
