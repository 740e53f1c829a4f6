-- Runs of a world, with the answers that they add to a list.
use Rattle.std.specs.Prelude.{◌≡◌, List, ◌++◌}
use Rattle.squall_protocol.specs.declared.event.Event.{Event}
use Rattle.squall_protocol.specs.declared.answer.Answer.{Answer}
use Rattle.squall_protocol.specs.Worlds.{WorldValue}
use Rattle.squall_protocol.specs.Steps.{Run}
use Rattle.squall_protocol.specs.Promises.{IsReached}
use Rattle.squall_world.specs.Nets.{NetValue, IsNet}
use Rattle.squall_world.specs.Views.{view}

-- the world takes the events, and their answers are added at the end of the list
abbrev pub IsRun : WorldValue → List Event → List Answer → WorldValue → List Answer → Type 0
IsRun w events before v after = (answers : List Answer) × Run w events answers v × (after ≡ before ++ answers)

-- what a world keeps, and that a run from two plans leads to what is seen of it
pub record IsWorld (n : NetValue) : Type 0 where
  pub net : IsNet n
  pub reached : IsReached (view n)
