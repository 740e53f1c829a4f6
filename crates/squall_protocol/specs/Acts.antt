-- What a node can do, and that it is answered (this project).
use Rattle.squall_protocol.specs.declared.event.Event.{Event}
use Rattle.squall_protocol.specs.declared.event.Event.TheVariants.{Begin, BeginFrom}
use Rattle.squall_protocol.specs.declared.answer.Answer.{Answer}
use Rattle.squall_protocol.specs.Worlds.{WorldValue}
use Rattle.squall_protocol.specs.Steps.{IsPlan, Step}
use Rattle.squall_protocol.specs.Promises.{IsReached}

-- a node can do this: a course begins between plans, and nothing else is asked. So what the event names need not be there
abbrev pub IsAct : Event → Type 0
IsAct (Begin plan) = IsPlan plan
IsAct (BeginFrom old new) = IsPlan old × IsPlan new
IsAct _ = Unit {0}

-- there is an answer to the event, and a world after it
abbrev pub HasAnswer : WorldValue → Event → Type 0
HasAnswer w event = (answer : Answer) × (v : WorldValue) × Step w event answer v

-- no world that is reached blocks: each act has an answer there, and a world after it
abbrev pub ActsAreAnswered : Type 0
ActsAreAnswered = (w : WorldValue) (event : Event) → IsReached w → IsAct event → HasAnswer w event
