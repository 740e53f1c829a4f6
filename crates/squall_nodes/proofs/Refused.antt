-- A call that is refused is a step that changes nothing.
use Rattle.std.proofs.Common.{◌≡◌, ℕ, Option, None, Some, subst}
use Rattle.std.proofs.lemmas.Option.{same_Some, none-some}
use Rattle.squall_protocol.specs.declared.event.Event.{Event}
use Rattle.squall_protocol.specs.declared.event.Event.TheVariants.{OpenNext, Begin, BeginFrom, Close, Give, GiveAt, Load, Finish, Send, SendPart, Deliver, Route, Serve}
use Rattle.squall_protocol.specs.declared.answer.Answer.TheVariants.{Refused}
use Rattle.squall_protocol.specs.declared.answer.Refusal.{Refusal}
use Rattle.squall_protocol.specs.declared.answer.Refusal.TheVariants.{NoSuch, NotDone, NoMore, Running, NoNumber, NotOpen, Ended, NothingLeft, ZeroMax, NotOutgoing, Given, NotHeld, Stranger, NotAll, NothingDue, NotKnown}
use Rattle.squall_protocol.specs.Worlds.{WorldValue, SameWorld}
use Rattle.squall_protocol.specs.Steps.{Step}
use Rattle.squall_protocol.specs.WorldLaws.{same_world}
use Rattle.squall_nodes.specs.Standing.{Becomes, refused}

refused_same : (w v : WorldValue) (event : Event) (e : Refusal) → Step w event (Refused e) v → SameWorld v w
refused_same w v OpenNext (NotDone s q) step = step.2
refused_same w v OpenNext NoMore step = step.1
refused_same w v OpenNext e step = absurd step
refused_same w v (Begin plan) Running step = step.1
refused_same w v (Begin plan) NoNumber step = step.2
refused_same w v (Begin plan) e step = absurd step
refused_same w v (BeginFrom old new) Running step = step.1
refused_same w v (BeginFrom old new) NoNumber step = step.2
refused_same w v (BeginFrom old new) e step = absurd step
refused_same w v (Close p) NoSuch step = step.1
refused_same w v (Close p) e step = absurd step
refused_same w v (Give p most) NoSuch step = step.1
refused_same w v (Give p most) NotOpen step = step.2
refused_same w v (Give p most) Ended step = step.2
refused_same w v (Give p most) NothingLeft step = step.2
refused_same w v (Give p most) ZeroMax step = step.3
refused_same w v (Give p most) e step = absurd step
refused_same w v (GiveAt p k) NoSuch step = step.1
refused_same w v (GiveAt p k) NotOpen step = step.2
refused_same w v (GiveAt p k) Ended step = step.2
refused_same w v (GiveAt p k) NotOutgoing step = step.2
refused_same w v (GiveAt p k) Given step = step.2
refused_same w v (GiveAt p k) NotHeld step = step.2
refused_same w v (GiveAt p k) e step = absurd step
refused_same w v (Load i) NoSuch step = step.1
refused_same w v (Load i) NotOpen step = step.1
refused_same w v (Load i) Stranger step = step.1
refused_same w v (Load i) e step = absurd step
refused_same w v (Finish p s) NoSuch step = step.1
refused_same w v (Finish p s) NotOpen step = step.2
refused_same w v (Finish p s) (NotAll span) step = step.2
refused_same w v (Finish p s) NothingDue step = step.2
refused_same w v (Finish p s) e step = absurd step
refused_same w v (Send node) NoSuch step = step.1
refused_same w v (Send node) e step = absurd step
refused_same w v (SendPart node said) NoSuch step = step.1
refused_same w v (SendPart node said) NotKnown step = step.2
refused_same w v (SendPart node said) e step = absurd step
refused_same w v (Deliver i node) NoSuch step = step.1
refused_same w v (Deliver i node) e step = absurd step
refused_same w v (Route r k) NoSuch step = step.1
refused_same w v (Route r k) e step = absurd step
refused_same w v (Serve p k after) NoSuch step = step.1
refused_same w v (Serve p k after) e step = absurd step

-- what a refused call comes to: the refusal is a step to the same world
pub refused_step : (w : WorldValue) (event : Event) (o : Option Refusal) (e : Refusal) (After : WorldValue → Type 0) → Becomes w event (refused o) After → o ≡ Some e → Step w event (Refused e) w
refused_step w event None e After b is = absurd (none-some e is)
refused_step w event (Some d) e After (v, step, after) is =
    subst (λ x. Step w event (Refused x) w) (same_Some d e is) (subst (Step w event (Refused d)) (same_world v w (refused_same w v event d step)) step)
