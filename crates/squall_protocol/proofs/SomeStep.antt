-- Each act has an answer in each world that is reached.
use Rattle.squall_protocol.specs.declared.event.Event.{Event}
use Rattle.squall_protocol.specs.declared.event.Event.TheVariants.{OpenNext, Begin, BeginFrom, Close, Give, GiveAt, Load, Finish, Send, SendPart, Deliver, Route, Serve}
use Rattle.squall_protocol.specs.Worlds.{WorldValue}
use Rattle.squall_protocol.specs.Acts.{IsAct, HasAnswer}
use Rattle.squall_protocol.proofs.Kept.{Kept}
use Rattle.squall_protocol.proofs.SomeLead.{some_open, some_begin, some_begin_from}
use Rattle.squall_protocol.proofs.SomeGift.{some_close, some_give, some_give_at}
use Rattle.squall_protocol.proofs.SomeLoad.{some_load}
use Rattle.squall_protocol.proofs.SomeFinish.{some_finish}
use Rattle.squall_protocol.proofs.SomeMessage.{some_send, some_send_part, some_deliver, some_routing}
use Rattle.squall_protocol.proofs.SomeReply.{some_serving}

pub some_step : (w : WorldValue) → Kept w → (event : Event) → IsAct event → HasAnswer w event
some_step w kept OpenNext act = some_open w kept
some_step w kept (Begin plan) act = some_begin w kept plan act
some_step w kept (BeginFrom old new) act = some_begin_from w kept old new act.0 act.1
some_step w kept (Close p) act = some_close w kept p
some_step w kept (Give p most) act = some_give w kept p most
some_step w kept (GiveAt p k) act = some_give_at w kept p k
some_step w kept (Load i) act = some_load w kept i
some_step w kept (Finish p s) act = some_finish w kept p s
some_step w kept (Send node) act = some_send w node
some_step w kept (SendPart node said) act = some_send_part w node said
some_step w kept (Deliver i node) act = some_deliver w i node
some_step w kept (Route r k) act = some_routing w kept r k
some_step w kept (Serve p k after) act = some_serving w kept p k after
