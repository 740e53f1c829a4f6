-- To each event there is one answer at most, and one world after it; and so to each list of events.
use Rattle.std.proofs.Common.{◌≡◌, List, [], ◌∷◌, refl, sym, subst}
use Rattle.squall_protocol.specs.declared.event.Event.{Event}
use Rattle.squall_protocol.specs.declared.event.Event.TheVariants.{OpenNext, Begin, BeginFrom, Close, Give, GiveAt, Load, Finish, Send, SendPart, Deliver, Route, Serve}
use Rattle.squall_protocol.specs.declared.answer.Answer.{Answer}
use Rattle.squall_protocol.specs.Worlds.{WorldValue, SameWorld}
use Rattle.squall_protocol.specs.Steps.{Step, Run}
use Rattle.squall_protocol.specs.WorldLaws.{same_world}
use Rattle.squall_protocol.proofs.Once.{Once, agree}
use Rattle.squall_protocol.proofs.OneLead.{one_open, one_begin, one_begin_from}
use Rattle.squall_protocol.proofs.OneClose.{one_close}
use Rattle.squall_protocol.proofs.OneGift.{one_give}
use Rattle.squall_protocol.proofs.OneGiftAt.{one_give_at}
use Rattle.squall_protocol.proofs.OneLoad.{one_load}
use Rattle.squall_protocol.proofs.OneFinish.{one_finish}
use Rattle.squall_protocol.proofs.OneMessage.{one_send, one_send_part, one_deliver, one_routing, one_serving}

-- an event has one answer at most
pub one_step : (w v u : WorldValue) (e : Event) (a b : Answer) → Step w e a v → Step w e b u → Once a b v u
one_step w v u OpenNext a b h g = one_open w v u a b h g
one_step w v u (Begin plan) a b h g = one_begin w v u plan a b h g
one_step w v u (BeginFrom old new) a b h g = one_begin_from w v u old new a b h g
one_step w v u (Close p) a b h g = one_close w v u p a b h g
one_step w v u (Give p most) a b h g = one_give w v u p most a b h g
one_step w v u (GiveAt p k) a b h g = one_give_at w v u p k a b h g
one_step w v u (Load i) a b h g = one_load w v u i a b h g
one_step w v u (Finish p s) a b h g = one_finish w v u p s a b h g
one_step w v u (Send node) a b h g = one_send w v u node a b h g
one_step w v u (SendPart node said) a b h g = one_send_part w v u node said a b h g
one_step w v u (Deliver i node) a b h g = one_deliver w v u i node a b h g
one_step w v u (Route x k) a b h g = one_routing w v u x k a b h g
one_step w v u (Serve p k after) a b h g = one_serving w v u p k after a b h g

-- the answers to a list of events are one, and so are the worlds after them
abbrev pub OnceEach : List Answer → List Answer → WorldValue → WorldValue → Type 0
OnceEach rs qs v u = (rs ≡ qs) × SameWorld v u

-- a list of events has one list of answers at most
pub one_run : (w v u : WorldValue) (es : List Event) (rs qs : List Answer) → Run w es rs v → Run w es qs u → OnceEach rs qs v u
one_run w v u [] [] [] h g = (refl, agree v u w h g)
one_run w v u [] [] (q ∷ qs) h g = absurd g
one_run w v u [] (r ∷ rs) qs h g = absurd h
one_run w v u (e ∷ es) [] qs h g = absurd h
one_run w v u (e ∷ es) (r ∷ rs) [] h g = absurd g
one_run w v u (e ∷ es) (r ∷ rs) (q ∷ qs) h g =
    let one : Once r q h.0 g.0 = one_step w h.0 g.0 e r q h.1 g.1 in
    let rest : OnceEach rs qs v u = one_run h.0 v u es rs qs h.2 (subst (λ x. Run x es qs u) (sym (same_world h.0 g.0 one.1)) g.2) in
    (λ i. one.0 i ∷ rest.0 i, rest.1)
