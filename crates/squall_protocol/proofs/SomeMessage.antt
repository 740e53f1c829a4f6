-- A node that is to send, to which a message comes, or that is asked, has an answer.
use Rattle.std.proofs.Common.{ℕ, length, refl, inl, inr}
use Rattle.std.specs.List.{slice_get}
use Rattle.std.proofs.lemmas.Bool.{cases_Bool}
use Rattle.squall_report.specs.Queries.{queries_say}
use Rattle.squall_board.specs.Boards.{BoardValue}
use Rattle.squall_board.specs.BoardQueries.{queries_of}
use Rattle.squall_board.specs.Route.{route}
use Rattle.squall_protocol.specs.declared.event.Node.{Node}
use Rattle.squall_protocol.specs.declared.event.Node.TheVariants.{Router}
use Rattle.squall_protocol.specs.declared.event.Event.TheVariants.{Send, SendPart, Deliver, Route}
use Rattle.squall_protocol.specs.declared.answer.Answer.TheVariants.{Sent, Delivered, Routed, Refused}
use Rattle.squall_protocol.specs.declared.answer.Refusal.TheVariants.{NoSuch, NotKnown}
use Rattle.squall_protocol.specs.Worlds.{WorldValue, is_node}
use Rattle.squall_protocol.specs.Steps.{after_told}
use Rattle.squall_protocol.specs.Acts.{HasAnswer}
use Rattle.squall_protocol.proofs.Changes.{after_send}
use Rattle.squall_protocol.proofs.Kept.{Kept}
use Rattle.squall_protocol.specs.WorldLaws.{same_as_itself}
use Rattle.squall_protocol.proofs.SomeCourse.{some_course}
use Rattle.squall_protocol.proofs.SomeLoad.{some_or_none}
use Rattle.squall_protocol.proofs.SomePart.{part_decided}

-- a node is to send
pub some_send : (w : WorldValue) (node : Node) → HasAnswer w (Send node)
some_send w node = elim (cases_Bool (is_node w node)) [
  | inr none ↦ (Refused NoSuch, w, (none, same_as_itself w))
  | inl there ↦ (Sent (length w.messages), after_send w (w.facts node), (there, refl, same_as_itself (after_send w (w.facts node))))
]

-- a node is to send a part
pub some_send_part : (w : WorldValue) (node : Node) (said : BoardValue) → HasAnswer w (SendPart node said)
some_send_part w node said = elim (cases_Bool (is_node w node)) [
  | inr none ↦ (Refused NoSuch, w, (none, same_as_itself w))
  | inl there ↦ elim (part_decided said (w.facts node)) [
    | inl part ↦ (Sent (length w.messages), after_send w (queries_of said), (there, part, refl, same_as_itself (after_send w (queries_of said))))
    | inr more ↦ (Refused NotKnown, w, (there, more, same_as_itself w))
  ]
]

-- a message is to come to a node
pub some_deliver : (w : WorldValue) (i : ℕ) (node : Node) → HasAnswer w (Deliver i node)
some_deliver w i node = elim (cases_Bool (is_node w node)) [
  | inr none ↦ (Refused NoSuch, w, (inl none, same_as_itself w))
  | inl there ↦ elim (some_or_none (slice_get w.messages i)) [
    | inr none ↦ (Refused NoSuch, w, (inr none, same_as_itself w))
    | inl m ↦ (Delivered, after_told w node m.0, (there, (m.0, m.1, same_as_itself (after_told w node m.0))))
  ]
]

-- a router is asked for a key
pub some_routing : (w : WorldValue) → Kept w → (r k : ℕ) → HasAnswer w (Route r k)
some_routing w kept r k = elim (cases_Bool (is_node w (Router r))) [
  | inr none ↦ (Refused NoSuch, w, (none, same_as_itself w))
  | inl there ↦
      let n = some_course w (w.facts (Router r)) kept.first (kept.facts (Router r)) in
      (Routed (route n.course (queries_say (w.facts (Router r))) k), w, (there, (n.course, n.by, refl), same_as_itself w))
]
