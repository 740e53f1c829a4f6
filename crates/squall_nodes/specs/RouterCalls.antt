-- The calls of a router as steps of a world, in which its value stands for a router (this project).
use Rattle.std.specs.Prelude.{◌≡◌, ℕ, Some}
use Rattle.squall_board.specs.Boards.{BoardValue, IsBoard, board_join}
use Rattle.squall_protocol.specs.declared.event.Node.TheVariants.{Router}
use Rattle.squall_protocol.specs.declared.event.Event.TheVariants.{Route, Deliver}
use Rattle.squall_protocol.specs.declared.answer.Answer.TheVariants.{Routed, Delivered}
use Rattle.squall_protocol.specs.Worlds.{WorldValue}
use Rattle.squall_router.specs.Routers.{RouterValue, router_with, route_of_router}
use Rattle.squall_nodes.specs.Standing.{StandsForRouter, RouterStands, Becomes}
use Rattle.squall_nodes.specs.PartCalls.{IsMessageOf}

-- it sends a key where the world's router does, and nothing changes
abbrev pub RoutesByStep : Type 0
RoutesByStep =
    (w : WorldValue) (r k : ℕ) (x : RouterValue) → StandsForRouter w r x → IsBoard x.board
    → Becomes w (Route r k) (Some (Routed (route_of_router x k))) (λ v. v ≡ w)

-- to absorb a board is the world's step that delivers it as a message
abbrev pub RouterAbsorbsByStep : Type 0
RouterAbsorbsByStep =
    (w : WorldValue) (r i : ℕ) (x : RouterValue) (said : BoardValue) → StandsForRouter w r x → IsBoard x.board → IsBoard said → IsMessageOf w i said
    → Becomes w (Deliver i (Router r)) (Some Delivered) (RouterStands w r (router_with x.first (board_join x.board said)))
