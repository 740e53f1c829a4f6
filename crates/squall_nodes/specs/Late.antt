-- A router that is opened later, with any course that was begun in place of the first (this project).
use Rattle.std.specs.Prelude.{◌≡◌, ℕ, ◌<◌, true, Some}
use Rattle.squall_join.specs.declared.flat.Flat.TheVariants.{One}
use Rattle.squall_report.specs.Cells.{CellPlace}
use Rattle.squall_report.specs.Facts.{LoadedKey, DonePart}
use Rattle.squall_board.specs.Boards.{BoardValue, IsBoard, board_join, says, issued}
use Rattle.squall_protocol.specs.declared.event.Node.TheVariants.{Router}
use Rattle.squall_protocol.specs.declared.event.Event.TheVariants.{Deliver, Route}
use Rattle.squall_protocol.specs.declared.answer.Answer.TheVariants.{Delivered, Routed}
use Rattle.squall_protocol.specs.Worlds.{WorldValue, course_at, WasBegun, pair_at, is_node}
use Rattle.squall_protocol.specs.Promises.{IsReached}
use Rattle.squall_router.specs.Routers.{RouterValue, router_with, route_of_router}
use Rattle.squall_nodes.specs.Standing.{OthersStand, Becomes}
use Rattle.squall_nodes.specs.PartCalls.{IsMessageOf}

-- the value was opened with the course of the number, which was begun, and the router of the world has heard of that course's issue. Above
-- that number both heard of the same issues, and both heard of the same loads and completions
pub record StandsLate (w : WorldValue) (r n : ℕ) (x : RouterValue) : Type 0 where
  pub there : is_node w (Router r) ≡ true
  pub begun : WasBegun w n
  pub first : x.first ≡ course_at w n
  pub heard : (w.facts (Router r)).issued n ≡ One (pair_at w n)
  pub issues : (m : ℕ) → n < m → (w.facts (Router r)).issued m ≡ issued x.board m
  pub loaded : (c : CellPlace) (k : ℕ) → (w.facts (Router r)).loaded c k ≡ says x.board (LoadedKey c k)
  pub done : (c : CellPlace) → (w.facts (Router r)).done c ≡ says x.board (DonePart c)

-- it sends a key where the world's router does, and nothing changes
abbrev pub LateRoutesByStep : Type 0
LateRoutesByStep =
    (w : WorldValue) (r n k : ℕ) (x : RouterValue) → StandsLate w r n x → IsBoard x.board → Becomes w (Route r k) (Some (Routed (route_of_router x k))) (λ v. v ≡ w)

-- the value stands for the router still, and other values for other nodes as before. Chunks and messages are as before
pub record LateStands (w : WorldValue) (r n : ℕ) (x : RouterValue) (v : WorldValue) : Type 0 where
  pub itself : StandsLate v r n x
  pub others : OthersStand w v (Router r)
  pub chunks : v.chunks ≡ w.chunks
  pub messages : v.messages ≡ w.messages

-- to absorb a board is the world's step that delivers it as a message. In a world that is reached no issue clashes, so it keeps its course
abbrev pub LateAbsorbsByStep : Type 0
LateAbsorbsByStep =
    (w : WorldValue) (r n i : ℕ) (x : RouterValue) (said : BoardValue) → IsReached w → StandsLate w r n x → IsBoard x.board → IsBoard said → IsMessageOf w i said
    → Becomes w (Deliver i (Router r)) (Some Delivered) (LateStands w r n (router_with x.first (board_join x.board said)))
