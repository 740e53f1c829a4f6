-- What a desk shows, beside what a router of a world was told (this project).
use Rattle.std.specs.Prelude.{◌≡◌, ◌↔◌, ℕ, true, List, [], ◌∷◌, ◌++◌, Some}
use Rattle.std.specs.List.{slice_get}
use Rattle.squall_course.specs.Change.{Change}
use Rattle.squall_report.specs.Queries.{Queries, SameQueries}
use Rattle.squall_board.specs.Boards.{BoardValue}
use Rattle.squall_board.specs.BoardQueries.{queries_of}
use Rattle.squall_router.specs.Routers.{route_of_router}
use Rattle.squall_cluster_inbox.specs.Letters.{Allowance, IsLetter, AreLetters, board_after}
use Rattle.squall_cluster.specs.Joined.{shown_router}
use Rattle.squall_protocol.specs.declared.event.Node.TheVariants.{Router}
use Rattle.squall_protocol.specs.declared.answer.Answer.TheVariants.{Delivered, Routed}
use Rattle.squall_protocol.specs.Worlds.{WorldValue, first_course, is_node, SameWorld}
use Rattle.squall_protocol.specs.Steps.{DeliverStep, RouteStep}

-- the router of that number is there, the world began with this first course, and the router was told what the opening board and these
-- letters tell
pub record StandsFor (w : WorldValue) (r : ℕ) (first : Change) (opening : BoardValue) (letters : List BoardValue) : Type 0 where
  pub there : is_node w (Router r) ≡ true
  pub first_is : first_course w ≡ first
  pub told : SameQueries (w.facts (Router r)) (queries_of (board_after opening letters))

-- the message of that number tells what the letter tells
abbrev pub IsMessageOf : WorldValue → ℕ → BoardValue → Type 0
IsMessageOf w i letter = (message : Queries) × (slice_get w.messages i ≡ Some message) × SameQueries message (queries_of letter)

-- to publish is to deliver: take a world in which a router stands for what is published, and a message for the letter. The
-- message may be delivered to that router. Once it is, the router stands for the published list with the letter at its end
abbrev pub PublishesByDelivery : BoardValue → Type 0
PublishesByDelivery opening =
    (allowed : Allowance) (first : Change) (published : List BoardValue) (letter : BoardValue) → AreLetters allowed published → IsLetter allowed letter
    → (w : WorldValue) (r i : ℕ) → StandsFor w r first opening published → IsMessageOf w i letter
    → ((v : WorldValue) × DeliverStep w i (Router r) Delivered v)
    × ((v : WorldValue) → DeliverStep w i (Router r) Delivered v → StandsFor v r first opening (published ++ letter ∷ []))

-- to look is to route: take a world in which a router stands for what a seat has seen. That router may send a key exactly to the
-- partition that the look gives, and nothing changes
abbrev pub LooksByRoute : BoardValue → Type 0
LooksByRoute opening =
    (allowed : Allowance) (first : Change) (seen : List BoardValue) → AreLetters allowed seen
    → (w v : WorldValue) (r k part : ℕ) → StandsFor w r first opening seen
    → RouteStep w r k (Routed part) v ↔ ((part ≡ route_of_router (shown_router first opening seen) k) × SameWorld v w)
