-- The steps of a world at a router that stands for a desk.
use Rattle.std.proofs.Common.{◌≡◌, ℕ, List, [], ◌∷◌, ◌++◌, Some, eq-eqb, if◌then◌else◌, refl, sym, ap, ◌∙◌, subst}
use Rattle.std.proofs.lemmas.Option.{same_Some}
use Rattle.squall_course.specs.Change.{Change}
use Rattle.squall_report.specs.Queries.{Queries, SameQueries, joined_queries}
use Rattle.squall_report.specs.QueriesLaws.{same_queries}
use Rattle.squall_board.specs.Boards.{BoardValue, IsBoard, board_join}
use Rattle.squall_board.specs.BoardLaws.{tells_both}
use Rattle.squall_board.specs.BoardQueries.{queries_of}
use Rattle.squall_board.specs.BoardQueriesLaws.{merged_queries}
use Rattle.squall_board.specs.CourseRoute.{IsRoutedBy, route_by_newest}
use Rattle.squall_board.specs.CourseRouteLaws.{board_routes, one_route}
use Rattle.squall_cluster_inbox.specs.Letters.{board_after}
use Rattle.squall_cluster_desk.proofs.Desks.{board_after-snoc}
use Rattle.squall_cluster.proofs.Joined.{after_is}
use Rattle.squall_protocol.specs.declared.event.Node.{Node}
use Rattle.squall_protocol.specs.declared.event.Node.TheVariants.{Router}
use Rattle.squall_protocol.specs.declared.answer.Answer.TheVariants.{Delivered, Routed}
use Rattle.squall_protocol.specs.Worlds.{WorldValue, first_course, SameWorld}
use Rattle.squall_protocol.specs.Steps.{told_to, after_told, DeliverStep, RouteStep}
use Rattle.squall_protocol.specs.WorldLaws.{same_world}
use Rattle.squall_cluster_tie.specs.Desks.{StandsFor, IsMessageOf, PublishesByDelivery, LooksByRoute}

same_of : (a b : Queries) → a ≡ b → SameQueries a b
same_of a b e = record {
  loaded = λ c k. ap (λ (t : Queries). t.loaded c k) e;
  done = λ c. ap (λ (t : Queries). t.done c) e;
  opened = λ n. ap (λ (t : Queries). t.opened n) e;
  issued = λ n. ap (λ (t : Queries). t.issued n) e;
}

unchanged : (w : WorldValue) → SameWorld w w
unchanged w = record {
  old = λ n. refl;
  new = λ n. refl;
  last = refl;
  opened = λ n. refl;
  parts = refl;
  routers = refl;
  held = λ p k. refl;
  closed = λ n p. refl;
  given = λ n p k. refl;
  loaded = λ n p k. refl;
  facts = λ node. same_of (w.facts node) (w.facts node) refl;
  messages = refl;
  chunks = refl;
}

-- what a router is told, it was told
told_itself : (w : WorldValue) (r : ℕ) (more : Queries) → told_to w (Router r) more (Router r) ≡ joined_queries (w.facts (Router r)) more
told_itself w r more = ap (λ b. if b then joined_queries (w.facts (Router r)) more else w.facts (Router r)) (eq-eqb r r refl)

-- the queries of a join
queries_join : (x y : BoardValue) → IsBoard x → IsBoard y → queries_of (board_join x y) ≡ joined_queries (queries_of x) (queries_of y)
queries_join x y a b = same_queries (queries_of (board_join x y)) (joined_queries (queries_of x) (queries_of y)) ((merged_queries (board_join x y) x y).0 (tells_both x y a.nested b.nested))

-- the router that was told the letter stands for one more
delivered : (w : WorldValue) (r : ℕ) (first : Change) (opening : BoardValue) (published : List BoardValue) (letter : BoardValue) (message : Queries)
    → IsBoard (board_after opening published) → IsBoard letter → StandsFor w r first opening published → SameQueries message (queries_of letter)
    → StandsFor (after_told w (Router r) message) r first opening (published ++ letter ∷ [])
delivered w r first opening published letter message board is stands same =
    let before : BoardValue = board_after opening published in
    let old : w.facts (Router r) ≡ queries_of before = same_queries _ _ stands.told in
    let more : message ≡ queries_of letter = same_queries _ _ same in
    let both : joined_queries (w.facts (Router r)) message ≡ joined_queries (queries_of before) (queries_of letter) = ap (λ t. joined_queries t message) old ∙ ap (joined_queries (queries_of before)) more in
    let after : queries_of (board_join before letter) ≡ queries_of (board_after opening (published ++ letter ∷ [])) = ap queries_of (sym (board_after-snoc opening published letter)) in record {
      there = stands.there;
      first_is = stands.first_is;
      told = same_of _ _ (told_itself w r message ∙ both ∙ sym (queries_join before letter board is) ∙ after);
    }

pub publishes : (opening : BoardValue) → IsBoard opening → PublishesByDelivery opening
publishes opening is allowed first published letter letters one w r i stands has =
    let board : IsBoard (board_after opening published) = after_is allowed opening published is letters in (
      (after_told w (Router r) has.0, (stands.there, (has.0, has.1, unchanged (after_told w (Router r) has.0)))),
      λ v step.
          let message : Queries = step.1.0 in
          let same : SameQueries message (queries_of letter) = subst (λ t. SameQueries t (queries_of letter)) (same_Some has.0 message (sym has.1 ∙ step.1.1)) has.2 in
          subst (λ u. StandsFor u r first opening (published ++ letter ∷ [])) (sym (same_world v (after_told w (Router r) message) step.1.2)) (delivered w r first opening published letter message board one.0 stands same),
    )

pub looks : (opening : BoardValue) → IsBoard opening → LooksByRoute opening
looks opening is allowed first seen letters w v r k part stands =
    let b : BoardValue = board_after opening seen in
    let board : IsBoard b = after_is allowed opening seen is letters in
    let routed : IsRoutedBy first (queries_of b) k (route_by_newest first b k) = board_routes first b k board in
    let facts : w.facts (Router r) ≡ queries_of b = same_queries _ _ stands.told in (
      (λ step.
          let by : IsRoutedBy first (queries_of b) k part = subst (λ c. IsRoutedBy c (queries_of b) k part) stands.first_is (subst (λ t. IsRoutedBy (first_course w) t k part) facts step.1) in
          (one_route first (queries_of b) k part (route_by_newest first b k) by routed, step.2)),
      (λ look.
          let by : IsRoutedBy first (queries_of b) k part = subst (IsRoutedBy first (queries_of b) k) (sym look.0) routed in
          (stands.there, subst (λ t. IsRoutedBy (first_course w) t k part) (sym facts) (subst (λ c. IsRoutedBy c (queries_of b) k part) (sym stands.first_is) by), look.1)),
    )
