-- A router that is opened later routes and hears as one that was there from the first.
use Rattle.std.proofs.Common.{◌≡◌, ◌≢◌, ℕ, ◌<◌, ◌≤◌, Bool, true, false, cond, Option, None, Some, if◌then◌else◌, refl, sym, ap, subst, ◌∙◌, arith, inl, inr}
use Rattle.std.specs.Prelude.{not, ◌||◌}
use Rattle.std.proofs.lemmas.Bool.{cases_lt}
use Rattle.squall_plan.specs.Ranges.{owner_of}
use Rattle.squall_course.specs.Change.{Change}
use Rattle.squall_course.specs.Subplans.{moves}
use Rattle.squall_join.specs.declared.flat.Flat.{Flat}
use Rattle.squall_join.specs.declared.flat.Flat.TheVariants.{Unknown, One, Clash}
use Rattle.squall_report.specs.Issues.{PlanPair, is_same_pair}
use Rattle.squall_report.specs.Facts.{LoadedKey, DonePart}
use Rattle.squall_report.specs.Newest.{IsNewest}
use Rattle.squall_report.specs.Told.{both_issued}
use Rattle.squall_report.specs.Queries.{Queries, queries_say, joined_queries}
use Rattle.squall_report.specs.QueriesLaws.{same_queries}
use Rattle.squall_board.specs.Boards.{IsBoard, board_join, says, issued}
use Rattle.squall_board.specs.BoardQueries.{queries_of}
use Rattle.squall_board.specs.Newest.{newest_of}
use Rattle.squall_board.specs.NewestLaws.{newest_is_greatest}
use Rattle.squall_board.specs.Route.{route, place_of_key}
use Rattle.squall_board.specs.CourseRoute.{course_by, IsCourseBy}
use Rattle.squall_protocol.specs.declared.event.Node.TheVariants.{Router}
use Rattle.squall_protocol.specs.declared.event.Event.TheVariants.{Deliver}
use Rattle.squall_protocol.specs.declared.answer.Answer.TheVariants.{Delivered}
use Rattle.squall_protocol.specs.Worlds.{WorldValue, course_at, first_course, pair_at}
use Rattle.squall_protocol.specs.Steps.{Step, after_told}
use Rattle.squall_protocol.specs.Promises.{IsReached, TrueReports}
use Rattle.squall_protocol.specs.WorldLaws.{same_as_itself, reached_step}
use Rattle.squall_router.specs.Routers.{RouterValue, course_of_router}
use Rattle.squall_nodes.specs.Late.{StandsLate, LateRoutesByStep, LateAbsorbsByStep}
use Rattle.squall_nodes.proofs.Agree.{queries_join, told_itself, others_stand, beside_told}

module _ (w : WorldValue) (r n : ℕ) (x : RouterValue) (s : StandsLate w r n x) (is : IsBoard x.board) where
  abbrev facts : Queries
  facts = w.facts (Router r)

  -- no pair above a number that is issued on the board is issued in the world
  none_above : (low : ℕ) → n ≤ low → ((m : ℕ) → low < m → (p : PlanPair) → issued x.board m ≢ One p) → (m : ℕ) → low < m → (p : PlanPair) → facts.issued m ≢ One p
  none_above low le none m lt p e = none m lt p (sym (s.issues m (omega (arith, le, lt))) ∙ e)

  -- by what is newest on the board above its own course
  course_from : (o : Option (ℕ × PlanPair)) → IsNewest (issued x.board) n o → IsCourseBy (first_course w) facts (course_by x.first o)
  course_from (Some e) (above, pair, none) = (Some e, (omega (arith, above, s.begun.0), s.issues e.0 above ∙ pair, none_above e.0 (omega (arith, above)) none), refl)
  course_from None none = elim (cases_lt 1 n) [
    | inl lt ↦ (Some (n, pair_at w n), (lt, s.heard, none_above n (omega arith) none), s.first)
    | inr le ↦
        let one : n ≡ 1 = (let low : 1 ≤ n = s.begun.0 in omega (arith, le, low)) in
        (None, (λ m lt. none_above n (omega arith) none m (omega (arith, one, lt))), s.first ∙ ap (course_at w) one)
  ]

  course_is : IsCourseBy (first_course w) facts (course_of_router x)
  course_is = course_from (newest_of x.board x.first.number) (subst (λ low. IsNewest (issued x.board) low (newest_of x.board x.first.number)) (ap (λ (c : Change). c.number) s.first) (newest_is_greatest x.board x.first.number is))

  -- the route needs what is said of loads and completions alone
  same_route : (c : Change) (k : ℕ) → route c (says x.board) k ≡ route c (queries_say facts) k
  same_route c k = λ i. if not (moves c.old c.new k) || (sym (s.loaded (place_of_key c k) k) i || sym (s.done (place_of_key c k)) i) then owner_of c.new k else owner_of c.old k

pub late_routes_by_step : LateRoutesByStep
late_routes_by_step w r n k x s is = (w, (s.there, (course_of_router x, course_is w r n x s is, same_route w r n x s is (course_of_router x) k), same_as_itself w), refl)

-- ---- what is heard

-- an issue that is known is not unknown once more is heard
known_still : (p : PlanPair) (x : Flat PlanPair) → both_issued (One p) x ≡ Unknown → ⊥
known_still p Unknown e = cc
known_still p (One q) e = by (is_same_pair p q) e
  where
    by : (b : Bool) → ◌≡◌ {A = Flat PlanPair} (cond b (One p) Clash) Unknown → ⊥
    by true e = cc
    by false e = cc
known_still p Clash e = cc

pub late_absorbs_by_step : ((w : WorldValue) → IsReached w → TrueReports w) → LateAbsorbsByStep
late_absorbs_by_step promise w r n i x said reached s is valid h = (
  v,
  step,
  record {
    itself = record {
      there = s.there;
      begun = s.begun;
      first = s.first;
      heard = heard;
      issues = λ m lt. ap (λ (t : Queries). t.issued m) facts ∙ ap (λ t. both_issued t (issued said m)) (s.issues m lt) ∙ ap (λ (t : Queries). t.issued m) board;
      loaded = λ c k. ap (λ (t : Queries). t.loaded c k) facts ∙ ap (λ t. t || says said (LoadedKey c k)) (s.loaded c k) ∙ ap (λ (t : Queries). t.loaded c k) board;
      done = λ c. ap (λ (t : Queries). t.done c) facts ∙ ap (λ t. t || says said (DonePart c)) (s.done c) ∙ ap (λ (t : Queries). t.done c) board;
    };
    others = others_stand w v (Router r) (beside_told w (Router r) h.0);
    chunks = refl;
    messages = refl;
  },
)
  where
    v : WorldValue
    v = after_told w (Router r) h.0

    step : Step w (Deliver i (Router r)) Delivered v
    step = (s.there, (h.0, h.1, same_as_itself v))

    facts : v.facts (Router r) ≡ joined_queries (w.facts (Router r)) (queries_of said)
    facts = told_itself w (Router r) h.0 ∙ ap (joined_queries (w.facts (Router r))) (same_queries h.0 (queries_of said) h.2)

    board : joined_queries (queries_of x.board) (queries_of said) ≡ queries_of (board_join x.board said)
    board = sym (queries_join x.board said is valid)

    heard : (v.facts (Router r)).issued n ≡ One (pair_at w n)
    heard = elim ((promise v (reached_step w v (Deliver i (Router r)) Delivered reached step) (Router r)).issued n) [
      | inl none ↦ absurd (known_still (pair_at w n) (issued said n) (ap (λ t. both_issued t (issued said n)) (sym s.heard) ∙ ap (λ (t : Queries). t.issued n) (sym facts) ∙ none))
      | inr one ↦ one.1
    ]
