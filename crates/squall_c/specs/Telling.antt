-- What a router of the C library says of itself (this project).
use Rattle.std.specs.Prelude.{◌≡◌, ◌≢◌, ◌<◌, ℕ, Bool, List, [], ◌∷◌, length, take, Option, None, Some, Ok, ◌⊎◌}
use Rattle.squall_plan.specs.declared.range.PlanRange.{PlanRange}
use Rattle.squall_plan.specs.Form.{plan_of_text}
use Rattle.squall_plan.specs.PlanText.{text_of_plan}
use Rattle.squall_plan.specs.Arranged.{range_limit}
use Rattle.squall_course.specs.Change.{Change}
use Rattle.squall_report.specs.Facts.{Fact}
use Rattle.squall_board.specs.Boards.{says, issued}
use Rattle.squall_status.specs.declared.text.Shown.TheVariants.{EachMove}
use Rattle.squall_status.specs.Summary.{StatusValue, IsStatusOf}
use Rattle.squall_status.specs.Texts.{status_text}
use Rattle.squall_picture.specs.Picture.{IsPictureOf}
use Rattle.squall_router.specs.Routers.{RouterValue, course_of_router}
use Rattle.squall_status.specs.declared.tally.Tally.{Tally}
use Rattle.squall_status.specs.Tallies.{HasClashAbove, tally_of}
use Rattle.squall_c_values.specs.Rooms.{over}
use Rattle.squall_c_values.specs.ReportFrames.{no_count, room_with}
use Rattle.squall_c_values.specs.declared.spans.CSpan.{CSpan}
use Rattle.squall_leader.specs.Left.{AreLeft}
use Rattle.squall_c_leaders.specs.LeftText.{spans_of, AreSpans, IsLeftText}
use Rattle.squall_c.specs.declared.courses.HeldCourse.{HeldCourse}
use Rattle.squall_c.specs.declared.router.Station.{Station}

-- ---- numbers

-- different pairs of plans were issued under a number above that of the router's course
abbrev pub IsClashed : RouterValue → Type 0
IsClashed r = HasClashAbove (issued r.board) (course_of_router r).number

-- 1 if they were and 0 if not; or there was not the memory for the answer
pub record SaysClash (r : RouterValue) (answer : ℕ) : Type 0 where
  pub one_of : (answer ≡ 0) ⊎ ((answer ≡ 1) ⊎ (answer ≡ no_count))
  pub yes : answer ≡ 1 → IsClashed r
  pub no : answer ≡ 0 → IsClashed r → ⊥

-- the same if there is a router
abbrev pub TellsClash : Option Station → ℕ → Type 0
TellsClash None answer = answer ≡ 0
TellsClash (Some s) answer = SaysClash s.router answer

-- the tally of the router's board is written, if the room holds one; or there was not the memory for it
pub record PutsTallyOf (r : RouterValue) (old new : List Tally) (count : ℕ) : Type 0 where
  pub put : count ≢ no_count → (new ≡ over (take (length old) (tally_of r.board ∷ [])) old) × (count ≡ length (take (length old) (tally_of r.board ∷ [])))
  pub memory : count ≡ no_count → new ≡ old

abbrev pub PutsTally : Option Station → List Tally → List Tally → ℕ → Type 0
PutsTally None old new count = (count ≡ 0) × (new ≡ old)
PutsTally (Some s) old new count = PutsTallyOf s.router old new count

-- ---- texts

-- the text is the lines of how far the course has come, by what is said
pub record AreLinesOf (c : Change) (says : Fact → Bool) (text : List ℕ) : Type 0 where
  pub status : StatusValue
  pub is : IsStatusOf c says status
  pub lines : text ≡ status_text EachMove status

-- the lines of how far the router's course has come
abbrev pub IsStatusText : RouterValue → List ℕ → Type 0
IsStatusText r text = AreLinesOf (course_of_router r) (says r.board) text

-- the picture of it
abbrev pub IsPicture : RouterValue → List ℕ → Type 0
IsPicture r text = IsPictureOf (course_of_router r) (says r.board) text

-- such a text was written if the room holds it, and its length answered; or there was not the memory for it
pub record PutsText (IsText : List ℕ → Type 0) (old new : List ℕ) (count : ℕ) : Type 0 where
  pub put : count ≢ no_count → (text : List ℕ) × IsText text × (new ≡ room_with text old) × (count ≡ length text)
  pub memory : count ≡ no_count → new ≡ old

abbrev pub PutsStatus : Option Station → List ℕ → List ℕ → ℕ → Type 0
PutsStatus None old new count = (count ≡ 0) × (new ≡ old)
PutsStatus (Some s) old new count = PutsText (IsStatusText s.router) old new count

abbrev pub PutsPicture : Option Station → List ℕ → List ℕ → ℕ → Type 0
PutsPicture None old new count = (count ≡ 0) × (new ≡ old)
PutsPicture (Some s) old new count = PutsText (IsPicture s.router) old new count

-- ---- plans

-- the text of the plan, which reads as the plan
abbrev pub IsPlanText : List PlanRange → List ℕ → Type 0
IsPlanText plan text = (text ≡ text_of_plan plan) × (plan_of_text text ≡ Ok plan)

-- that of the old plan of a course is written, and that of the new one
abbrev pub PutsOldText : Option HeldCourse → List ℕ → List ℕ → ℕ → Type 0
PutsOldText None old new count = (count ≡ 0) × (new ≡ old)
PutsOldText (Some held) old new count = PutsText (IsPlanText held.course.old) old new count

abbrev pub PutsNewText : Option HeldCourse → List ℕ → List ℕ → ℕ → Type 0
PutsNewText None old new count = (count ≡ 0) × (new ≡ old)
PutsNewText (Some held) old new count = PutsText (IsPlanText held.course.new) old new count

-- no plan has each key where the course leaves it if those of the spans are loaded: it would have too many ranges
abbrev pub IsTooMany : Change → List CSpan → Type 0
IsTooMany c loaded = (plan : List PlanRange) → AreLeft c (spans_of loaded) plan → range_limit < length plan

-- the text of that plan is written, if the room holds it, and its length answered; or a span is none, or no plan is so; or there
-- was not the memory for it
pub record PutsLeft (c : Change) (loaded : List CSpan) (old new : List ℕ) (count : ℕ) : Type 0 where
  pub put : count ≢ 0 → count ≢ no_count → AreSpans loaded × ((text : List ℕ) × IsLeftText c (spans_of loaded) text × (new ≡ room_with text old) × (count ≡ length text))
  pub none : count ≡ 0 → (new ≡ old) × ((AreSpans loaded → ⊥) ⊎ IsTooMany c loaded)
  pub memory : count ≡ no_count → new ≡ old

-- the same if there is a course
abbrev pub PutsLeftText : Option HeldCourse → List CSpan → List ℕ → List ℕ → ℕ → Type 0
PutsLeftText None loaded old new count = (count ≡ 0) × (new ≡ old)
PutsLeftText (Some held) loaded old new count = PutsLeft held.course loaded old new count
