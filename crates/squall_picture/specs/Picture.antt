-- The picture of a course, in SVG (this project's picture).
use Rattle.std.specs.Prelude.{◌≡◌, ℕ, List, ◌++◌, Bool, codes}
use Rattle.squall_plan.specs.declared.range.PlanRange.{PlanRange}
use Rattle.squall_course.specs.Change.{Change}
use Rattle.squall_report.specs.Facts.{Fact}
use Rattle.squall_status.specs.Summary.{StatusValue, IsStatusOf}
use Rattle.squall_picture.specs.Scale.{ticks, total_width}
use Rattle.squall_picture.specs.Bars.{bars_text, ticks_text}
use Rattle.squall_picture.specs.Bands.{bands_text}
use Rattle.squall_picture.specs.Frame.{head_text, legend_text}

-- the old plan, below it the moves, below them the new plan, and below that the bounds
abbrev pub body_text : List ℕ → List PlanRange → List PlanRange → StatusValue → List ℕ
body_text ts old new s = bars_text ts 84 old ++ (bands_text ts s.subplans s.moves ++ (bars_text ts 204 new ++ ticks_text ts ts))

-- the picture on an axis of these bounds, of that width
abbrev pub wide_text : ℕ → List ℕ → List PlanRange → List PlanRange → StatusValue → List ℕ
wide_text width ts old new s = head_text width s ++ (legend_text old new ++ (body_text ts old new s ++ codes "</svg>\n"))

-- the picture on an axis of these bounds
abbrev pub drawn_text : List ℕ → List PlanRange → List PlanRange → StatusValue → List ℕ
drawn_text ts old new s = wide_text (total_width ts) ts old new s

-- the picture of two plans and of how far the course between them has come
abbrev pub picture_text : List PlanRange → List PlanRange → StatusValue → List ℕ
picture_text old new s = drawn_text (ticks old new) old new s

-- the text is the picture of how far the course has come, by what is said
pub record IsPictureOf (c : Change) (says : Fact → Bool) (text : List ℕ) : Type 0 where
  pub status : StatusValue
  pub is : IsStatusOf c says status
  pub drawn : text ≡ picture_text c.old c.new status
