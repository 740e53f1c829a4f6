use Rattle.std.specs.Prelude.{◌≡◌, ℕ, List, Option}
use Rattle.std.proofs.Common.{ap, sym, subst, ◌∙◌}
use Rattle.squall_course.specs.Change.{Change}
use Rattle.squall_report.specs.declared.report.ReportKind.{ReportKind}
use Rattle.squall_report.specs.declared.report.ReportKind.TheVariants.{Issued}
use Rattle.squall_report.specs.Issues.{PlanPair, plan_pair}
use Rattle.squall_c_values.specs.ReportFrames.{frame_of, PutsFrame}
use Rattle.squall_c.specs.declared.courses.HeldCourse.{HeldCourse}
use Rattle.squall_c.specs.Courses.{PutsIssue}
use Rattle.squall_c.proofs.courses.course_frame.Goals as goal

pub returns-in-Ok : goal.returns-in-Ok
returns-in-Ok c =
    let is : c.in-Ok.report ≡ Issued c.in-Some.held.course.number (plan_pair c.in-Some.held.course.old c.in-Some.held.course.new) =
    c.in-Ok.ensures ∙ ap (λ (d : Change). Issued d.number (plan_pair d.old d.new)) (c.deref.ensures ∙ c.as_arc.ensures) in
    subst (λ (s : Option HeldCourse). PutsIssue s c.args.room.now c.put_report.new.room c.put_report.result) (sym c.in-Some.is)
    (subst (λ (r : ReportKind PlanPair). PutsFrame (frame_of r) c.args.room.now c.put_report.new.room c.put_report.result) is c.put_report.ensures)
