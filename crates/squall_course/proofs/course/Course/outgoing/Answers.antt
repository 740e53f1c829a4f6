use Rattle.std.proofs.Common.{◌≡◌, ℕ, List, ap, ◌∙◌}
use Rattle.std.specs.Prelude.{◌&&◌}
use Rattle.std.specs.List.{list_any}
use Rattle.std.proofs.lemmas.Result.{IfOk-weaker}
use Rattle.squall_span.specs.Spans.{Interval, has}
use Rattle.squall_course.specs.Change.{Change}
use Rattle.squall_course.specs.Moves.{move_has, is_outgoing}
use Rattle.squall_course.specs.Steps.{leaves, leaving_place}
use Rattle.squall_course.proofs.Filed.{by_place, filed_outgoing}
use Rattle.squall_course.proofs.course.Course.outgoing.Goals as goal

pub outgoing-requires : goal.outgoing-requires
outgoing-requires c = by_place leaving_place c.self.inside.old c.self.inside.new c.self.inside.leaving.items _ c.self.invariant.plans c.self.invariant.left c.deref.ensures.value

pub returns : goal.returns
returns c =
    let keys : (set : List Interval) → ((k : ℕ) → has set k ≡ list_any (λ m. leaves c.args.sub c.args.part m && move_has k m) c.deref.result.now) → (k : ℕ) → has set k ≡ is_outgoing c.args.self.now.old c.args.self.now.new c.args.sub c.args.part k
    = λ set in_them k. in_them k ∙ filed_outgoing c.args.self.now c.self.inside.old c.self.inside.new c.self.inside.leaving.items c.deref.result.now c.args.sub c.args.part k
    (ap (λ (v : Change). v.old) c.self.view_is) (ap (λ (v : Change). v.new) c.self.view_is) c.self.invariant.plans c.self.invariant.left c.deref.ensures.value in
    IfOk-weaker _ _ _ keys c.outgoing.ensures
