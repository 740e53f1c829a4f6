use Rattle.std.proofs.Common.{◌≡◌, ℕ, List, ap, ◌∙◌}
use Rattle.std.specs.Prelude.{◌&&◌}
use Rattle.std.specs.List.{list_any}
use Rattle.std.proofs.lemmas.Result.{IfOk-weaker}
use Rattle.squall_span.specs.Spans.{Interval, has}
use Rattle.squall_course.specs.Change.{Change}
use Rattle.squall_course.specs.Moves.{move_has, goes_to, is_incoming}
use Rattle.squall_course.specs.Steps.{arriving_place}
use Rattle.squall_course.proofs.Filed.{by_place, filed_incoming}
use Rattle.squall_course.proofs.course.Course.incoming.Goals as goal

pub incoming-requires : goal.incoming-requires
incoming-requires c = by_place arriving_place c.self.inside.old c.self.inside.new c.self.inside.arriving.items _ c.self.invariant.plans c.self.invariant.arrived c.deref.ensures.value

pub returns : goal.returns
returns c =
    let keys : (set : List Interval) → ((k : ℕ) → has set k ≡ list_any (λ m. goes_to c.args.sub c.args.part m && move_has k m) c.deref.result.now) → (k : ℕ) → has set k ≡ is_incoming c.args.self.now.old c.args.self.now.new c.args.sub c.args.part k
    = λ set in_them k. in_them k ∙ filed_incoming c.args.self.now c.self.inside.old c.self.inside.new c.self.inside.arriving.items c.deref.result.now c.args.sub c.args.part k
    (ap (λ (v : Change). v.old) c.self.view_is) (ap (λ (v : Change). v.new) c.self.view_is) c.self.invariant.plans c.self.invariant.arrived c.deref.ensures.value in
    IfOk-weaker _ _ _ keys c.incoming.ensures
