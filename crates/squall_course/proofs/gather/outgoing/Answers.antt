use Rattle.std.proofs.Common.{◌≡◌, ℕ, List, ◌∙◌}
use Rattle.std.specs.Prelude.{◌&&◌}
use Rattle.std.specs.List.{list_any}
use Rattle.std.proofs.lemmas.Result.{IfOk-weaker}
use Rattle.squall_span.specs.Spans.{Interval, has}
use Rattle.squall_course.specs.Moves.{move_has, in_moves}
use Rattle.squall_course.specs.Steps.{leaves}
use Rattle.squall_course.proofs.Filed.{leaving_keys}
use Rattle.squall_course.proofs.gather.outgoing.Goals as goal

pub returns : goal.returns
returns c =
    let keys : (set : List Interval) → ((k : ℕ) → has set k ≡ in_moves k c.leaving_between.result.now) → (k : ℕ) → has set k ≡ list_any (λ m. leaves c.args.sub c.args.part m && move_has k m) c.args.leaving.now
    = λ set in_them k. in_them k ∙ leaving_keys c.args.sub c.args.part k c.place-from.result c.args.leaving.now c.leaving_between.result.now c.place-from.ensures.limit c.place-from.ensures.value c.requires c.leaving_between.ensures in
    IfOk-weaker _ _ _ keys c.keys.ensures
