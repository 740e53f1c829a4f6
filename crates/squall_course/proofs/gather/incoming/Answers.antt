use Rattle.std.proofs.Common.{◌≡◌, ℕ, List, ◌∙◌}
use Rattle.std.specs.Prelude.{◌&&◌}
use Rattle.std.specs.List.{list_any}
use Rattle.std.proofs.lemmas.Result.{IfOk-weaker}
use Rattle.squall_span.specs.Spans.{Interval, has}
use Rattle.squall_course.specs.Moves.{move_has, goes_to, in_moves}
use Rattle.squall_course.proofs.Filed.{arriving_keys}
use Rattle.squall_course.proofs.gather.incoming.Goals as goal

pub returns : goal.returns
returns c =
    let keys : (set : List Interval) → ((k : ℕ) → has set k ≡ in_moves k c.arriving_between.result.now) → (k : ℕ) → has set k ≡ list_any (λ m. goes_to c.args.sub c.args.part m && move_has k m) c.args.arriving.now
    = λ set in_them k. in_them k ∙ arriving_keys c.args.sub c.args.part k c.place-from.result c.args.arriving.now c.arriving_between.result.now c.place-from.ensures.limit c.place-from.ensures.value c.requires c.arriving_between.ensures in
    IfOk-weaker _ _ _ keys c.keys.ensures
