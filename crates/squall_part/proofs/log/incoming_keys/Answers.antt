use Rattle.std.proofs.Common.{ap, ◌∙◌}
use Rattle.std.specs.List.{list_any}
use Rattle.std.proofs.lemmas.List.{take_all}
use Rattle.squall_part.proofs.Awaited.{brings, incoming_are}
use Rattle.squall_part.proofs.log.incoming_keys.Goals as goal

pub returns : goal.returns
returns c = λ k.
    c.loop-one.invariant k ∙ ap (list_any (brings c.args.part k)) (take_all c.loop-one.one-index c.moves-one-items.result.now c.loop-one-test.false)
    ∙ incoming_are c.args.course.now c.args.part c.moves-one-items.result.now c.moves-one-items.ensures.meaning k
