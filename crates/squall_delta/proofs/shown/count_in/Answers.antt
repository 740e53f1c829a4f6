use Rattle.std.proofs.Common.{rules}
use Rattle.std.specs.Cmp.{nat_cmp_total}
use Rattle.std.proofs.lemmas.List.Sorted.{answers_always}
use Rattle.squall_board.specs.declared.opening.Opening.{Opening}
use Rattle.squall_delta.proofs.Searched.{openings_less, count_found, count_absent, absent}
use Rattle.std.specs.Ordering.{nat_cmp}
use Rattle.squall_delta.proofs.shown.count_in.Goals as goal

pub returns-in-Ok : goal.returns-in-Ok
returns-in-Ok c = count_found c.args.number c.args.openings.now (openings_less c.args.openings.now c.requires.turn) c.in-Ok.at _ c.in-Ok.ensures.bound
    (c.in-Ok.ensures.position (λ o. o.number) (answers_always _ _ _ (λ f a r g called. search rules)) _)

pub returns-in-Err : goal.returns-in-Err
returns-in-Err c = count_absent c.args.number c.args.openings.now
    (absent nat_cmp nat_cmp_total (λ (o : Opening). o.number) c.args.number c.args.openings.now (openings_less c.args.openings.now c.requires.turn) c.in-Err.field-0
    (c.in-Err.ensures.position (λ o. o.number) (answers_always _ _ _ (λ f a r g called. search rules))))
