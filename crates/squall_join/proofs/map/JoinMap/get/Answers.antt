use Rattle.std.proofs.Common.{Some, get_or, sym, ap, ◌∙◌}
use Rattle.squall_join.proofs.Places.{find_at, find_gap}
use Rattle.squall_join.proofs.map.JoinMap.get.Goals as goal

pub returns-in-Ok : goal.returns-in-Ok
returns-in-Ok g c =
    ap (λ x. Some x.1) c.index.ensures ∙ ap (λ es. Some (get_or es c.in-Ok.at c.index.result.now).1) c.self.view_is
    ∙ sym (find_at g.met.K.Ord.total c.args.self.now c.args.key.now c.in-Ok.at c.index.result.now c.in-Ok.ensures.found)

pub returns-in-Err : goal.returns-in-Err
returns-in-Err g c = sym (find_gap g.met.K.Ord.total c.args.self.now c.args.key.now _ c.in-Err.ensures.absent)
