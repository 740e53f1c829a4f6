use Rattle.std.proofs.Common.{◌*◌, ◌-◌, ap, ◌∙◌}
use Rattle.squall_picture.specs.Scale.{column, unit_of}
use Rattle.squall_picture.proofs.axis.Axis.width.Goals as goal

pub returns : goal.returns
returns c =
    c.wide.ensures.value
    ∙ ap (λ n. unit_of c.args.self.now * n)
    (c.saturating_sub.ensures ∙ (λ i. (c.column-hi.ensures.value ∙ ap (column c.args.self.now) c.hi.ensures.value) i - (c.column-lo.ensures.value ∙ ap (column c.args.self.now) c.lo.ensures.value) i))
