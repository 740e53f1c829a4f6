use Rattle.std.proofs.Common.{◌≤◌, ap, arith}
use Rattle.squall_key.specs.Keys.{top}
use Rattle.squall_picture.specs.Scale.{column}
use Rattle.squall_picture.proofs.Columns.{column_rises}
use Rattle.squall_picture.proofs.axis.Axis.column.Goals as goal

pub returns-clause-most : goal.returns-clause-most
returns-clause-most c =
    let high : c.args.bound ≤ top = omega (arith, c.rank-rank.ensures.high, c.rank-rank.ensures.value) in
    let rises = column_rises c.args.self.now c.args.bound top high in
    let lent = ap (λ ts. column ts c.args.bound) c.deref.ensures.value in
    let same = ap (λ ts. column ts c.args.bound) c.self.view_is in
    omega (arith, rises, lent, same, c.column.ensures.value)
