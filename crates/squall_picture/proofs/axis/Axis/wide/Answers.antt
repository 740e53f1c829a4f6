use Rattle.std.proofs.Common.{◌<◌, ◌≤◌, ◌^◌, length, ap, arith}
use Rattle.squall_picture.specs.Scale.{columns}
use Rattle.squall_picture.proofs.Columns.{wide_few}
use Rattle.squall_picture.proofs.axis.Axis.wide.Goals as goal

pub overflow_mul-result : goal.overflow_mul-result
overflow_mul-result c =
    let v = c.self.inside.ticks in
    let same = ap columns c.self.view_is in
    let few : c.args.count ≤ columns v.items = omega (arith, c.requires, same) in
    let short : length v.items < 2 ^ 63 = omega (arith, v.ok.0, v.ok.1, v.small) in
    let most = wide_few v.items c.self.inside.unit c.args.count c.self.invariant.0 few short in
    omega (arith, most)

pub returns-clause-most : goal.returns-clause-most
returns-clause-most c =
    let v = c.self.inside.ticks in
    let same = ap columns c.self.view_is in
    let few : c.args.count ≤ columns v.items = omega (arith, c.requires, same) in
    let short : length v.items < 2 ^ 63 = omega (arith, v.ok.0, v.ok.1, v.small) in
    let most = wide_few v.items c.self.inside.unit c.args.count c.self.invariant.0 few short in
    omega (arith, most)
