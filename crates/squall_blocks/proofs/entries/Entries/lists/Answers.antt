use Rattle.std.proofs.Common.{ap, length, ◌∙◌, arith}
use Rattle.std.specs.List.{zip}
use Rattle.squall_blocks.proofs.Zips.{length-zip}
use Rattle.squall_blocks.proofs.entries.Entries.lists.Goals as goal

pub returns : goal.returns
returns g c =
    let n = length-zip c.self.inside.ends.items c.self.inside.values.items c.self.invariant in
    let m = ap length c.self.view_is in
    record {
      ends = omega (arith, n, m, c.deref.ensures.len);
      values = omega (arith, n, m, c.deref-2.ensures.len, c.self.invariant);
      both = (λ j. zip (c.deref.ensures.value j) (c.deref-2.ensures.value j)) ∙ c.self.view_is;
    }
