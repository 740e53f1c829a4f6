use Rattle.std.proofs.Common.{◌<◌, Some, ap, sym, ◌∙◌, length, arith}
use Rattle.std.specs.List.{slice_get}
use Rattle.squall_blocks.proofs.Zips.{length-zip, zip-read}
use Rattle.squall_blocks.proofs.entries.Entries.at.Goals as goal

pub index-requires : goal.index-requires
index-requires g c = omega (arith, length-zip c.self.inside.ends.items c.self.inside.values.items c.self.invariant, ap length c.self.view_is, c.requires)

pub index-requires-2 : goal.index-requires-2
index-requires-2 g c = omega (arith, length-zip c.self.inside.ends.items c.self.inside.values.items c.self.invariant, ap length c.self.view_is, c.requires, c.self.invariant)

pub returns : goal.returns
returns g c =
    let fits : c.args.place < length c.self.inside.ends.items = omega (arith, length-zip c.self.inside.ends.items c.self.inside.values.items c.self.invariant, ap length c.self.view_is, c.requires) in
    sym (ap (λ l. slice_get l c.args.place) c.self.view_is)
    ∙ zip-read c.self.inside.ends.items c.self.inside.values.items c.args.place c.index.result.now c.index-2.result.now c.self.invariant fits c.index.ensures c.index-2.ensures
    ∙ ap (λ k. Some (k, c.index-2.result.now)) (sym c.end.ensures)
