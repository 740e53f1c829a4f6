use Rattle.std.proofs.Common.{◌∙◌, ap, sym, subst, set, refl}
use Rattle.squall_blocks.specs.Blocks.{flat, put, AreBlocks}
use Rattle.squall_blocks.proofs.Preparing.{put_is}
use Rattle.squall_blocks.proofs.prepared.Prepared.leave.Goals as goal

pub invariant_of-result : goal.invariant_of-result
invariant_of-result g c =
    let bs = c.self.inside.blocks.items in
    let at = c.self.inside.at in
    let back = put_is bs (set bs at c.into_entries.result) at c.into_entries.result c.self.invariant.0.within refl in
    subst (AreBlocks c.self.inside.lasts.items) (ap (put bs at) (sym c.into_entries.ensures) ∙ sym back) c.self.invariant.0.before

pub returns : goal.returns
returns g c =
    let bs = c.self.inside.blocks.items in
    let at = c.self.inside.at in
    let back = put_is bs (set bs at c.into_entries.result) at c.into_entries.result c.self.invariant.0.within refl in
    ap flat (back ∙ ap (put bs at) c.into_entries.ensures) ∙ ap (λ p. p.0) c.self.view_is
