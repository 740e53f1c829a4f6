use Rattle.std.proofs.Common.{◌∙◌, ap, set, refl, arith}
use Rattle.squall_blocks.specs.Blocks.{flat, put}
use Rattle.squall_blocks.proofs.Preparing.{put_is, made_blocks, lasts_within}
use Rattle.squall_blocks.proofs.prepared.Prepared.make.Goals as goal

pub index_mut-requires : goal.index_mut-requires
index_mut-requires g c = omega (arith, lasts_within c.self.inside.lasts.items c.self.inside.blocks.items c.self.inside.block.entries c.self.inside.at c.self.invariant.0.before c.self.invariant.0.within)

pub join_around-requires : goal.join_around-requires
join_around-requires g c =
    record {
      blocks = made_blocks c.self.inside.lasts.items (set c.self.inside.lasts.items c.self.inside.at c.last_end.result) c.self.inside.blocks.items (set c.self.inside.blocks.items c.self.inside.at c.into_entries-block.result) c.self.inside.block.entries _ c.into_entries-block.result c.self.inside.at c.last_end.result
          c.self.invariant.0 (c.into_entries-block.ensures ∙ c.replace.ensures) c.last_end.ensures refl refl;
    }

pub returns : goal.returns
returns g c =
    let bs = c.self.inside.blocks.items in
    let at = c.self.inside.at in
    let back = put_is bs (set bs at c.into_entries-block.result) at c.into_entries-block.result c.self.invariant.0.within refl in
    c.join_around.ensures.same ∙ ap flat (back ∙ ap (put bs at) (c.into_entries-block.ensures ∙ c.replace.ensures)) ∙ ap (λ p. p.1) c.self.view_is
