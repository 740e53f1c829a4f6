use Rattle.std.proofs.Common.{◌+◌, ◌∙◌, refl, arith}
use Rattle.squall_blocks.proofs.Replacing.{count_of, edit_made, edit_blocks}
use Rattle.squall_blocks.proofs.edit.replace_across.Goals as goal

pub splice_both-requires-clause-items : goal.splice_both-requires-clause-items
splice_both-requires-clause-items g c = omega (arith, c.requires.edit.last.within, count_of c.args.lasts.now.items c.args.blocks.now.items c.requires.edit.blocks)

pub returns-clause-blocks : goal.returns-clause-blocks
returns-clause-blocks g c =
    edit_blocks c.args.lasts.now.items c.deref.result.now c.splice_both.new.keys.items c.args.blocks.now.items c.middle.inside.blocks.items c.splice_both.new.items.items c.args.fresh.now c.args.from c.args.to c.args.at.first c.args.at.end (c.args.at.end + 1) c.args.at.start c.args.at.stop
    c.requires.edit (c.deref.ensures.value ∙ c.middle.invariant.lasts) c.middle.invariant.full (c.middle.view_is ∙ c.in_ok-middle.ensures) refl c.in_ok-splice_both.ensures.keys c.in_ok-splice_both.ensures.items c.requires.rise

pub returns-clause-ok : goal.returns-clause-ok
returns-clause-ok g c =
    edit_made c.args.lasts.now.items c.args.blocks.now.items c.middle.inside.blocks.items c.splice_both.new.items.items c.args.fresh.now c.args.from c.args.to c.args.at.first c.args.at.end (c.args.at.end + 1) c.args.at.start c.args.at.stop
    c.requires.edit (c.middle.view_is ∙ c.in_ok-middle.ensures) refl c.in_ok-splice_both.ensures.items
