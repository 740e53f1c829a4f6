use Rattle.std.proofs.Common.{◌∙◌, ◌++◌, ◌∷◌, [], ap, append-nil}
use Rattle.squall_blocks.specs.Blocks.{flat}
use Rattle.squall_blocks.proofs.Blocked.{blocks_by, flat-append}
use Rattle.squall_blocks.proofs.blocks.Blocks.append.Goals as goal

pub invariant_of-self-2 : goal.invariant_of-self-2
invariant_of-self-2 g c =
    blocks_by c.self.inside.lasts.items c.push_reserved.new.self.items c.self.inside.blocks.items c.push_reserved-2.new.self.items c.args.self.now c.args.block c.last_end-last.result c.self.invariant
    c.self.view_is c.requires.some c.requires.few c.requires.rise c.last_end-last.ensures
    (c.push_reserved.ensures.items ∙ ap (λ l. l ++ c.last_end-last.result ∷ []) c.in_ok-reserve.ensures.items)
    (c.push_reserved-2.ensures.items ∙ ap (λ l. l ++ c.args.block ∷ []) c.in_ok-reserve-2.ensures.items)

pub returns-clause-ok : goal.returns-clause-ok
returns-clause-ok g c =
    ap flat (c.push_reserved-2.ensures.items ∙ ap (λ l. l ++ c.args.block ∷ []) c.in_ok-reserve-2.ensures.items)
    ∙ flat-append c.self.inside.blocks.items (c.args.block ∷ [])
    ∙ (λ j. c.self.view_is j ++ append-nil c.args.block j)
