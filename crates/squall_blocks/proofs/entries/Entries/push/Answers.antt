use Rattle.std.proofs.Common.{ap, ◌∙◌, ◌++◌, ◌∷◌, []}
use Rattle.squall_blocks.proofs.Zips.{zip-push}
use Rattle.squall_blocks.proofs.entries.Entries.push.Goals as goal

pub returns-clause-ok : goal.returns-clause-ok
returns-clause-ok g c =
    zip-push c.self.inside.ends.items c.push_reserved.new.self.items c.self.inside.values.items c.push_reserved-2.new.self.items c.args.end c.args.value c.args.self.now c.self.invariant c.self.view_is
    (c.push_reserved.ensures.items ∙ ap (λ l. l ++ c.args.end ∷ []) c.in_ok-reserve.ensures.items)
    (c.push_reserved-2.ensures.items ∙ ap (λ l. l ++ c.args.value ∷ []) c.in_ok-reserve-2.ensures.items)
