use Rattle.std.proofs.Common.{◌≡◌, get_or, Some, ap, ◌∙◌, rules}
use Rattle.squall_part.proofs.Known.{loaded_at}
use Rattle.squall_part.proofs.part.Part.loaded.Goals as goal

pub returns : goal.returns
returns c =
    let e : c.behind-self.inside.loaded ≡ (get_or c.args.self.now.logs c.in_ok-at.at c.index.result.now).loaded = search rules in
    ap Some e ∙ loaded_at c.args.self.now c.args.number c.in_ok-at.at c.index.result.now c.known.ensures c.in_ok-at.ensures.some
