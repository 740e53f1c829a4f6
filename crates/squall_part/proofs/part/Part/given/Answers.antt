use Rattle.std.proofs.Common.{◌≡◌, get_or, Some, ap, ◌∙◌, rules}
use Rattle.squall_part.proofs.Known.{given_at}
use Rattle.squall_part.proofs.part.Part.given.Goals as goal

pub returns : goal.returns
returns c =
    let e : c.behind-self.inside.given ≡ (get_or c.args.self.now.logs c.in_ok-at.at c.index.result.now).given = search rules in
    ap Some e ∙ given_at c.args.self.now c.args.number c.in_ok-at.at c.index.result.now c.known.ensures c.in_ok-at.ensures.some
