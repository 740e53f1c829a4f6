use Rattle.std.proofs.Common.{◌≡◌, Some, None, get_or, position, sym, ap, ◌∙◌, rules}
use Rattle.squall_part.specs.Parts.{closed_in}
use Rattle.squall_part.specs.Logs.{has_number}
use Rattle.squall_part.proofs.Known.{found_in, none_at}
use Rattle.squall_part.proofs.part.Part.closed.Goals as goal

pub returns-in-Some : goal.returns-in-Some
returns-in-Some c =
    let e : c.behind-self.inside.closed ≡ (get_or c.args.self.now.logs c.in-Some.at c.index.result.now).closed = search rules in
    let found : Some c.in-Some.at ≡ position (has_number c.args.number) c.args.self.now.logs = search rules in
    e ∙ sym (ap closed_in (found_in c.args.self.now c.args.number c.in-Some.at c.index.result.now c.known.ensures found))

pub returns-in-None : goal.returns-in-None
returns-in-None c =
    let none : None ≡ position (has_number c.args.number) c.args.self.now.logs = search rules in
    sym (ap closed_in (none_at c.args.number c.args.self.now.logs (sym none)))
