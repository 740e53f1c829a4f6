use Rattle.std.proofs.Common.{◌≡◌, true, is_some, position, rules, arith}
use Rattle.std.proofs.lemmas.Grind.{common_steps}
use Rattle.squall_part.specs.Parts.{known_to}
use Rattle.squall_part.specs.Logs.{has_number}
use Rattle.squall_part.proofs.Known.{some_place, none_place}
use Rattle.squall_part.proofs.part.Part.known_place.Goals as goal

pub returns-clause-some : goal.returns-clause-some
returns-clause-some c =
    let e : c.place_of.result ≡ position (has_number c.args.number) c.args.self.now.logs = search rules in
    let k : is_some (known_to c.args.self.now c.args.number) ≡ true = grind (arith, common_steps) in
    some_place c.args.self.now c.args.number c.place_of.result c.known.ensures k e

pub returns-clause-none : goal.returns-clause-none
returns-clause-none c =
    let e : c.place_of.result ≡ position (has_number c.args.number) c.args.self.now.logs = search rules in
    none_place c.args.self.now c.args.number c.place_of.result c.known.ensures e
