use Rattle.std.proofs.Common.{◌≡◌, Some, None, sym, ap, ◌∙◌}
use Rattle.squall_part.specs.Parts.{known_to, course_of_part}
use Rattle.squall_part.proofs.Known.{course_known, newest_at}
use Rattle.squall_part.proofs.part.Part.newest_place.Goals as goal

pub unreachable-requires : goal.unreachable-requires
unreachable-requires c =
    let e : None ≡ Some (course_of_part c.args.self.now) = sym c.in_default.ensures.none ∙ ap (known_to c.args.self.now) c.newest_number.ensures ∙ course_known c.args.self.now c.known.ensures in
    cc

pub returns : goal.returns
returns c = newest_at c.args.self.now c.in-Some.at c.known.ensures (rw c.newest_number.ensures at c.in-Some.ensures.some)
