use Rattle.squall_picture.proofs.Escapes.{number_plain, bound_plain, span_plain, open_plain, move_plain}
use Rattle.squall_picture.proofs.laws.nothing_needs_an_escape.Goals as goal

pub returns-clause-numbers : goal.returns-clause-numbers
returns-clause-numbers c = number_plain

pub returns-clause-bounds : goal.returns-clause-bounds
returns-clause-bounds c = bound_plain

pub returns-clause-spans : goal.returns-clause-spans
returns-clause-spans c = span_plain

pub returns-clause-subplans : goal.returns-clause-subplans
returns-clause-subplans c = open_plain

pub returns-clause-moves : goal.returns-clause-moves
returns-clause-moves c = move_plain
