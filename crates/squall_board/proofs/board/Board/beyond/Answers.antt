use Rattle.std.proofs.Common.{sym, subst}
use Rattle.squall_board.specs.Boards.{IsBoard}
use Rattle.squall_board.specs.BoardBeyondLaws.{beyond_is}
use Rattle.squall_board.proofs.Remains.{rest_tells, rest_joined, rest_at_most}
use Rattle.squall_board.proofs.board.Board.beyond.Goals as goal

pub invariant_of-result : goal.invariant_of-result
invariant_of-result c = subst IsBoard (sym c.in_ok-parts.ensures) (beyond_is c.self.inside.parts c.other.inside.parts c.self.invariant c.other.invariant)

pub returns-clause-told : goal.returns-clause-told
returns-clause-told c = rest_tells c.in_ok-parts.parts c.self.inside.parts c.other.inside.parts c.args.self.now c.args.other.now c.in_ok-parts.ensures c.self.view_is c.other.view_is c.self.invariant c.other.invariant

pub returns-clause-joined : goal.returns-clause-joined
returns-clause-joined c = rest_joined c.in_ok-parts.parts c.self.inside.parts c.other.inside.parts c.args.self.now c.args.other.now c.in_ok-parts.ensures c.self.view_is c.other.view_is c.self.invariant c.other.invariant

pub returns-clause-at_most : goal.returns-clause-at_most
returns-clause-at_most c = rest_at_most c.in_ok-parts.parts c.self.inside.parts c.other.inside.parts c.args.self.now c.args.other.now c.in_ok-parts.ensures c.self.view_is c.other.view_is c.self.invariant c.other.invariant
