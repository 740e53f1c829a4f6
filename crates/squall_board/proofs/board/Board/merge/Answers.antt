use Rattle.std.proofs.Common.{OnOk, subst}
use Rattle.squall_board.specs.Boards.{told}
use Rattle.squall_board.specs.Takes.{TakesBoard}
use Rattle.squall_board.specs.TakesLaws.{took, same_told}
use Rattle.squall_board.proofs.Merged.{merged_is}
use Rattle.squall_board.proofs.board.Board.merge.Goals as goal

pub invariant_of-self : goal.invariant_of-self
invariant_of-self c = merged_is c.join_in.result c.join_in.new.self c.self.inside.parts c.other.inside.parts c.join_in.ensures.ok c.join_in.ensures.err c.self.invariant c.other.invariant

pub returns-clause-takes : goal.returns-clause-takes
returns-clause-takes c = subst (λ v. OnOk c.join_in.result (TakesBoard c.args.self.now v c.join_in.new.self)) c.other.view_is
    (took c.join_in.result c.join_in.new.self c.self.inside.parts c.other.inside.parts c.args.self.now (told c.other.inside.parts) c.self.view_is c.join_in.ensures.ok c.self.invariant c.other.invariant (same_told _))
