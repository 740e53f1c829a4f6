use Rattle.squall_board.specs.BoardLaws.{same_within}
use Rattle.squall_board.proofs.laws.equal_facts_within_limits.Goals as goal

pub returns : goal.returns
returns c facts issues = same_within c.args.first.now c.args.second.now c.known.ensures.board c.known-2.ensures.board facts issues
