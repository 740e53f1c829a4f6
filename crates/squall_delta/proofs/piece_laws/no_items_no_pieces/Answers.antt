use Rattle.squall_wire.specs.Limits.{body_limit}
use Rattle.squall_delta.specs.PieceLaws.{empty_has_none, none_is_empty}
use Rattle.squall_delta.proofs.piece_laws.no_items_no_pieces.Goals as goal

pub returns-clause-none : goal.returns-clause-none
returns-clause-none c = empty_has_none body_limit

pub returns-clause-empty : goal.returns-clause-empty
returns-clause-empty c = none_is_empty body_limit c.args.board.now c.known.ensures.board
