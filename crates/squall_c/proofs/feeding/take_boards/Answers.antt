use Rattle.std.proofs.Common.{rules}
use Rattle.squall_c.proofs.Wholes.{silent_station}
use Rattle.squall_c.proofs.feeding.take_boards.Goals as goal

pub returns-then-not-brings_boards-clause-taken : goal.returns-then-not-brings_boards-clause-taken
returns-then-not-brings_boards-clause-taken c = silent_station c.args.station.now c.args.messages.now c.known.ensures.board (c.brings_boards.ensures.none (search rules))
