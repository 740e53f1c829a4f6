use Rattle.std.proofs.Common.{take}
use Rattle.std.specs.List.{flat_map}
use Rattle.sha2.specs.Hashers.{Holds256}
use Rattle.squall_board.specs.Listed.{cells_of_parts}
use Rattle.squall_wire.specs.Spelling.{spell_cell}
use Rattle.squall_delta.proofs.hashing.row_hash.Given as goal

abbrev pub invariant-loop-entry : goal.invariant-loop-entry
invariant-loop-entry l = Holds256 l.hasher (flat_map spell_cell (cells_of_parts l.number l.sub (take l.entry-index l.entry-items)))
