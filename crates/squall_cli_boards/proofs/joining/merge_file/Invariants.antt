use Rattle.std.proofs.Common.{◌≡◌, length}
use Rattle.squall_cli_boards.specs.Files.{joined_file}
use Rattle.squall_cli_boards.proofs.joining.merge_file.Given as goal

-- what comes of the bytes that are left is what comes of the file
abbrev pub invariant-loop-rest : goal.invariant-loop-rest
invariant-loop-rest l = joined_file l.board l.rest ≡ joined_file l.fn.board l.bytes

abbrev pub decreases-loop-rest : goal.decreases-loop-rest
decreases-loop-rest l = length l.rest
