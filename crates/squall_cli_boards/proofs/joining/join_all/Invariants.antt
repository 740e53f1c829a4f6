use Rattle.std.proofs.Common.{◌≡◌, drop}
use Rattle.squall_cli_boards.specs.Files.{joined_files, files_joined}
use Rattle.squall_cli_boards.proofs.joining.join_all.Given as goal

-- what comes of the files that are left is what comes of all of them
abbrev pub invariant-loop-file : goal.invariant-loop-file
invariant-loop-file l = joined_files l.board (drop l.file-index l.files) ≡ files_joined l.files
