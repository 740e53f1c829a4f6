use Rattle.std.proofs.Common.{◌≡◌, map, take}
use Rattle.squall_cli_ask.specs.Audited.{log_file}
use Rattle.squall_cli_ask.proofs.audit.log_files.Given as goal

abbrev pub invariant-loop-file : goal.invariant-loop-file
invariant-loop-file l = l.logs.items ≡ map log_file (take l.file-index l.files)
