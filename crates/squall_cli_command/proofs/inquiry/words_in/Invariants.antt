use Rattle.std.specs.Prelude.{map, string_bytes}
use Rattle.std.proofs.Common.{◌≡◌, ◌++◌, drop}
use Rattle.clap.specs.Words.{found_of, rows_of}
use Rattle.squall_cli_command.specs.Line.{words_of}
use Rattle.squall_cli_command.specs.Asking.{words_in}
use Rattle.squall_cli_command.proofs.inquiry.words_in.Given as goal

abbrev pub invariant-loop-id : goal.invariant-loop-id
invariant-loop-id l = map string_bytes l.words.items ++ words_in (words_of (drop l.id-index l.ids)) (rows_of (found_of l.matches))
    ≡ words_in (words_of l.ids) (rows_of (found_of l.matches))
