use Rattle.std.specs.Prelude.{map, string_bytes}
use Rattle.std.proofs.Common.{◌≡◌, ◌++◌, drop}
use Rattle.squall_cli_command.specs.Line.{words_of}
use Rattle.squall_cli_command.proofs.inquiry.add_words.Given as goal

abbrev pub invariant-loop-word : goal.invariant-loop-word
invariant-loop-word l = map string_bytes l.words.items ++ words_of (drop l.word-index l.given) ≡ map string_bytes l.fn.words.items ++ words_of l.given
