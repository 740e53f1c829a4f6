use Rattle.std.specs.Prelude.{string_bytes}
use Rattle.std.proofs.Common.{◌≡◌, ◌++◌, map, drop}
use Rattle.squall_cli_run.specs.Line.{words_of}
use Rattle.squall.proofs.texts.Given as goal

abbrev pub invariant-loop-word : goal.invariant-loop-word
invariant-loop-word l = words_of l.texts.items ++ map string_bytes (drop l.word-index l.words) ≡ map string_bytes l.words
