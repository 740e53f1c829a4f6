use Rattle.std.proofs.Common.{◌≡◌, ◌++◌, map, drop}
use Rattle.std.specs.Prelude.{string_bytes}
use Rattle.squall_cli_boards.specs.BadWords.{after_blanks}
use Rattle.squall_cli_boards.proofs.words.add_after_blanks.Given as goal

-- the text so far, and the words that are left
abbrev pub invariant-loop-word : goal.invariant-loop-word
invariant-loop-word l = string_bytes l.text ++ after_blanks (map string_bytes (drop l.word-index l.words)) ≡ string_bytes l.fn.text ++ after_blanks (map string_bytes l.words)
