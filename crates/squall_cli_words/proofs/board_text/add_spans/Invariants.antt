use Rattle.std.specs.Prelude.{string_bytes}
use Rattle.std.proofs.Common.{◌≡◌, ◌++◌}
use Rattle.squall_cli_words.specs.BoardText.{next_spans}
use Rattle.squall_cli_words.proofs.board_text.add_spans.Given as goal

abbrev pub invariant-loop-span : goal.invariant-loop-span
invariant-loop-span l = string_bytes l.out ++ next_spans l.span-iterator ≡ string_bytes l.fn.out ++ next_spans l.fn.spans
