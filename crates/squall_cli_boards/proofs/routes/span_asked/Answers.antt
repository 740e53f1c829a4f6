use Rattle.std.proofs.Common.{string_bytes, ap, ◌∙◌, Err}
use Rattle.squall_cli_boards.proofs.Parts.{one_is_no_span, three_are_no_span}
use Rattle.squall_cli_boards.proofs.routes.span_asked.Goals as goal

pub returns-in-len1 : goal.returns-in-len1
returns-in-len1 c = ap Err c.all-in-len1.ensures ∙ one_is_no_span string_bytes c.args.words.now c.in-len1.len_at_least c.in-len1.len_below

pub returns-in_default : goal.returns-in_default
returns-in_default c = ap Err c.all-in_default.ensures ∙ three_are_no_span string_bytes c.args.words.now c.in_default.len_at_least
