use Rattle.std.proofs.Common.{◌∙◌}
use Rattle.std.specs.Prelude.{map, string_bytes}
use Rattle.clap.specs.Words.{found_of, rows_of}
use Rattle.squall_cli_command.proofs.Rows.{all_is, nothing_more}
use Rattle.squall_cli_command.proofs.inquiry.add_values.Goals as goal

pub returns-in-None : goal.returns-in-None
returns-in-None c = nothing_more (map string_bytes c.args.words.now.items) c.args.id.now (rows_of (found_of c.args.matches.now))
    (c.in-None.ensures ∙ all_is (found_of c.args.matches.now) c.args.id.now)
