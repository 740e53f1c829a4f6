use Rattle.squall_cli_json.specs.Values.{json_of_refusal}
use Rattle.std.specs.Prelude.{string_bytes}
use Rattle.squall_cli_json.proofs.Streams.{line_of}
use Rattle.squall_cli_json.proofs.refusal.refusal_json.Goals as goal

pub returns : goal.returns
returns c = line_of (json_of_refusal c.args.what.now c.args.fault.now) string_bytes c.new-writer.result.tokens c.write_refusal.new.writer.tokens c.written_line.result c.new-writer.ensures.tokens c.in_ok-write_refusal.ensures.tokens c.written_line.ensures
