use Rattle.squall_cli_json.specs.Values.{json_of_status}
use Rattle.std.specs.Prelude.{string_bytes}
use Rattle.squall_cli_json.proofs.Streams.{line_of}
use Rattle.squall_cli_json.proofs.status.status_json.Goals as goal

pub returns : goal.returns
returns c = line_of (json_of_status c.args.shown c.args.status.now) string_bytes c.new-writer.result.tokens c.write_status.new.writer.tokens c.written_line.result c.new-writer.ensures.tokens c.in_ok-write_status.ensures.tokens c.written_line.ensures
