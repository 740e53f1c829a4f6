use Rattle.std.proofs.Common.{map}
use Rattle.serde_json.specs.Data.{object, member, no_members}
use Rattle.squall_cli_json.specs.Values.{json_of_list, json_of_range}
use Rattle.std.specs.Prelude.{string_bytes}
use Rattle.squall_cli_json.proofs.Streams.{line_of}
use Rattle.squall_cli_json.proofs.plan.listed_json.Goals as goal

pub returns : goal.returns
returns c = line_of (object (member c.args.name.now (json_of_list (map json_of_range c.args.ranges.now)) no_members)) string_bytes c.new-writer.result.tokens c.write_listed.new.writer.tokens c.written_line.result c.new-writer.ensures.tokens c.in_ok-write_listed.ensures.tokens c.written_line.ensures
