use Rattle.squall_cli_json.specs.Values.{json_of_course}
use Rattle.std.specs.Prelude.{string_bytes}
use Rattle.squall_cli_json.proofs.Streams.{line_of}
use Rattle.squall_cli_json.proofs.course.course_json.Goals as goal

pub returns : goal.returns
returns c = line_of (json_of_course c.args.course.now.old c.args.course.now.new) string_bytes c.new-writer.result.tokens c.write_course.new.writer.tokens c.written_line.result c.new-writer.ensures.tokens c.in_ok-write_course.ensures.tokens c.written_line.ensures
