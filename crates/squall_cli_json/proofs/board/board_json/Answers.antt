use Rattle.squall_cli_json.specs.Values.{json_of_board}
use Rattle.std.specs.Prelude.{string_bytes}
use Rattle.squall_cli_json.proofs.Streams.{line_of}
use Rattle.squall_cli_json.proofs.board.board_json.Goals as goal

pub returns : goal.returns
returns c = line_of (json_of_board c.args.board.now) string_bytes c.new-writer.result.tokens c.write_board.new.writer.tokens c.written_line.result c.new-writer.ensures.tokens c.in_ok-write_board.ensures.tokens c.written_line.ensures
