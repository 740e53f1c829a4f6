use Rattle.std.proofs.Common.{inl, inr, rules, arith}
use Rattle.squall_cli_ask.specs.Reads.{bytes_at}
use Rattle.squall_cli_ask.specs.Told.{input_taken_told}
use Rattle.squall_cli_ask.specs.Followed.{files_followed}
use Rattle.squall_cli_ask.proofs.Followed.{nothing_drawn}
use Rattle.squall_cli_ask.proofs.stream.answer_stream.Goals as goal

pub returns-then-names_input-clause-told : goal.returns-then-names_input-clause-told
returns-then-names_input-clause-told g c =
    let here = bytes_at (g.F.Files.known c.args.files.now) (g.S.Source.state c.args.input.now) (g.O.Sink.state c.args.out.now) in (
      g.E.Sink.state c.args.err.now,
      nothing_drawn c.args.follow.now.stream (g.E.Sink.terminal c.args.err.now) here here (files_followed c.args.follow.now) c.tell_input_taken.result (g.E.Sink.state c.args.err.now)
          (omega (arith, c.tell_input_taken.ensures.status)),
      input_taken_told,
      inr (inr (inl (c.tell_input_taken.ensures.status, search rules))),
      c.tell_input_taken.ensures.told,
    )
