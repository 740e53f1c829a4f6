use Rattle.std.proofs.Common.{◌++◌, ◌∙◌, ap}
use Rattle.std.specs.Prelude.{string_bytes}
use Rattle.std.proofs.lemmas.Result.{on_ok_weaker}
use Rattle.squall_picture.specs.Scale.{x_of, is_written}
use Rattle.squall_picture.specs.Bars.{mark_text}
use Rattle.squall_picture.proofs.Texts.{added_if}
use Rattle.squall_picture.proofs.bars.add_tick.Goals as goal

pub returns : goal.returns
returns c = on_ok_weaker c.add_mark.result (λ e. e
    ∙ (λ i. string_bytes c.args.out.now ++ mark_text (c.x-x.ensures i) c.args.tick)
    ∙ ap (λ l. string_bytes c.args.out.now ++ l) (added_if (is_written c.args.axis.now c.args.tick) c.writes-written.result (mark_text (x_of c.args.axis.now c.args.tick) c.args.tick) c.writes-written.ensures c.if-not-written.false)) c.add_mark.ensures
