use Rattle.std.proofs.Common.{◌∙◌}
use Rattle.std.proofs.lemmas.Result.{IfOk-weaker}
use Rattle.squall_cli_boards.proofs.Parts.{pair_spaced}
use Rattle.squall_cli_boards.proofs.words.Phrase.text.Goals as goal

pub returns-in-Two : goal.returns-in-Two
returns-in-Two c =
    let pair = pair_spaced c.args.self.now c.in-Two.word c.in-Two.other c.in-Two.is in
    IfOk-weaker c.paired.result _ _ (λ text h. h ∙ pair) c.paired.ensures
