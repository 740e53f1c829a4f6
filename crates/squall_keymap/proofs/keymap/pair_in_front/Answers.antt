use Rattle.std.proofs.Common.{◌∙◌}
use Rattle.squall_keymap.proofs.Words.{same_words}
use Rattle.squall_keymap.proofs.keymap.pair_in_front.Goals as goal

pub returns : goal.returns
returns c = c.pair_of_words.ensures ∙ same_words c.args.bytes.now _ _ _ c.split.ensures.before c.split.ensures.after c.split-2.ensures.before
