use Rattle.squall_keymap.proofs.Words.{tag_between, tagged}
use Rattle.squall_keymap.proofs.laws.tags_are_kept_together.Goals as goal

pub returns-clause-tag : goal.returns-clause-tag
returns-clause-tag c = tag_between

pub returns-clause-hash : goal.returns-clause-hash
returns-clause-hash c = tagged
