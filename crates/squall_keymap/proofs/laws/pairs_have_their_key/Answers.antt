use Rattle.squall_keymap.proofs.Words.{pair_alone, pair_followed}
use Rattle.squall_keymap.proofs.laws.pairs_have_their_key.Goals as goal

pub returns-clause-alone : goal.returns-clause-alone
returns-clause-alone c = pair_alone

pub returns-clause-followed : goal.returns-clause-followed
returns-clause-followed c = pair_followed
