use Rattle.squall_keymap.proofs.Ranks.{hashed_below, row_below}
use Rattle.squall_keymap.proofs.laws.rows_have_keys.Goals as goal

pub returns-clause-hash : goal.returns-clause-hash
returns-clause-hash c = hashed_below

pub returns-clause-row : goal.returns-clause-row
returns-clause-row c = row_below
