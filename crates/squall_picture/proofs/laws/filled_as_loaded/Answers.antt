use Rattle.squall_picture.proofs.Shares.{share_most, share_whole, share_none}
use Rattle.squall_picture.proofs.laws.filled_as_loaded.Goals as goal

pub returns-clause-most : goal.returns-clause-most
returns-clause-most c = share_most

pub returns-clause-whole : goal.returns-clause-whole
returns-clause-whole c = share_whole

pub returns-clause-none : goal.returns-clause-none
returns-clause-none c = share_none
