use Rattle.squall_headline.specs.ComingLaws.{piece_brings, none_coming}
use Rattle.squall_headline.proofs.laws.pieces_bring_messages.Goals as goal

pub returns-clause-piece : goal.returns-clause-piece
returns-clause-piece c = piece_brings

pub returns-clause-last : goal.returns-clause-last
returns-clause-last c = none_coming
