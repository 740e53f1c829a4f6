use Rattle.squall_part.proofs.Replies.{same_reply}
use Rattle.squall_part.proofs.laws.one_reply.Goals as goal

pub returns : goal.returns
returns c = same_reply c.args.part.now
