use Rattle.squall_cli_race.proofs.Lists.{one_grows}
use Rattle.squall_cli_race.proofs.file.post.Goals as goal

pub returns : goal.returns
returns c = one_grows (λ l. l.items) c.args.lists.now c.args.sender c.push.new.self _ c.args.report c.requires.there c.in_ok-push.ensures.items
