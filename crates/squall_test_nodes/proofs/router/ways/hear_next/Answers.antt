use Rattle.std.proofs.lemmas.Result.{on_ok_weaker}
use Rattle.squall_test_nodes.proofs.router.ways.hear_next.Goals as goal

pub returns-clause-brings : goal.returns-clause-brings
returns-clause-brings c = on_ok_weaker c.hear.result (λ heard sent coming on. c.pieces_bring_messages.ensures.piece sent c.args.feed.now c.hear.new.feed c.args.piece.now coming heard.0 heard.1 c.args.router.now.board c.hear.new.router.board on heard.2 heard.3) c.hear.ensures.heard
