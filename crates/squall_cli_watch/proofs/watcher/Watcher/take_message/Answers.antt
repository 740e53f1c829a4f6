use Rattle.std.proofs.Common.{subst, sym, ap, ◌∙◌}
use Rattle.std.specs.Prelude.{string_bytes}
use Rattle.squall_board.specs.Boards.{board_join}
use Rattle.squall_wire.specs.Messages.{lists_of}
use Rattle.squall_cli_watch.specs.Changed.{change_in}
use Rattle.squall_cli_watch.specs.Watched.{IsNewestStatus}
use Rattle.squall_cli_watch.proofs.Framed.{if_fine, frame_taken, frame_joined, stays}
use Rattle.squall_cli_watch.proofs.watcher.Watcher.take_message.Goals as goal

pub returns-in-Delta-clause-text : goal.returns-in-Delta-clause-text
returns-in-Delta-clause-text c =
    let w = c.args.self.now in
    let v = c.merge.new.self in
    let h = c.merge.ensures in
    let d = lists_of c.in-Delta.delta in
    let same = sym c.lists_make_the_board.ensures in
    rw c.in-Delta.is (if_fine c.merge.result _ _ _ _ _ _ h.how h.first h.board h.status h.out (λ next how first board status out. (
      change_in w.how.form (string_bytes w.shown) (string_bytes v.shown),
      out,
      frame_taken w.how w.first w.board d status.0 (subst (λ x. IsNewestStatus w.first (board_join w.board x) status.0) same status.1)
          v.how v.first v.board (string_bytes v.shown) next how first (board ∙ ap (board_join w.board) same) status.2 status.3 (string_bytes w.shown),
    )))

pub returns-in-Delta-clause-board : goal.returns-in-Delta-clause-board
returns-in-Delta-clause-board c =
    let w = c.args.self.now in
    let v = c.merge.new.self in
    let h = c.merge.ensures in
    let d = lists_of c.in-Delta.delta in
    let same = sym c.lists_make_the_board.ensures in
    rw c.in-Delta.is (if_fine c.merge.result _ _ _ _ _ _ h.how h.first h.board h.status h.out (λ next how first board status out.
    frame_joined w.how w.first w.board d status.0 (subst (λ x. IsNewestStatus w.first (board_join w.board x) status.0) same status.1)
    v.how v.first v.board (string_bytes v.shown) next how first (board ∙ ap (board_join w.board) same) status.2 status.3))

pub returns-in-Delta-clause-current : goal.returns-in-Delta-clause-current
returns-in-Delta-clause-current c =
    let w = c.args.self.now in
    let h = c.merge.ensures in
    if_fine c.merge.result _ _ _ _ _ _ h.how h.first h.board h.status h.out (λ next how first board status out. stays c.merge.new.self w.how w.first (board_join w.board c.in-Delta.delta) next how first board status.0 status.1 status.2 status.3)
