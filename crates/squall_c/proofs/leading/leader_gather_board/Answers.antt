use Rattle.std.specs.Prelude.{Option, Some, refl}
use Rattle.std.proofs.Common.{sym, subst}
use Rattle.squall_c_leaders.specs.Nodes.{NodeValue, KeepsBoard}
use Rattle.squall_c.specs.declared.leaders.LeaderSlot.{LeaderSlot}
use Rattle.squall_c.specs.LeaderSlots.{frame_number, with_node, AnswersIn}
use Rattle.squall_c.proofs.leading.leader_gather_board.Goals as goal

pub returns-in-Some : goal.returns-in-Some
returns-in-Some c =
    let old : LeaderSlot = c.args.slot.now in
    subst (λ (o : Option NodeValue). AnswersIn frame_number (KeepsBoard c.args.limit) old o (with_node old c.gather_board.new.self) c.frame_number.result) (sym c.in-Some.is)
    (record {
      answer = c.gather_board.result;
      node = c.gather_board.new.self;
      acts = c.gather_board.ensures;
      told = c.frame_number.ensures;
      after = refl;
    })
