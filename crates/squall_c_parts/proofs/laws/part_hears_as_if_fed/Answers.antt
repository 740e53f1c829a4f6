use Rattle.std.specs.Prelude.{◌≡◌, ℕ, List, [], ◌∷◌, ◌++◌, None, refl}
use Rattle.std.proofs.Common.{sym, ap, subst, ◌∙◌, append-nil}
use Rattle.squall_board.specs.Boards.{BoardValue, IsBoard, empty_board, told}
use Rattle.squall_board.specs.BoardLaws.{empty_is}
use Rattle.squall_board.specs.Takes.{TakesBoard}
use Rattle.squall_board.specs.TakesLaws.{takes, same_told}
use Rattle.squall_wire.specs.declared.message.Message.{Message}
use Rattle.squall_wire.specs.declared.message.Message.TheVariants.{Delta, Digest}
use Rattle.squall_wire.specs.Messages.{IsMessage, spell}
use Rattle.squall_wire.specs.Hearing.{FeedValue, IsHeard}
use Rattle.squall_wire.specs.HearingLaws.{spelled_are_heard}
use Rattle.squall_part.specs.Parts.{PartValue}
use Rattle.squall_replay.specs.Calls.{Absorbs}
use Rattle.squall_c_frames.specs.JoinedLaws.{join_after}
use Rattle.squall_c_parts.specs.Nodes.{NodeValue}
use Rattle.squall_c_parts.specs.PartHearing.{TakesMessage}
use Rattle.squall_c_parts.specs.PartFeeding.{TakesAll}
use Rattle.squall_c_parts.proofs.laws.part_hears_as_if_fed.Goals as goal

-- a partition that absorbs nothing stays
absorbs_nothing : (p : PartValue) → IsBoard p.board → Absorbs p empty_board p
absorbs_nothing p is = record {
  takes = subst (λ (b : BoardValue). TakesBoard p.board empty_board b) (join_after p.board is) (takes p.board empty_board (told empty_board) is empty_is (same_told (told empty_board)));
  same = refl;
  given = λ n. refl;
  loaded = λ n. refl;
  closed = λ n. refl;
}

-- what one message leaves, fed alone
fed_alone : (n k : NodeValue) (m : Message) → IsBoard n.part.board → IsMessage m → TakesMessage n m k → TakesAll n (m ∷ []) n.feed k
fed_alone n k (Delta b) is message taken = record {
  part = taken.part;
  absorbs = subst (λ (x : BoardValue). Absorbs n.part x taken.part) (sym (join_after b message.content)) taken.absorbs;
  node = taken.node;
}
fed_alone n k (Digest d) is message taken = record { part = n.part; absorbs = absorbs_nothing n.part is; node = taken }

pub returns : goal.returns
returns c n k m is message e taken = record {
  messages = m ∷ [];
  feed = n.feed;
  heard = record {
    unended = ap (λ (f : FeedValue). f.failed) e;
    rest = [];
    heard = subst (λ (t : List ℕ). IsHeard t (m ∷ []) None []) (append-nil (spell m) ∙ ap (λ (f : FeedValue). f.waiting ++ spell m) (sym e)) (spelled_are_heard (m ∷ []) (message, tt));
    after = e;
  };
  takes = fed_alone n k m is message taken;
}
