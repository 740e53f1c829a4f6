use Rattle.std.proofs.Common.{◌+◌, ◌∙◌, ◌++◌, ◌∷◌, [], drop, arith, refl}
use Rattle.std.specs.Prelude.{map}
use Rattle.squall_wire.specs.Messages.{body_of}
use Rattle.squall_cli_watch.specs.Watched.{refused_frame}
use Rattle.squall_cli_watch.specs.Taken.{plays}
use Rattle.squall_cli_watch.specs.Drawing.{makes}
use Rattle.squall_cli_watch.proofs.Begun.{next_left, none_left, added, begun_more, begun_ends, begun_fault, begun_all, joining_more, joining_ends, joining_all, joining_fault}
use Rattle.squall_cli_watch.proofs.watcher.Watcher.take_messages.Goals as goal

pub returns-in-End-clause-texts : goal.returns-in-End-clause-texts
returns-in-End-clause-texts c =
    let i = c.loop-message.invariant.answered in
    let at = c.loop-message.message-index in
    let ms = c.args.messages.now in
    let t = c.in_ok-take_message.ensures.text in
    let taken = rw c.in-End.is at t.2 in (
      i.0 ++ t.0 ∷ [],
      added c.loop-message.out.items c.take_message.new.out.items c.args.out.now.items i.0 t.0 i.1 t.1,
      begun_ends (plays c.args.self.now) (plays c.loop-message.self) (plays c.take_message.new.self) i.0 (map body_of (drop at ms)) (map body_of ms) i.2 c.in-End.end t.0 (body_of c.message-item.result)
          (map body_of (drop (at + 1) ms)) c.args.fault (next_left body_of ms at c.message-item.result c.loop-message-test.true c.message-item.is) taken,
    )

pub returns-in-End-clause-board : goal.returns-in-End-clause-board
returns-in-End-clause-board c =
    let at = c.loop-message.message-index in
    let ms = c.args.messages.now in
    joining_ends (makes c.args.self.now) (makes c.loop-message.self) (makes c.take_message.new.self) c.take_message.new.self.board (map body_of (drop at ms)) (map body_of ms)
    c.loop-message.invariant.joined c.in-End.end (body_of c.message-item.result) (map body_of (drop (at + 1) ms)) c.args.fault (next_left body_of ms at c.message-item.result c.loop-message-test.true c.message-item.is)
    (rw c.in-End.is at c.in_ok-take_message.ensures.board)

pub loop-message-preserved : goal.loop-message-preserved
loop-message-preserved c =
    let i = c.loop-message.invariant.answered in
    let at = c.loop-message.message-index in
    let ms = c.args.messages.now in
    let t = c.in_ok-take_message.ensures.text in
    let left = next_left body_of ms at c.message-item.result c.loop-message-test.true c.message-item.is in
    record {
      answered = (
        i.0 ++ t.0 ∷ [],
        added c.loop-message.out.items c.take_message.new.out.items c.args.out.now.items i.0 t.0 i.1 t.1,
        begun_more (plays c.args.self.now) (plays c.loop-message.self) (plays c.take_message.new.self) i.0 (map body_of (drop at ms)) (map body_of ms) i.2 t.0 (body_of c.message-item.result)
            (map body_of (drop (at + 1) ms)) left (rw c.in-On.is at t.2),
      );
      joined = joining_more (makes c.args.self.now) (makes c.loop-message.self) (makes c.take_message.new.self) c.take_message.new.self.board (map body_of (drop at ms)) (map body_of ms) c.loop-message.invariant.joined
          (body_of c.message-item.result) (map body_of (drop (at + 1) ms)) left (rw c.in-On.is at c.in_ok-take_message.ensures.board);
      first = c.in_ok-take_message.ensures.first ∙ c.loop-message.invariant.first;
      current = rw c.in-On.is at c.in_ok-take_message.ensures.current;
    }

pub returns-in_ok-add_refusal-in-Some-clause-texts : goal.returns-in_ok-add_refusal-in-Some-clause-texts
returns-in_ok-add_refusal-in-Some-clause-texts c =
    let i = c.loop-message.invariant.answered in
    let at = c.loop-message.message-index in
    let ms = c.args.messages.now in
    let ends = begun_fault (plays c.args.self.now) (plays c.loop-message.self) (plays c.loop-message.self) i.0 (map body_of (drop at ms)) (map body_of ms) i.2 c.in-Some.fault
    (refused_frame c.loop-message.self.how.form c.in-Some.fault) (none_left body_of ms at (omega (arith, c.loop-message-test.false))) refl in (
      i.0 ++ refused_frame c.loop-message.self.how.form c.in-Some.fault ∷ [],
      added c.loop-message.out.items c.add_refusal.new.out.items c.args.out.now.items i.0 (refused_frame c.loop-message.self.how.form c.in-Some.fault) i.1 c.in_ok-add_refusal-in-Some.ensures,
      rw c.in-Some.is ends,
    )

pub returns-in_ok-add_refusal-in-Some-clause-board : goal.returns-in_ok-add_refusal-in-Some-clause-board
returns-in_ok-add_refusal-in-Some-clause-board c =
    let at = c.loop-message.message-index in
    let ms = c.args.messages.now in
    joining_fault (makes c.args.self.now) (makes c.loop-message.self) c.loop-message.self.board (map body_of (drop at ms)) (map body_of ms) c.loop-message.invariant.joined
    (none_left body_of ms at (omega (arith, c.loop-message-test.false))) c.args.fault refl

pub returns-in-None-clause-texts : goal.returns-in-None-clause-texts
returns-in-None-clause-texts c =
    let i = c.loop-message.invariant.answered in
    let at = c.loop-message.message-index in
    let ms = c.args.messages.now in (
      i.0,
      i.1,
      rw c.in-None.is (begun_all (plays c.args.self.now) (plays c.loop-message.self) (plays c.loop-message.self) i.0 (map body_of (drop at ms)) (map body_of ms) i.2
          (none_left body_of ms at (omega (arith, c.loop-message-test.false)))),
    )

pub returns-in-None-clause-board : goal.returns-in-None-clause-board
returns-in-None-clause-board c =
    let at = c.loop-message.message-index in
    let ms = c.args.messages.now in
    rw c.in-None.is (joining_all (makes c.args.self.now) (makes c.loop-message.self) c.loop-message.self.board (map body_of (drop at ms)) (map body_of ms) c.loop-message.invariant.joined
    (none_left body_of ms at (omega (arith, c.loop-message-test.false))))
