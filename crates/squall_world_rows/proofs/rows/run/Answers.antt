use Rattle.std.proofs.Common.{set, subst}
use Rattle.squall_world_rows.proofs.Placed.{RanAt, ran_at}
use Rattle.squall_world_rows.proofs.rows.run.Goals as goal

pub returns-clause-reply : goal.returns-clause-reply
returns-clause-reply c =
    (subst (λ p. RanAt c.args.rows.now.items (set c.reach.new.rows.items c.get-part.result c.run.new.self) p c.args.key c.args.command.now c.run.result) c.get-part.ensures.value
    (ran_at c.args.rows.now.items c.reach.new.rows.items c.in_ok-reach.ensures.same c.get-part.result c.index_mut.result.now c.run.new.self c.in_ok-reach.ensures.reached c.index_mut.ensures.value c.args.key c.args.command.now c.run.result
    c.run.ensures.reply c.run.ensures.made c.run.ensures.err c.run.ensures.others)).reply

pub returns-clause-made : goal.returns-clause-made
returns-clause-made c =
    (subst (λ p. RanAt c.args.rows.now.items (set c.reach.new.rows.items c.get-part.result c.run.new.self) p c.args.key c.args.command.now c.run.result) c.get-part.ensures.value
    (ran_at c.args.rows.now.items c.reach.new.rows.items c.in_ok-reach.ensures.same c.get-part.result c.index_mut.result.now c.run.new.self c.in_ok-reach.ensures.reached c.index_mut.ensures.value c.args.key c.args.command.now c.run.result
    c.run.ensures.reply c.run.ensures.made c.run.ensures.err c.run.ensures.others)).made

pub returns-clause-err : goal.returns-clause-err
returns-clause-err c =
    (subst (λ p. RanAt c.args.rows.now.items (set c.reach.new.rows.items c.get-part.result c.run.new.self) p c.args.key c.args.command.now c.run.result) c.get-part.ensures.value
    (ran_at c.args.rows.now.items c.reach.new.rows.items c.in_ok-reach.ensures.same c.get-part.result c.index_mut.result.now c.run.new.self c.in_ok-reach.ensures.reached c.index_mut.ensures.value c.args.key c.args.command.now c.run.result
    c.run.ensures.reply c.run.ensures.made c.run.ensures.err c.run.ensures.others)).err

pub returns-clause-others : goal.returns-clause-others
returns-clause-others c =
    (subst (λ p. RanAt c.args.rows.now.items (set c.reach.new.rows.items c.get-part.result c.run.new.self) p c.args.key c.args.command.now c.run.result) c.get-part.ensures.value
    (ran_at c.args.rows.now.items c.reach.new.rows.items c.in_ok-reach.ensures.same c.get-part.result c.index_mut.result.now c.run.new.self c.in_ok-reach.ensures.reached c.index_mut.ensures.value c.args.key c.args.command.now c.run.result
    c.run.ensures.reply c.run.ensures.made c.run.ensures.err c.run.ensures.others)).others
