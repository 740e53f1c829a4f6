use Rattle.std.proofs.Common.{◌≡◌, subst, sym, ap, ◌∙◌, rules}
use Rattle.squall_board.specs.Listed.{issues_of}
use Rattle.squall_board.specs.ListedLaws.{issues_listed}
use Rattle.squall_board.specs.Takes.{TakesBoard}
use Rattle.squall_part.specs.Parts.{PartValue, IsPart, IsLog, log_of, given_in, loaded_in, closed_in}
use Rattle.std.specs.List.{AllByRecursion}
use Rattle.squall_part.specs.Fresh.{fresh_logs, put_logs}
use Rattle.squall_part.proofs.Absorbed.{given_still, loaded_still, closed_still, absorbed_part}
use Rattle.squall_part.proofs.part.Part.absorb.Goals as goal

pub invariant_of-self-2 : goal.invariant_of-self-2
invariant_of-self-2 c =
    let fresh : c.in_ok-fresh.fresh.items ≡ fresh_logs c.self.inside.first c.self.inside.board (issues_of c.args.delta.now) = search rules in
    let items : c.put_all_ready.new.logs.items ≡ put_logs c.in_ok-fresh.fresh.items c.self.inside.logs.items = search rules in
    let logs = items ∙ ap (λ ls. put_logs ls c.self.inside.logs.items) fresh in
    let each = subst (AllByRecursion IsLog) fresh c.in_ok-fresh.ensures.logs in
    let listed = issues_listed c.args.delta.now c.known-2.ensures.board in
    subst (λ ls. IsPart (record { id = c.self.inside.id; first = c.self.inside.first; board = c.merge.new.self; held = c.self.inside.held; logs = ls })) (sym logs)
    (absorbed_part _ c.args.delta.now c.merge.new.self c.self.invariant c.in_ok-merge.ensures.takes.tells listed c.known-3.ensures.board each)

pub returns-clause-given : goal.returns-clause-given
returns-clause-given c = λ n.
    let fresh : c.in_ok-fresh.fresh.items ≡ fresh_logs c.args.self.now.first c.args.self.now.board (issues_of c.args.delta.now) = search rules in
    let items : c.put_all_ready.new.logs.items ≡ put_logs c.in_ok-fresh.fresh.items c.args.self.now.logs = search rules in
    let rise = (issues_listed c.args.delta.now c.known-2.ensures.board).rise in
    ap (λ ls. given_in (log_of ls n)) items ∙ given_still c.args.self.now (issues_of c.args.delta.now) c.in_ok-fresh.fresh.items n c.known.ensures rise fresh

pub returns-clause-loaded : goal.returns-clause-loaded
returns-clause-loaded c = λ n.
    let fresh : c.in_ok-fresh.fresh.items ≡ fresh_logs c.args.self.now.first c.args.self.now.board (issues_of c.args.delta.now) = search rules in
    let items : c.put_all_ready.new.logs.items ≡ put_logs c.in_ok-fresh.fresh.items c.args.self.now.logs = search rules in
    let rise = (issues_listed c.args.delta.now c.known-2.ensures.board).rise in
    ap (λ ls. loaded_in (log_of ls n)) items ∙ loaded_still c.args.self.now (issues_of c.args.delta.now) c.in_ok-fresh.fresh.items n c.known.ensures rise fresh

pub returns-clause-closed : goal.returns-clause-closed
returns-clause-closed c = λ n.
    let fresh : c.in_ok-fresh.fresh.items ≡ fresh_logs c.args.self.now.first c.args.self.now.board (issues_of c.args.delta.now) = search rules in
    let items : c.put_all_ready.new.logs.items ≡ put_logs c.in_ok-fresh.fresh.items c.args.self.now.logs = search rules in
    let rise = (issues_listed c.args.delta.now c.known-2.ensures.board).rise in
    ap (λ ls. closed_in (log_of ls n)) items ∙ closed_still c.args.self.now (issues_of c.args.delta.now) c.in_ok-fresh.fresh.items n c.known.ensures rise fresh

pub returns-clause-takes : goal.returns-clause-takes
returns-clause-takes c = subst (λ (p : PartValue). TakesBoard p.board c.args.delta.now c.merge.new.self) c.self.view_is c.in_ok-merge.ensures.takes
