use Rattle.std.proofs.Common.{◌≡◌, ◌≤◌, subst, sym, rules}
use Rattle.squall_key.specs.Keys.{part_limit}
use Rattle.squall_board.specs.Boards.{opened_count}
use Rattle.squall_part.proofs.Opened.{opened_few}
use Rattle.squall_part.proofs.part.Part.opened.Goals as goal

pub returns-clause-limit : goal.returns-clause-limit
returns-clause-limit c =
    let e : c.opened.result ≡ opened_count c.self.inside.board c.args.number = search rules in
    subst (λ n. n ≤ part_limit) (sym e) (opened_few c.self.inside.board c.args.number c.self.invariant.board)
