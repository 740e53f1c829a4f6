use Rattle.std.proofs.Common.{subst, sym, ap}
use Rattle.std.specs.Option.{option_copied}
use Rattle.squall_board.specs.MovesRoute.{cell_has_come}
use Rattle.squall_status.specs.Coming.{IsProgress}
use Rattle.squall_status.proofs.Progressed.{set_alone}
use Rattle.squall_status.proofs.moving.progress_in.Goals as goal

pub returns-else-get : goal.returns-else-get
returns-else-get c =
    subst (λ o. IsProgress c.args.span (cell_has_come o) c.of_set.result) (sym (ap option_copied c.in-Some.is))
    (set_alone c.args.span c.in-Some.cell.now c.of_set.result (sym c.if-get.ensures) c.of_set.ensures)
