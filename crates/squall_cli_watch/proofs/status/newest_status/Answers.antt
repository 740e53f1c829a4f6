use Rattle.std.specs.Prelude.{◌≡◌, IfOk, Option, None, Some, option_copied, unwrap_or}
use Rattle.std.proofs.Common.{Bor, ap, refl, subst, ◌∙◌}
use Rattle.squall_course.specs.Change.{Change}
use Rattle.squall_board.specs.Boards.{says}
use Rattle.squall_status.specs.Summary.{IsStatusOf}
use Rattle.squall_cli_watch.proofs.status.newest_status.Goals as goal

-- what stands behind the reference that is there, or behind the other one
behind : {T : Type 0} (o : Option (Bor T)) (other : Bor T) → (unwrap_or o other).now ≡ unwrap_or (option_copied o) other.now
behind None other = refl
behind (Some x) other = refl

pub returns : goal.returns
returns c =
    let first = c.args.first in
    let lent = ap (λ r. r.now) c.unwrap_or-course.ensures ∙ behind c.as_ref.result first ∙ ap (λ o. unwrap_or o first.now) c.as_ref.ensures.value in
    subst (λ (course : Change). IfOk c.of.result (λ status. IsStatusOf course (says c.args.board.now) status)) (lent ∙ c.in_ok-newest.ensures.course) c.of.ensures
