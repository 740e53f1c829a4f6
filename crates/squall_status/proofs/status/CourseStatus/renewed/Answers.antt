use Rattle.std.proofs.Common.{◌≡◌, ℕ, ◌≤◌, Bool, subst, sym, ap, ◌∙◌, arith}
use Rattle.std.specs.Prelude.{nat_lt}
use Rattle.std.specs.List.{sum_by}
use Rattle.squall_key.specs.Keys.{top}
use Rattle.squall_report.specs.Facts.{OpenedSub}
use Rattle.squall_board.specs.Boards.{says}
use Rattle.squall_status.specs.Summary.{StatusValue, move_loaded, IsLastBelow}
use Rattle.squall_status.proofs.Moved.{keys_sum, keys_few, loaded_sum, loaded_few, open_is_last}
use Rattle.squall_status.proofs.status.CourseStatus.renewed.Goals as goal

pub sum_loaded-loaded-requires : goal.sum_loaded-loaded-requires
sum_loaded-loaded-requires c =
    let ss = c.in_ok-moves.moves.items in
    let keys = keys_few c.args.course.now (says c.args.board.now) ss c.subplans.ensures.plans c.in_ok-moves.ensures in
    let loaded = loaded_few c.args.course.now (says c.args.board.now) ss c.subplans.ensures.plans c.in_ok-moves.ensures in
    subst (λ ss. sum_by move_loaded ss ≤ top) (sym c.deref-3.ensures.value) (omega (arith, keys, loaded))

pub invariant_of-result : goal.invariant_of-result
invariant_of-result c =
    let ss = c.in_ok-moves.moves.items in
    let fewer = loaded_few c.args.course.now (says c.args.board.now) ss c.subplans.ensures.plans c.in_ok-moves.ensures in
    let all = keys_sum c.args.course.now (says c.args.board.now) ss c.subplans.ensures.plans c.in_ok-moves.ensures in
    let keys = ap (λ (s : StatusValue). s.keys) c.self.view_is in
    let loaded = c.sum_loaded-loaded.ensures ∙ ap (sum_by move_loaded) c.deref-3.ensures.value in
    (omega (arith, fewer, all, keys, loaded, c.requires.before.status.keys), c.self.invariant.1)

pub returns : goal.returns
returns c =
    let ss = c.in_ok-moves.moves.items in
    let b = c.args.board.now in
    let plans = c.subplans.ensures.plans in
    let was = c.requires.before.status in
    let number : c.self.inside.number ≡ c.args.course.now.number = ap (λ (s : StatusValue). s.number) c.self.view_is ∙ was.number in
    let told : (n : ℕ) → says b (OpenedSub c.args.course.now.number n) ≡ nat_lt n c.opened.result = λ n. ap (λ m. says b (OpenedSub m n)) (sym number) ∙ c.opened.ensures.facts n in
    let opened : ℕ → Bool = λ n. says b (OpenedSub c.args.course.now.number n) in
    let last = open_is_last c.opened.result c.subplans.result opened told in
    record {
      number = number;
      statuses = c.in_ok-moves.ensures;
      subplans = c.in_ok-subplans.ensures;
      open_sub = subst (λ n. IsLastBelow n opened c.open_of-open_sub.result) c.subplans.ensures.value (subst (IsLastBelow c.subplans.result opened) (sym c.open_of-open_sub.ensures) last);
      keys = ap (λ (s : StatusValue). s.keys) c.self.view_is ∙ was.keys;
      loaded = c.sum_loaded-loaded.ensures ∙ ap (sum_by move_loaded) c.deref-3.ensures.value ∙ loaded_sum c.args.course.now (says b) ss plans c.in_ok-moves.ensures;
    }
