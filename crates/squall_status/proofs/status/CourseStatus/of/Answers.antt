use Rattle.std.proofs.Common.{◌≡◌, ℕ, ◌≤◌, Bool, subst, sym, ap, ◌∙◌, arith}
use Rattle.std.specs.Prelude.{nat_lt}
use Rattle.std.specs.List.{sum_by}
use Rattle.squall_key.specs.Keys.{top}
use Rattle.squall_report.specs.Facts.{OpenedSub}
use Rattle.squall_board.specs.Boards.{says}
use Rattle.squall_status.specs.Summary.{move_keys, move_loaded, IsLastBelow}
use Rattle.squall_status.proofs.Moved.{keys_sum, keys_few, loaded_sum, loaded_few, open_is_last}
use Rattle.squall_status.proofs.status.CourseStatus.of.Goals as goal

pub sum_keys-keys-requires : goal.sum_keys-keys-requires
sum_keys-keys-requires c = subst (λ ss. sum_by move_keys ss ≤ top) (sym c.deref.ensures.value) (keys_few c.args.course.now (says c.args.board.now) c.in_ok-moves.moves.items c.subplans.ensures.plans c.in_ok-moves.ensures)

pub sum_loaded-loaded-requires : goal.sum_loaded-loaded-requires
sum_loaded-loaded-requires c =
    let ss = c.in_ok-moves.moves.items in
    let keys = keys_few c.args.course.now (says c.args.board.now) ss c.subplans.ensures.plans c.in_ok-moves.ensures in
    let loaded = loaded_few c.args.course.now (says c.args.board.now) ss c.subplans.ensures.plans c.in_ok-moves.ensures in
    subst (λ ss. sum_by move_loaded ss ≤ top) (sym c.deref-2.ensures.value) (omega (arith, keys, loaded))

pub invariant_of-result : goal.invariant_of-result
invariant_of-result c =
    let ss = c.in_ok-moves.moves.items in
    let few = keys_few c.args.course.now (says c.args.board.now) ss c.subplans.ensures.plans c.in_ok-moves.ensures in
    let fewer = loaded_few c.args.course.now (says c.args.board.now) ss c.subplans.ensures.plans c.in_ok-moves.ensures in
    let keys = c.sum_keys-keys.ensures ∙ ap (sum_by move_keys) c.deref.ensures.value in
    let loaded = c.sum_loaded-loaded.ensures ∙ ap (sum_by move_loaded) c.deref-2.ensures.value in
    (omega (arith, fewer, keys, loaded), omega (arith, few, keys))

pub returns : goal.returns
returns c =
    let ss = c.in_ok-moves.moves.items in
    let b = c.args.board.now in
    let plans = c.subplans.ensures.plans in
    let told : (n : ℕ) → says b (OpenedSub c.args.course.now.number n) ≡ nat_lt n c.opened.result = λ n. ap (λ m. says b (OpenedSub m n)) (sym c.number-number.ensures.value) ∙ c.opened.ensures.facts n in
    let opened : ℕ → Bool = λ n. says b (OpenedSub c.args.course.now.number n) in
    let last = open_is_last c.opened.result c.subplans.result opened told in
    record {
      number = c.number-number.ensures.value;
      statuses = c.in_ok-moves.ensures;
      subplans = c.in_ok-subplans.ensures;
      open_sub = subst (λ n. IsLastBelow n opened c.open_of-open_sub.result) c.subplans.ensures.value (subst (IsLastBelow c.subplans.result opened) (sym c.open_of-open_sub.ensures) last);
      keys = c.sum_keys-keys.ensures ∙ ap (sum_by move_keys) c.deref.ensures.value ∙ keys_sum c.args.course.now (says b) ss plans c.in_ok-moves.ensures;
      loaded = c.sum_loaded-loaded.ensures ∙ ap (sum_by move_loaded) c.deref-2.ensures.value ∙ loaded_sum c.args.course.now (says b) ss plans c.in_ok-moves.ensures;
    }
