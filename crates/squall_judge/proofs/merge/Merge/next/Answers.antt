use Rattle.std.proofs.Common.{◌≡◌, ◌<◌, ◌≤◌, ℕ, length, get_or, refl, subst, arith}
use Rattle.std.proofs.lemmas.Option.{slice_get_read, slice_get-get_or}
use Rattle.squall_world.specs.Views.{view}
use Rattle.squall_judge.specs.Entries.{line_of}
use Rattle.squall_judge.specs.Turns.{IsTurn}
use Rattle.squall_judge.specs.Merges.{IsNextEntry}
use Rattle.squall_judge.proofs.Nodes.{read_at}
use Rattle.squall_judge.proofs.Merges.{blocked_one}
use Rattle.squall_judge.proofs.merge.Merge.next.Goals as goal

within : (n m at : ℕ) → n ≡ m → at < m → at < n
within n m at same low = omega (arith, same, low)

below : (n k m : ℕ) → n < k → k ≤ m → n < m
below n k m less most = omega (arith, less, most)

pub returns-in-Taken : goal.returns-in-Taken
returns-in-Taken c =
    let came = subst (λ t. IsTurn (view c.args.self.now.stage.world) c.index-logs-at.result.node (line_of c.index.result.now) t (view c.turn.new.self.world) c.turn.new.self.chunks) c.in-Taken.is c.in_ok-turn.ensures in
    let next : IsNextEntry c.args.logs.now c.args.limits.now c.args.self.now.taken.items c.args.at c.index-logs-at.result c.index.result.now = record {
      count = c.index-count.result.now;
      limit = get_or c.args.limits.now c.args.at 0;
      log_at = slice_get_read c.args.logs.now (length c.args.logs.now) c.args.at c.index-logs-at.result refl c.requires.place c.index-logs-at.is;
      count_at = read_at c.args.self.now.taken.items c.args.at c.index-count.result.now (within (length c.args.self.now.taken.items) (length c.args.logs.now) c.args.at c.requires.ready.each c.requires.place) c.index-count.ensures;
      limit_at = slice_get-get_or c.args.limits.now c.args.at 0 (within (length c.args.limits.now) (length c.args.logs.now) c.args.at c.requires.limits.each c.requires.place);
      below = c.if-count-limits.false;
      entry_at = read_at c.index-logs-at.result.entries.items c.index-count.result.now c.index.result.now
          (below c.index-count.result.now (get_or c.args.limits.now c.args.at 0) (length c.index-logs-at.result.entries.items) c.if-count-limits.false
          (c.requires.limits.within c.args.at (get_or c.args.limits.now c.args.at 0) c.index-logs-at.result (slice_get_read c.args.logs.now (length c.args.logs.now) c.args.at c.index-logs-at.result refl c.requires.place c.index-logs-at.is)
          (slice_get-get_or c.args.limits.now c.args.at 0 (within (length c.args.limits.now) (length c.args.logs.now) c.args.at c.requires.limits.each c.requires.place))))
          c.index.ensures;
    } in
    record { log = c.index-logs-at.result; entry = c.index.result.now; next = next; comes = came.0; chunks = came.1; put = refl }

pub returns-in-Waits : goal.returns-in-Waits
returns-in-Waits c =
    let waits = subst (λ t. IsTurn (view c.args.self.now.stage.world) c.index-logs-at.result.node (line_of c.index.result.now) t (view c.turn.new.self.world) c.turn.new.self.chunks) c.in-Waits.is c.in_ok-turn.ensures in
    let next : IsNextEntry c.args.logs.now c.args.limits.now c.args.self.now.taken.items c.args.at c.index-logs-at.result c.index.result.now = record {
      count = c.index-count.result.now;
      limit = get_or c.args.limits.now c.args.at 0;
      log_at = slice_get_read c.args.logs.now (length c.args.logs.now) c.args.at c.index-logs-at.result refl c.requires.place c.index-logs-at.is;
      count_at = read_at c.args.self.now.taken.items c.args.at c.index-count.result.now (within (length c.args.self.now.taken.items) (length c.args.logs.now) c.args.at c.requires.ready.each c.requires.place) c.index-count.ensures;
      limit_at = slice_get-get_or c.args.limits.now c.args.at 0 (within (length c.args.limits.now) (length c.args.logs.now) c.args.at c.requires.limits.each c.requires.place);
      below = c.if-count-limits.false;
      entry_at = read_at c.index-logs-at.result.entries.items c.index-count.result.now c.index.result.now
          (below c.index-count.result.now (get_or c.args.limits.now c.args.at 0) (length c.index-logs-at.result.entries.items) c.if-count-limits.false
          (c.requires.limits.within c.args.at (get_or c.args.limits.now c.args.at 0) c.index-logs-at.result (slice_get_read c.args.logs.now (length c.args.logs.now) c.args.at c.index-logs-at.result refl c.requires.place c.index-logs-at.is)
          (slice_get-get_or c.args.limits.now c.args.at 0 (within (length c.args.limits.now) (length c.args.logs.now) c.args.at c.requires.limits.each c.requires.place))))
          c.index.ensures;
    } in (
      record { world = waits.0; chunks = waits.2; taken = refl },
      blocked_one c.args.logs.now c.args.limits.now c.args.self.now.taken.items (view c.args.self.now.stage.world) c.args.at c.index-logs-at.result c.index.result.now next waits.1,
    )

pub returns-in-Never : goal.returns-in-Never
returns-in-Never c =
    let other = subst (λ t. IsTurn (view c.args.self.now.stage.world) c.index-logs-at.result.node (line_of c.index.result.now) t (view c.turn.new.self.world) c.turn.new.self.chunks) c.in-Never.is c.in_ok-turn.ensures in
    let next : IsNextEntry c.args.logs.now c.args.limits.now c.args.self.now.taken.items c.args.at c.index-logs-at.result c.index.result.now = record {
      count = c.index-count.result.now;
      limit = get_or c.args.limits.now c.args.at 0;
      log_at = slice_get_read c.args.logs.now (length c.args.logs.now) c.args.at c.index-logs-at.result refl c.requires.place c.index-logs-at.is;
      count_at = read_at c.args.self.now.taken.items c.args.at c.index-count.result.now (within (length c.args.self.now.taken.items) (length c.args.logs.now) c.args.at c.requires.ready.each c.requires.place) c.index-count.ensures;
      limit_at = slice_get-get_or c.args.limits.now c.args.at 0 (within (length c.args.limits.now) (length c.args.logs.now) c.args.at c.requires.limits.each c.requires.place);
      below = c.if-count-limits.false;
      entry_at = read_at c.index-logs-at.result.entries.items c.index-count.result.now c.index.result.now
          (below c.index-count.result.now (get_or c.args.limits.now c.args.at 0) (length c.index-logs-at.result.entries.items) c.if-count-limits.false
          (c.requires.limits.within c.args.at (get_or c.args.limits.now c.args.at 0) c.index-logs-at.result (slice_get_read c.args.logs.now (length c.args.logs.now) c.args.at c.index-logs-at.result refl c.requires.place c.index-logs-at.is)
          (slice_get-get_or c.args.limits.now c.args.at 0 (within (length c.args.limits.now) (length c.args.logs.now) c.args.at c.requires.limits.each c.requires.place))))
          c.index.ensures;
    } in
    record { log = c.index-logs-at.result; entry = c.index.result.now; next = next; other = other; taken = refl }
