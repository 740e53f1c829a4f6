use Rattle.std.proofs.Common.{◌≡◌, ◌≤◌, length, vec_len, vec_capacity}
use Rattle.squall_join.proofs.Remains.{IsBelow}
use Rattle.squall_join.proofs.Drafting.{IsSoFar}
use Rattle.squall_join.proofs.draft.draft_parts.Given as goal

abbrev pub invariant-loop-entry : goal.invariant-loop-entry
invariant-loop-entry g l = record {
  below : IsBelow g.K.Ord.cmp l.others l.entries.items l.entry-index l.at;
  so_far : IsSoFar g.met.K.Ord.total g.met.K.MapKey.exact g.V.Join.bottom g.V.Join.join g.V.Join.before g.V.Join.after g.V.Join.is_draft l.fn.entries.items l.others l.entries.items l.parts.items l.entry-index;
  len : vec_len l.parts ≡ l.entry-index;
  room : length l.others ≤ vec_capacity l.parts;
}
