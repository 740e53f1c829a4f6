use Rattle.std.proofs.Common.{◌≡◌, ◌≤◌, ◌+◌, vec_len, vec_capacity}
use Rattle.squall_join.specs.Drafts.{fresh_count, IsDrafted, kept}
use Rattle.squall_join.proofs.draft.keep_parts.Given as goal

abbrev pub invariant-loop-last : goal.invariant-loop-last
invariant-loop-last g l = record {
  drafted : IsDrafted g.K.Ord.cmp g.V.Join.before g.V.Join.after g.V.Join.is_draft l.entries.items l.left.items;
  room : vec_len l.entries + fresh_count l.left.items ≤ vec_capacity l.entries;
  so_far : kept g.K.Ord.cmp g.V.Join.before g.V.Join.after l.entries.items l.left.items ≡ kept g.K.Ord.cmp g.V.Join.before g.V.Join.after l.fn.entries.items l.fn.parts.items;
}

abbrev pub decreases-loop-last : goal.decreases-loop-last
decreases-loop-last g l = vec_len l.left
