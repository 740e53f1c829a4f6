use Rattle.std.proofs.Common.{sym, subst, vec_len, vec_capacity}
use Rattle.squall_join.specs.Entries.{IsMap}
use Rattle.squall_join.specs.MapLaws.{merged_is}
use Rattle.squall_join.specs.Drafts.{HasParts}
use Rattle.squall_join.proofs.map.JoinMapJoin.draft_join.Goals as goal

pub returns-then-not-adds_few-clause-draft : goal.returns-then-not-adds_few-clause-draft
returns-then-not-adds_few-clause-draft g c = (
  subst (λ v. IsMap g.K.Ord.cmp g.V.Join.is_value g.V.Join.bottom v.items) (sym c.replace-before.ensures.value) c.self.invariant,
  rw (c.in_ok-after.ensures, c.deref-then-not-adds_few.ensures.value, c.deref-then-not-adds_few-2.ensures.value) (merged_is g.met.K.Ord.total g.met.K.MapKey.exact g.met.V.Join.laws _ _ c.self.invariant c.other.invariant),
)

pub returns-clause-draft : goal.returns-clause-draft
returns-clause-draft g c =
    let is_map = IsMap g.K.Ord.cmp g.V.Join.is_value g.V.Join.bottom in
    subst (λ v. HasParts g.K.Ord.cmp g.V.Join.before g.V.Join.after g.V.Join.is_draft is_map v.items (vec_len v) (vec_capacity v) c.in_ok-parts.parts.items) (sym c.replace-entries.ensures.value) (record {
      drafted = c.in_ok-parts.ensures.drafted;
      room = c.in_ok-parts.ensures.room;
      undone_is = subst is_map (sym c.in_ok-parts.ensures.before) c.self.invariant;
      kept_is = subst is_map (sym c.in_ok-parts.ensures.after) (merged_is g.met.K.Ord.total g.met.K.MapKey.exact g.met.V.Join.laws _ _ c.self.invariant (subst is_map (sym c.deref-3.ensures.value) c.other.invariant));
    })
