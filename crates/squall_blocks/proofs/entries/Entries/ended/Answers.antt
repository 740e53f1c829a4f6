use Rattle.std.proofs.Common.{ℕ, sym, subst, length, List, arith}
use Rattle.std.specs.Prelude.{slice_index}
use Rattle.squall_key.specs.Search.{Rises, IsSought}
use Rattle.squall_blocks.proofs.Zips.{ends_of-lists}
use Rattle.squall_blocks.specs.EntriesLaws.{ends_rise, sought_beyond, sought_up_to}
use Rattle.squall_blocks.proofs.entries.Entries.ended.Goals as goal

pub ended-requires : goal.ended-requires
ended-requires g c =
    subst (λ (l : List ℕ). Rises (slice_index l) (length l)) (ends_of-lists _ _ _ c.lists.ensures.ends c.lists.ensures.values c.lists.ensures.both) (ends_rise 0 c.args.self.now c.requires)

pub returns : goal.returns
returns g c =
    let m = subst (λ (l : List ℕ). IsSought (slice_index l) (length l) c.args.key c.ended.result 0) (sym (ends_of-lists _ _ _ c.lists.ensures.ends c.lists.ensures.values c.lists.ensures.both)) c.ended.ensures in
    record {
      within = omega (arith, c.ended.ensures.within, c.lists.ensures.ends);
      up_to = sought_up_to c.args.self.now c.args.key c.ended.result m;
      beyond = sought_beyond c.args.self.now c.args.key c.ended.result m;
    }
