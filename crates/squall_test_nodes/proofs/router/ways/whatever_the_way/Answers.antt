use Rattle.std.specs.Prelude.{[], ◌∷◌, ◌++◌}
use Rattle.std.proofs.Common.{subst, sym}
use Rattle.squall_report.specs.Told.{SameTold, told_by}
use Rattle.squall_headline.specs.Ways.{Reports, ByTake, ByMerge}
use Rattle.squall_test_nodes.proofs.Swapped.{swapped}
use Rattle.squall_test_nodes.proofs.router.ways.whatever_the_way.Goals as goal

pub returns : goal.returns
returns c =
    let first = c.args.first.now in
    let second = c.args.second.now in
    let merged = c.in_ok-merged.ensures in
    let same = subst (λ (qs : Reports). SameTold (told_by (second ∷ (qs ++ []))) (told_by (first ∷ (second ∷ [])))) (sym merged.1) (swapped first second) in
    c.headline.ensures.boards (ByTake second ∷ (ByMerge merged.0 ∷ [])) (ByTake first ∷ (ByTake second ∷ [])) merged.2 c.in_ok-one.ensures same
