-- An edit in one block, and what undoes it.
use Rattle.std.proofs.Common.{◌≡◌, ℕ, ◌+◌, ◌-◌, ◌<◌, ◌≤◌, List, [], ◌∷◌, ◌++◌, length, get_or, take, drop, set, sym, ap, ◌∙◌, arith, take-append-drop}
use Rattle.std.specs.List.{splice}
use Rattle.std.proofs.lemmas.List.{get_or-set_same, drop_more, take-set-le, drop-set-lt, length-set}
use Rattle.squall_blocks.specs.Blocks.{put}
use Rattle.squall_blocks.specs.declared.steps.Step.TheVariants.{Entries}
use Rattle.squall_blocks.specs.Drafts.{Undoes}
use Rattle.squall_blocks.proofs.Undoing.{spliced_as, spliced_back, length_spliced, length_part}

-- an item that comes back to its place
set_back : {X : Type 0} (xs : List X) (m : ℕ) (x z : X) → m < length xs → x ≡ get_or xs m x → splice (set xs m z) m (m + 1) (x ∷ []) ≡ xs
set_back xs m x z lt is =
    spliced_as xs (set xs m z) (x ∷ []) m (m + 1) (take-set-le m xs m z (omega arith)) (drop-set-lt (m + 1) xs m z (omega arith))
    ∙ ap (λ l. take m xs ++ l) (ap (λ y. y ∷ drop (m + 1) xs) is ∙ sym (drop_more xs m x lt))
    ∙ take-append-drop m xs

-- what goes is no more than what comes in, so that it needs no room when it comes back
pub edited_back : {V : Type 0} (ls : List ℕ) (bs : List (List (ℕ × V))) (x y gone fresh : List (ℕ × V)) (l last m o p stop : ℕ) → m < length ls → m < length bs → x ≡ get_or bs m x → o ≤ p → p ≤ length x → p - o ≤ length fresh → stop ≡ o + length fresh
    → y ≡ splice x o p fresh → gone ≡ take (p - o) (drop o x) → last ≡ get_or ls m last → Undoes (Entries (record { at = m; first = o; end = stop; last = last; gone = gone })) ls (set ls m l) bs (set bs m y)
edited_back {V} ls bs x y gone fresh l last m o p stop ltl ltb is order within few s made cut was =
    let now : get_or (set bs m y) m [] ≡ y = get_or-set_same bs m y [] ltb in
    let back : splice y o stop gone ≡ x = ap (λ t. splice t o stop gone) made ∙ spliced_back x fresh gone o p stop order within s cut in
    let long = length_spliced x fresh o p order within in
    let count = ap length made in
    let same = ap length now in
    let few_gone = ap length cut in
    let part = length_part x o p order within in
    record {
      within = record {
        lasts = omega (arith, ltl, length-set ls m l);
        blocks = omega (arith, ltb, length-set bs m y);
        order = omega (arith, s);
        entries = omega (arith, s, same, count, long, within, order);
        fewer = omega (arith, s, few, few_gone, part);
      };
      lasts = set_back ls m last l ltl was;
      blocks = ap (λ t. put (set bs m y) m (splice t o stop gone)) now ∙ ap (put (set bs m y) m) back ∙ set_back bs m x y ltb is;
    }
