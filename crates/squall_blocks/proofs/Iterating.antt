-- Walks over blocks from a key on.
use Rattle.std.proofs.Common.{◌≡◌, ℕ, suc, ◌+◌, ◌-◌, ◌<◌, List, [], ◌++◌, length, get_or, take, drop, sym, ap, subst, ◌∙◌, arith}
use Rattle.std.specs.Prelude.{slice_index}
use Rattle.std.specs.List.{zip}
use Rattle.std.proofs.lemmas.List.{get_or_read, take_rest}
use Rattle.squall_key.specs.Search.{IsSought}
use Rattle.squall_blocks.specs.Entries.{RiseFrom, beyond}
use Rattle.squall_blocks.specs.Blocks.{flat, lasts_of, AreFull}
use Rattle.squall_blocks.proofs.Zips.{zip-drop}
use Rattle.squall_blocks.proofs.Blocked.{beyond_blocks}
use Rattle.squall_blocks.proofs.Replacing.{full-drop}

pub full_rest : {V : Type 0} (bs cs : List (List (ℕ × V))) (n : ℕ) → AreFull bs → cs ≡ bs → AreFull (take (length cs - n) (drop n cs))
full_rest bs cs n f e = subst AreFull (sym (take_rest cs n ∙ ap (drop n) e)) (full-drop n bs f)

pub walk_is : {V : Type 0} (bs cs : List (List (ℕ × V))) (ks : List ℕ) (vs : List V) (x : List (ℕ × V)) (k i p : ℕ) → AreFull bs → RiseFrom 0 (flat bs) → IsSought (slice_index (lasts_of bs)) (length (lasts_of bs)) k i 0 → i < length bs → x ≡ get_or bs i x
    → beyond k x ≡ drop p x → zip ks vs ≡ x → cs ≡ bs → zip (take (length ks - p) (drop p ks)) (take (length vs - p) (drop p vs)) ++ flat (take (length cs - (i + 1)) (drop (i + 1) cs)) ≡ beyond k (flat bs)
walk_is bs cs ks vs x k i p f r m lt is far z e =
    let next : i + 1 ≡ suc i = omega arith in
    let here : zip (take (length ks - p) (drop p ks)) (take (length vs - p) (drop p vs)) ≡ beyond k (get_or bs i []) =
    (λ j. zip (take_rest ks p j) (take_rest vs p j)) ∙ zip-drop p ks vs ∙ ap (drop p) z ∙ sym far ∙ ap (beyond k) (get_or_read bs i x lt is []) in
    let rest : flat (take (length cs - (i + 1)) (drop (i + 1) cs)) ≡ flat (drop (suc i) bs) = ap flat (take_rest cs (i + 1) ∙ (λ j. drop (next j) (e j))) in
    (λ j. here j ++ rest j) ∙ sym (beyond_blocks 0 k bs i f r m)
