-- An edit that is prepared: its block is out of its place.
use Rattle.std.proofs.Common.{◌≡◌, ℕ, ◌+◌, ◌-◌, ◌<◌, ◌≤◌, List, [], ◌∷◌, ◌++◌, length, get_or, take, drop, set, refl, sym, ap, subst, ◌∙◌, arith, append-nil, take-append-drop}
use Rattle.std.specs.List.{splice}
use Rattle.std.proofs.lemmas.List.{get_or_read, drop_more, take-set-le, drop-set-lt, length-set}
use Rattle.squall_blocks.specs.Entries.{RiseFrom, last_from, replaced}
use Rattle.squall_blocks.specs.Blocks.{most, flat, put, AreBlocks, IsEdit, IsPrepared}
use Rattle.squall_blocks.proofs.Undoing.{spliced_as}
use Rattle.squall_blocks.proofs.Replacing.{count_of, one_is, edit_made, edit_blocks, length-splice}

-- what lies in the place meanwhile is lost
pub put_over : {V : Type 0} (bs cs : List (List (ℕ × V))) (m : ℕ) (b z : List (ℕ × V)) → cs ≡ set bs m z → put cs m b ≡ put bs m b
put_over bs cs m b z e = ap (λ l. put l m b) e ∙ spliced_as bs (set bs m z) (b ∷ []) m (m + 1) (take-set-le m bs m z (omega arith)) (drop-set-lt (m + 1) bs m z (omega arith))

-- a block in its own place
pub put_back : {V : Type 0} (bs : List (List (ℕ × V))) (m : ℕ) (b : List (ℕ × V)) → m < length bs → b ≡ get_or bs m b → put bs m b ≡ bs
put_back bs m b lt is =
    ap (λ l. take m bs ++ l) (ap (λ x. x ∷ drop (m + 1) bs) is ∙ sym (drop_more bs m b lt)) ∙ take-append-drop m bs

pub put_is : {V : Type 0} (bs cs : List (List (ℕ × V))) (m : ℕ) (b : List (ℕ × V)) → m < length bs → cs ≡ set bs m b → cs ≡ put bs m b
put_is bs cs m b lt e = one_is bs cs m (m + 1) b lt refl e

-- a block that is taken out and comes back
pub back_again : {V : Type 0} (bs cs ds : List (List (ℕ × V))) (m : ℕ) (x b z : List (ℕ × V)) → m < length bs → x ≡ get_or bs m x → b ≡ x → cs ≡ set bs m z → ds ≡ set cs m b → ds ≡ bs
back_again bs cs ds m x b z lt is e out back =
    let within : m < length cs = omega (arith, lt, ap length out, length-set bs m z) in
    put_is cs ds m b within back ∙ put_over bs cs m b z out ∙ ap (put bs m) e ∙ put_back bs m x lt is

-- two reads of one place
pub read_same : {V : Type 0} (bs : List (List (ℕ × V))) (m : ℕ) (x y : List (ℕ × V)) → x ≡ get_or bs m x → y ≡ get_or bs m y → m < length bs → x ≡ y
read_same bs m x y xs ys lt = get_or_read bs m x lt xs [] ∙ sym (get_or_read bs m y lt ys [])

-- an edit that stays in a block, once this is taken out
pub record PreparedBy {V : Type 0} (ls : List ℕ) (bs cs : List (List (ℕ × V))) (b c fresh : List (ℕ × V)) (from to m : ℕ) : Type 0 where
  pub prepared : IsPrepared ls cs m b c
  pub same : flat (put cs m b) ≡ flat bs
  pub made : flat (put cs m c) ≡ replaced from to fresh (flat bs)

pub prepared_by : {V : Type 0} (ls : List ℕ) (bs cs : List (List (ℕ × V))) (x b z fresh : List (ℕ × V)) (from to m e o p len more : ℕ) → IsEdit ls bs from to m e o p → m ≡ e → x ≡ get_or bs m x → b ≡ x → cs ≡ set bs m z → o ≤ p → len ≡ length x → more ≡ length fresh
    → 0 < len - (p - o) + more → len - (p - o) + more ≤ most → RiseFrom 0 (replaced from to fresh (flat bs)) → PreparedBy ls bs cs b (splice b o p fresh) fresh from to m × (p ≤ length b)
prepared_by {V} ls bs cs x b z fresh from to m e o p len more h one xs bx out order lx lf some few r =
    let c : List (ℕ × V) = splice b o p fresh in
    let n = count_of ls bs h.blocks in
    let lt : m < length bs = omega (arith, n, h.first.within) in
    let back : put cs m b ≡ bs = put_over bs cs m b z out ∙ ap (put bs m) bx ∙ put_back bs m x lt xs in
    let over : put cs m c ≡ put bs m c = put_over bs cs m c z out in
    let head : b ≡ get_or bs m [] = bx ∙ get_or_read bs m x lt xs [] in
    let tail : b ≡ get_or bs e [] = head ∙ ap (λ i. get_or bs i []) one in
    let whole : flat (c ∷ []) ≡ take o (get_or bs m []) ++ (fresh ++ drop p (get_or bs e [])) = append-nil c ∙ (λ j. take o (head j) ++ (fresh ++ drop p (tail j))) in
    let fits : p ≤ length b = (let l = ap length tail in omega (arith, l, h.from_place)) in
    let lb = ap length bx in
    let long = length-splice b fresh o p order fits in
    let count : length c ≡ len - (p - o) + more = long ∙ (λ j. (lb ∙ sym lx) j - (p - o) + sym lf j) in
    let is_some : 0 < length c = omega (arith, count, some) in
    let is_few : length c ≤ most = omega (arith, count, few) in
    let next : m + 1 ≡ e + 1 = omega (arith, one) in (
      record {
        prepared = record {
          before = subst (AreBlocks ls) (sym back) h.blocks;
          after = subst (AreBlocks (splice ls m (m + 1) (last_from 0 c ∷ []))) (sym over)
              (edit_blocks ls (last_from 0 c ∷ []) (splice ls m (m + 1) (last_from 0 c ∷ [])) bs (c ∷ []) (put bs m c) fresh from to m e (m + 1) o p h refl (is_some, is_few, tt) whole next refl refl r);
          within = omega (arith, lt, ap length out, length-set bs m z);
          some = is_some;
        };
        same = ap flat back;
        made = ap flat over ∙ edit_made ls bs (c ∷ []) (put bs m c) fresh from to m e (m + 1) o p h whole next refl;
      },
      fits,
    )

-- a put block is one of as many
lasts_less : {V : Type 0} (bs : List (List (ℕ × V))) (m : ℕ) (b : List (ℕ × V)) → m < length bs → length (put bs m b) ≡ length bs
lasts_less bs m b lt = (let l = length-splice bs (b ∷ []) m (m + 1) (omega arith) (omega (arith, lt)) in omega (arith, l, lt))

pub lasts_within : {V : Type 0} (ls : List ℕ) (bs : List (List (ℕ × V))) (b : List (ℕ × V)) (m : ℕ) → AreBlocks ls (put bs m b) → m < length bs → m < length ls
lasts_within ls bs b m k lt = (let n = count_of ls (put bs m b) k in let l = lasts_less bs m b lt in omega (arith, n, l, lt))

-- the edit is made
pub made_blocks : {V : Type 0} (ls ms : List ℕ) (bs cs : List (List (ℕ × V))) (b c x : List (ℕ × V)) (m l : ℕ) → IsPrepared ls bs m b c → x ≡ c → l ≡ last_from 0 x → ms ≡ set ls m l → cs ≡ set bs m x → AreBlocks ms cs
made_blocks {V} ls ms bs cs b c x m l k xc last keys items =
    let ends : ms ≡ splice ls m (m + 1) (last_from 0 c ∷ []) = one_is ls ms m (m + 1) l (lasts_within ls bs b m k.before k.within) refl keys ∙ ap (λ n. splice ls m (m + 1) (n ∷ [])) (last ∙ ap (last_from 0) xc) in
    let blocks : cs ≡ put bs m c = put_is bs cs m x k.within items ∙ ap (put bs m) xc in
    subst (λ t. AreBlocks t cs) (sym ends) (subst (AreBlocks (splice ls m (m + 1) (last_from 0 c ∷ []))) (sym blocks) k.after)
