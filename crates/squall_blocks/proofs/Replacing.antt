-- Entries put in the place of others, block by block.
use Rattle.std.proofs.Common.{◌≡◌, ℕ, zero, suc, ◌+◌, ◌-◌, ◌<◌, ◌≤◌, min, List, [], ◌∷◌, ◌++◌, length, get_or, take, drop, refl, sym, ap, subst, ◌∙◌, arith, set, length-take-le, length-append, length-drop, take-append-drop, append_assoc, append-nil, inl, inr}
use Rattle.std.specs.Prelude.{slice_index}
use Rattle.std.specs.List.{splice}
use Rattle.std.proofs.lemmas.Bool.{cases_lt}
use Rattle.std.proofs.lemmas.List.{get_or_read, nil_from_length, set_split, drop_more}
use Rattle.squall_key.specs.Search.{Rises, IsSought}
use Rattle.squall_blocks.specs.Entries.{RiseFrom, last_from, beyond, up_to, replaced}
use Rattle.squall_blocks.specs.Blocks.{most, flat, lasts_of, AreFull, AreBlocks, IsNear, IsEdit}
use Rattle.squall_blocks.specs.EntriesLaws.{up_to_first, up_to_next, rise_front, rise_back, rise_weaker, last_any, beyond_none, beyond_some, up_to_all, up_to_some}
use Rattle.squall_blocks.proofs.Blocked.{flat-append, lasts_of-append, full-append, length-lasts_of, lasts_rise}

-- ---- the block near a key

pub near_by : (ls : List ℕ) (k i m : ℕ) → IsSought (slice_index ls) (length ls) k i 0 → 0 < length ls → m ≡ min i (length ls - 1) → IsNear ls k m
near_by ls k i m s some e = record {
  within = omega (arith, e, some);
  before = λ j lt. s.before j (omega (arith, lt, e));
  beyond_key = λ lt. (let here : i ≡ m = omega (arith, e, lt, s.within) in s.from m (omega arith) (omega (arith, lt)));
}

near_tail : (x : ℕ) (xs : List ℕ) (k m : ℕ) → IsNear (x ∷ xs) k (suc m) → IsNear xs k m
near_tail x xs k m h = record {
  within = omega (arith, h.within);
  before = λ j lt. h.before (suc j) (omega arith);
  beyond_key = λ lt. h.beyond_key (omega arith);
}

near_some : {V : Type 0} (x : List (ℕ × V)) (bs : List (List (ℕ × V))) (k : ℕ) → IsNear (lasts_of (x ∷ bs)) k 0 → 0 < length bs → k < last_from 0 x
near_some x bs k h some = let n = length-lasts_of bs in h.beyond_key (omega (arith, n, some))

pub near_up_to : {V : Type 0} (b k : ℕ) (bs : List (List (ℕ × V))) (m : ℕ) → AreFull bs → RiseFrom b (flat bs) → IsNear (lasts_of bs) k m → up_to k (flat bs) ≡ flat (take m bs) ++ up_to k (get_or bs m [])
near_up_to b k [] m f r h = absurd (omega (arith, h.within))
near_up_to b k (x ∷ bs) zero f r h = elim (cases_lt 0 (length bs)) [
  | inl some ↦ up_to_some 0 k x (flat bs) (omega arith) (near_some x bs k h some)
  | inr none ↦ ap (λ l. up_to k (x ++ flat l)) (nil_from_length bs (omega (arith, none))) ∙ ap (up_to k) (append-nil x)
]
near_up_to b k (x ∷ bs) (suc m) f r h =
    let past : last_from b x ≤ k = (let e = last_any b 0 x f.0 in let l = h.before 0 (omega arith) in omega (arith, e, l)) in
    up_to_all b k x (flat bs) (rise_front b x (flat bs) r) past
    ∙ ap (λ l. x ++ l) (near_up_to (last_from b x) k bs m f.2 (rise_back b x (flat bs) r) (near_tail (last_from 0 x) (lasts_of bs) k m h))
    ∙ sym (append_assoc x (flat (take m bs)) (up_to k (get_or bs m [])))

pub near_beyond : {V : Type 0} (b k : ℕ) (bs : List (List (ℕ × V))) (m : ℕ) → AreFull bs → RiseFrom b (flat bs) → IsNear (lasts_of bs) k m → beyond k (flat bs) ≡ beyond k (get_or bs m []) ++ flat (drop (suc m) bs)
near_beyond b k [] m f r h = absurd (omega (arith, h.within))
near_beyond b k (x ∷ bs) zero f r h = elim (cases_lt 0 (length bs)) [
  | inl some ↦ beyond_some 0 k x (flat bs) (omega arith) (near_some x bs k h some)
  | inr none ↦ (let no = nil_from_length bs (omega (arith, none)) in ap (λ l. beyond k (x ++ flat l)) no ∙ ap (beyond k) (append-nil x) ∙ sym (ap (λ l. beyond k x ++ flat l) no ∙ append-nil (beyond k x)))
]
near_beyond b k (x ∷ bs) (suc m) f r h =
    let past : last_from b x ≤ k = (let e = last_any b 0 x f.0 in let l = h.before 0 (omega arith) in omega (arith, e, l)) in
    beyond_none b k x (flat bs) (rise_front b x (flat bs) r) past
    ∙ near_beyond (last_from b x) k bs m f.2 (rise_back b x (flat bs) r) (near_tail (last_from 0 x) (lasts_of bs) k m h)

-- the blocks before one that is near a key end before a later key, too
pub before_later : (ls ms : List ℕ) (a b m : ℕ) → ls ≡ ms → a ≤ b → IsNear ls a m → (j : ℕ) → j < m → slice_index ms j ≤ b
before_later ls ms a b m e le h = subst (λ (l : List ℕ). (j : ℕ) → j < m → slice_index l j ≤ b) e (λ j lt. (let x = h.before j lt in omega (arith, x, le)))

-- ---- parts of blocks

lasts_of-take : {V : Type 0} (n : ℕ) (bs : List (List (ℕ × V))) → lasts_of (take n bs) ≡ take n (lasts_of bs)
lasts_of-take zero bs = refl
lasts_of-take (suc n) [] = refl
lasts_of-take (suc n) (b ∷ bs) = ap (λ l. last_from 0 b ∷ l) (lasts_of-take n bs)

lasts_of-drop : {V : Type 0} (n : ℕ) (bs : List (List (ℕ × V))) → lasts_of (drop n bs) ≡ drop n (lasts_of bs)
lasts_of-drop zero bs = refl
lasts_of-drop (suc n) [] = refl
lasts_of-drop (suc n) (b ∷ bs) = lasts_of-drop n bs

full-take : {V : Type 0} (n : ℕ) (bs : List (List (ℕ × V))) → AreFull bs → AreFull (take n bs)
full-take zero bs f = tt
full-take (suc n) [] f = tt
full-take (suc n) (b ∷ bs) f = (f.0, f.1, full-take n bs f.2)

pub full-drop : {V : Type 0} (n : ℕ) (bs : List (List (ℕ × V))) → AreFull bs → AreFull (drop n bs)
full-drop zero bs f = f
full-drop (suc n) [] f = tt
full-drop (suc n) (b ∷ bs) f = full-drop n bs f.2

flat-splice : {V : Type 0} (bs ps : List (List (ℕ × V))) (m n : ℕ) → flat (splice bs m n ps) ≡ flat (take m bs) ++ (flat ps ++ flat (drop n bs))
flat-splice bs ps m n = flat-append (take m bs) (ps ++ drop n bs) ∙ ap (λ l. flat (take m bs) ++ l) (flat-append ps (drop n bs))

lasts_of-splice : {V : Type 0} (bs ps : List (List (ℕ × V))) (m n : ℕ) → lasts_of (splice bs m n ps) ≡ splice (lasts_of bs) m n (lasts_of ps)
lasts_of-splice bs ps m n =
    lasts_of-append (take m bs) (ps ++ drop n bs)
    ∙ (λ j. lasts_of-take m bs j ++ (lasts_of-append ps (drop n bs) ∙ ap (λ l. lasts_of ps ++ l) (lasts_of-drop n bs)) j)

full-splice : {V : Type 0} (bs ps : List (List (ℕ × V))) (m n : ℕ) → AreFull bs → AreFull ps → AreFull (splice bs m n ps)
full-splice bs ps m n f h = full-append (take m bs) (ps ++ drop n bs) (full-take m bs f) (full-append ps (drop n bs) h (full-drop n bs f))

-- ---- what is replaced

regroup : {V : Type 0} (p a f b q : List (ℕ × V)) → p ++ ((a ++ (f ++ b)) ++ q) ≡ (p ++ a) ++ (f ++ (b ++ q))
regroup p a f b q = simp append_assoc

edit_flat : {V : Type 0} (ls : List ℕ) (bs : List (List (ℕ × V))) (fresh : List (ℕ × V)) (a b m e o p : ℕ) → IsEdit ls bs a b m e o p
    → flat (take m bs) ++ ((take o (get_or bs m []) ++ (fresh ++ drop p (get_or bs e []))) ++ flat (drop (suc e) bs)) ≡ replaced a b fresh (flat bs)
edit_flat ls bs fresh a b m e o p h =
    let x : List (ℕ × _) = get_or bs m [] in
    let y : List (ℕ × _) = get_or bs e [] in
    let near = subst (λ l. IsNear l a m) h.blocks.lasts h.first in
    let near' = subst (λ l. IsNear l b e) h.blocks.lasts h.last in
    let before : flat (take m bs) ++ take o x ≡ up_to a (flat bs) = ap (λ l. flat (take m bs) ++ l) (sym h.stay) ∙ sym (near_up_to 0 a bs m h.blocks.full h.blocks.rise near) in
    let after : drop p y ++ flat (drop (suc e) bs) ≡ beyond b (flat bs) = ap (λ l. l ++ flat (drop (suc e) bs)) (sym h.behind) ∙ sym (near_beyond 0 b bs e h.blocks.full h.blocks.rise near') in
    regroup (flat (take m bs)) (take o x) fresh (drop p y) (flat (drop (suc e) bs)) ∙ (λ j. before j ++ (fresh ++ after j))

-- what comes in the place of the blocks
pub edit_rises : {V : Type 0} (ls : List ℕ) (bs : List (List (ℕ × V))) (fresh : List (ℕ × V)) (a b m e o p : ℕ) → IsEdit ls bs a b m e o p → RiseFrom 0 (replaced a b fresh (flat bs))
    → RiseFrom 0 (take o (get_or bs m []) ++ (fresh ++ drop p (get_or bs e [])))
edit_rises ls bs fresh a b m e o p h r =
    let all = subst (RiseFrom 0) (sym (edit_flat ls bs fresh a b m e o p h)) r in
    let mid : List (ℕ × _) = take o (get_or bs m []) ++ (fresh ++ drop p (get_or bs e [])) in
    let back = rise_back 0 (flat (take m bs)) (mid ++ flat (drop (suc e) bs)) all in
    rise_weaker 0 (last_from 0 (flat (take m bs))) mid (omega arith) (rise_front (last_from 0 (flat (take m bs))) mid (flat (drop (suc e) bs)) back)

pub edit_made : {V : Type 0} (ls : List ℕ) (bs ps cs : List (List (ℕ × V))) (fresh : List (ℕ × V)) (a b m e n o p : ℕ) → IsEdit ls bs a b m e o p → flat ps ≡ take o (get_or bs m []) ++ (fresh ++ drop p (get_or bs e [])) → n ≡ e + 1
    → cs ≡ splice bs m n ps → flat cs ≡ replaced a b fresh (flat bs)
edit_made ls bs ps cs fresh a b m e n o p h q ne c =
    let next : n ≡ suc e = omega (arith, ne) in
    ap flat c ∙ flat-splice bs ps m n ∙ (λ j. flat (take m bs) ++ (q j ++ flat (drop (next j) bs))) ∙ edit_flat ls bs fresh a b m e o p h

pub edit_blocks : {V : Type 0} (ls ks ms : List ℕ) (bs ps cs : List (List (ℕ × V))) (fresh : List (ℕ × V)) (a b m e n o p : ℕ) → IsEdit ls bs a b m e o p → ks ≡ lasts_of ps → AreFull ps → flat ps ≡ take o (get_or bs m []) ++ (fresh ++ drop p (get_or bs e [])) → n ≡ e + 1
    → ms ≡ splice ls m n ks → cs ≡ splice bs m n ps → RiseFrom 0 (replaced a b fresh (flat bs)) → AreBlocks ms cs
edit_blocks ls ks ms bs ps cs fresh a b m e n o p h l f q ne k c r = record {
  lasts = k ∙ (λ j. splice (h.blocks.lasts j) m n (l j)) ∙ sym (ap lasts_of c ∙ lasts_of-splice bs ps m n);
  full = subst AreFull (sym c) (full-splice bs ps m n h.blocks.full f);
  rise = subst (RiseFrom 0) (sym (edit_made ls bs ps cs fresh a b m e n o p h q ne c)) r;
}

-- ---- one block for another

pub one_is : {X : Type 0} (xs ys : List X) (m n : ℕ) (x : X) → m < length xs → n ≡ m + 1 → ys ≡ set xs m x → ys ≡ splice xs m n (x ∷ [])
one_is xs ys m n x lt e is = let next : suc m ≡ n = omega (arith, e) in is ∙ set_split xs m x lt ∙ ap (λ k. take m xs ++ x ∷ drop k xs) next

-- a block edited in its place
pub edit_within : {V : Type 0} (ls ms : List ℕ) (bs cs : List (List (ℕ × V))) (x fresh : List (ℕ × V)) (l a b m o p : ℕ) → IsEdit ls bs a b m m o p → x ≡ splice (get_or bs m []) o p fresh → 0 < length x → length x ≤ most → l ≡ last_from 0 x
    → ms ≡ set ls m l → cs ≡ set bs m x → RiseFrom 0 (replaced a b fresh (flat bs)) → AreBlocks ms cs × (flat cs ≡ replaced a b fresh (flat bs))
edit_within ls ms bs cs x fresh l a b m o p h is some few last k c r =
    let n = length-lasts_of bs in
    let len : length ls ≡ length bs = ap length h.blocks.lasts ∙ n in
    let keys = one_is ls ms m (m + 1) l h.first.within refl k in
    let blocks = one_is bs cs m (m + 1) x (omega (arith, len, h.first.within)) refl c in
    let whole : flat (x ∷ []) ≡ take o (get_or bs m []) ++ (fresh ++ drop p (get_or bs m [])) = append-nil x ∙ is in (
      edit_blocks ls (l ∷ []) ms bs (x ∷ []) cs fresh a b m m (m + 1) o p h (ap (λ t. t ∷ []) last) (some, few, tt) whole refl keys blocks r,
      edit_made ls bs (x ∷ []) cs fresh a b m m (m + 1) o p h whole refl blocks,
    )

-- ---- how the places are found

up_to_less : {V : Type 0} (a b : ℕ) (xs : List (ℕ × V)) → a ≤ b → length (up_to a xs) ≤ length (up_to b xs)
up_to_less a b [] le = omega arith
up_to_less a b (x ∷ xs) le = elim (cases_lt a x.0) [
  | inl lt ↦ (let e = ap length (up_to_first a x xs lt) in omega (arith, e))
  | inr ge ↦ (let e = ap length (up_to_next a x xs ge) in let f = ap length (up_to_next b x xs (omega (arith, ge, le))) in let h = up_to_less a b xs le in omega (arith, e, f, h))
]

pub places_rise : {V : Type 0} (a b o p : ℕ) (xs : List (ℕ × V)) → a ≤ b → up_to a xs ≡ take o xs → up_to b xs ≡ take p xs → o ≤ length xs → p ≤ length xs → o ≤ p
places_rise a b o p xs le e f m n =
    let h = up_to_less a b xs le in
    let oe = ap length e ∙ length-take-le o xs m in
    let pe = ap length f ∙ length-take-le p xs n in
    omega (arith, h, oe, pe)

pub count_of : {V : Type 0} (ls : List ℕ) (bs : List (List (ℕ × V))) → AreBlocks ls bs → length bs ≡ length ls
count_of ls bs k = sym (length-lasts_of bs) ∙ ap length (sym k.lasts)

pub near_in_order : (ls : List ℕ) (a b m n : ℕ) → Rises (slice_index ls) (length ls) → a ≤ b → IsNear ls a m → IsNear ls b n → m ≤ n
near_in_order ls a b m n up le h k = elim (cases_lt n m) [
  | inl lt ↦ (let x = h.before n lt in let y = k.beyond_key (omega (arith, lt, h.within)) in absurd (omega (arith, x, y, le)))
  | inr ge ↦ ge
]

pub edit_by : {V : Type 0} (ls : List ℕ) (bs : List (List (ℕ × V))) (x y : List (ℕ × V)) (a b m e o p : ℕ) → AreBlocks ls bs → a ≤ b → IsNear ls a m → IsNear ls b e → x ≡ get_or bs m x → y ≡ get_or bs e y
    → up_to a x ≡ take o x → beyond b y ≡ drop p y → o ≤ length x → p ≤ length y → IsEdit ls bs a b m e o p
edit_by ls bs x y a b m e o p k le h i xs ys ups downs ox py =
    let n = count_of ls bs k in
    let xe = get_or_read bs m x (omega (arith, n, h.within)) xs [] in
    let ye = get_or_read bs e y (omega (arith, n, i.within)) ys [] in
    let lx = ap length xe in
    let ly = ap length ye in record {
      blocks = k;
      first = h;
      last = i;
      order = near_in_order ls a b m e (subst (λ (l : List ℕ). Rises (slice_index l) (length l)) (sym k.lasts) (lasts_rise 0 bs k.full k.rise)) le h i;
      stay = subst (λ t. up_to a t ≡ take o t) xe ups;
      behind = subst (λ t. beyond b t ≡ drop p t) ye downs;
      to = omega (arith, lx, ox);
      from_place = omega (arith, ly, py);
    }

pub edit_found : {V : Type 0} (ls ks js : List ℕ) (bs : List (List (ℕ × V))) (x y : List (ℕ × V)) (a b m e o p : ℕ) → AreBlocks ls bs → ks ≡ ls → js ≡ ls → a ≤ b → IsNear ks a m → IsNear js b e → x ≡ get_or bs m x → y ≡ get_or bs e y
    → up_to a x ≡ take o x → beyond b y ≡ drop p y → o ≤ length x → p ≤ length y → IsEdit ls bs a b m e o p
edit_found ls ks js bs x y a b m e o p k kl jl le h i xs ys ups downs ox py =
    edit_by ls bs x y a b m e o p k le (subst (λ l. IsNear l a m) kl h) (subst (λ l. IsNear l b e) jl i) xs ys ups downs ox py

-- two places in one block
pub in_order : {V : Type 0} (bs : List (List (ℕ × V))) (x y : List (ℕ × V)) (a b m e o p : ℕ) → m ≡ e → m < length bs → x ≡ get_or bs m x → y ≡ get_or bs e y → a ≤ b → up_to a x ≡ take o x → up_to b y ≡ take p y → o ≤ length x → p ≤ length y
    → (o ≤ p) × (p ≤ length x)
in_order bs x y a b m e o p me lt xs ys le ups upt ox py =
    let xe = get_or_read bs m x lt xs [] in
    let ye = get_or_read bs e y (omega (arith, lt, me)) ys [] in
    let same : y ≡ x = ye ∙ ap (λ i. get_or bs i []) (sym me) ∙ sym xe in
    let fits : p ≤ length x = (let n = ap length same in omega (arith, n, py)) in
    (places_rise a b o p x le ups (subst (λ t. up_to b t ≡ take p t) same upt) ox fits, fits)

pub length-splice : {X : Type 0} (xs f : List X) (m n : ℕ) → m ≤ n → n ≤ length xs → length (splice xs m n f) ≡ length xs - (n - m) + length f
length-splice xs f m n le within =
    let a = length-append (take m xs) (f ++ drop n xs) in
    let b = length-append f (drop n xs) in
    let c = length-take-le m xs (omega arith) in
    let d = length-drop n xs in
    omega (arith, a, b, c, d)

-- how long the block is then
pub long_after : {V : Type 0} (bs : List (List (ℕ × V))) (x f : List (ℕ × V)) (m o p len more : ℕ) → m < length bs → x ≡ get_or bs m x → o ≤ p → p ≤ length x → len ≡ length x → more ≡ length f
    → length (splice (get_or bs m []) o p f) ≡ len - (p - o) + more
long_after bs x f m o p len more lt xs le fits l k =
    ap (λ t. length (splice t o p f)) (sym (get_or_read bs m x lt xs [])) ∙ length-splice x f o p le fits ∙ (λ j. sym l j - (p - o) + sym k j)

-- ---- two blocks made one

pub merged_flat : {V : Type 0} (bs : List (List (ℕ × V))) (m : ℕ) → m + 1 < length bs → flat (take m bs) ++ ((get_or bs m [] ++ get_or bs (m + 1) []) ++ flat (drop (m + 2) bs)) ≡ flat bs
merged_flat bs m lt =
    let one : drop m bs ≡ get_or bs m [] ∷ drop (m + 1) bs = drop_more bs m [] (omega arith) in
    let two : drop (m + 1) bs ≡ get_or bs (m + 1) [] ∷ drop (m + 1 + 1) bs = drop_more bs (m + 1) [] lt in
    let three : m + 1 + 1 ≡ m + 2 = omega arith in
    let both : flat (drop m bs) ≡ get_or bs m [] ++ (get_or bs (m + 1) [] ++ flat (drop (m + 2) bs)) = ap flat (one ∙ ap (λ l. get_or bs m [] ∷ l) two) ∙ ap (λ k. get_or bs m [] ++ (get_or bs (m + 1) [] ++ flat (drop k bs))) three in
    ap (λ l. flat (take m bs) ++ l) (append_assoc (get_or bs m []) (get_or bs (m + 1) []) (flat (drop (m + 2) bs)) ∙ sym both)
    ∙ sym (flat-append (take m bs) (drop m bs)) ∙ ap flat (take-append-drop m bs)

pub merged : {V : Type 0} (ls ms : List ℕ) (bs cs : List (List (ℕ × V))) (x y z : List (ℕ × V)) (m n l : ℕ) → AreBlocks ls bs → m + 1 < length bs → x ≡ get_or bs m x → y ≡ get_or bs (m + 1) y → z ≡ x ++ y → 0 < length z → length z ≤ most → l ≡ last_from 0 z → n ≡ m + 2
    → ms ≡ splice ls m n (l ∷ []) → cs ≡ splice bs m n (z ∷ []) → AreBlocks ms cs × (flat cs ≡ flat bs)
merged ls ms bs cs x y z m n l a lt xs ys zs some few last ne k c =
    let xe = get_or_read bs m x (omega arith) xs [] in
    let ye = get_or_read bs (m + 1) y lt ys [] in
    let same : flat cs ≡ flat bs =
    ap flat c ∙ flat-splice bs (z ∷ []) m n
    ∙ (λ j. flat (take m bs) ++ ((append-nil z ∙ zs ∙ (λ i. xe i ++ ye i)) j ++ flat (drop (ne j) bs)))
    ∙ merged_flat bs m lt in (
      record {
        lasts = k ∙ (λ j. splice (a.lasts j) m n (last j ∷ [])) ∙ sym (ap lasts_of c ∙ lasts_of-splice bs (z ∷ []) m n);
        full = subst AreFull (sym c) (full-splice bs (z ∷ []) m n a.full (some, few, tt));
        rise = subst (RiseFrom 0) (sym same) a.rise;
      },
      same,
    )

pub block_some : {V : Type 0} (bs : List (List (ℕ × V))) (m : ℕ) → AreFull bs → m < length bs → 0 < length (get_or bs m [])
block_some [] m f lt = absurd (omega arith)
block_some (b ∷ bs) zero f lt = f.0
block_some (b ∷ bs) (suc m) f lt = block_some bs m f.2 (omega arith)

pub some_blocks : {V : Type 0} (bs : List (List (ℕ × V))) → 0 < length (flat bs) → 0 < length bs
some_blocks [] lt = lt
some_blocks (b ∷ bs) lt = omega arith
