-- Blocks of entries as one list.
use Rattle.std.proofs.Common.{◌≡◌, ℕ, zero, suc, ◌-◌, ◌<◌, ◌≤◌, List, [], ◌∷◌, ◌++◌, length, get_or, take, drop, refl, sym, ap, subst, ◌∙◌, arith, append_assoc, append-nil}
use Rattle.std.specs.Prelude.{slice_index, slice_get}
use Rattle.squall_key.specs.Search.{Rises, IsSought}
use Rattle.squall_blocks.specs.Entries.{RiseFrom, last_from, beyond, up_to}
use Rattle.squall_blocks.specs.Blocks.{most, flat, lasts_of, AreFull, AreBlocks}
use Rattle.std.proofs.Common.{inl, inr}
use Rattle.std.proofs.lemmas.Bool.{cases_lt}
use Rattle.std.proofs.lemmas.List.{get_or_read, get_or_past, drop_all, take_all}
use Rattle.squall_blocks.specs.EntriesLaws.{beyond_first, beyond_next, rise_front, rise_back, rise_append, rise_weaker, last_above, last_any, last_append, beyond_none, beyond_some, up_to_all, up_to_some}

pub flat-append : {V : Type 0} (bs cs : List (List (ℕ × V))) → flat (bs ++ cs) ≡ flat bs ++ flat cs
flat-append [] cs = refl
flat-append (b ∷ bs) cs = ap (λ l. b ++ l) (flat-append bs cs) ∙ sym (append_assoc b (flat bs) (flat cs))

pub lasts_of-append : {V : Type 0} (bs cs : List (List (ℕ × V))) → lasts_of (bs ++ cs) ≡ lasts_of bs ++ lasts_of cs
lasts_of-append [] cs = refl
lasts_of-append (b ∷ bs) cs = ap (λ l. last_from 0 b ∷ l) (lasts_of-append bs cs)

pub full-append : {V : Type 0} (bs cs : List (List (ℕ × V))) → AreFull bs → AreFull cs → AreFull (bs ++ cs)
full-append [] cs f h = h
full-append (b ∷ bs) cs f h = (f.0, f.1, full-append bs cs f.2 h)

pub length-lasts_of : {V : Type 0} (bs : List (List (ℕ × V))) → length (lasts_of bs) ≡ length bs
length-lasts_of [] = refl
length-lasts_of (b ∷ bs) = ap suc (length-lasts_of bs)

pub first_at : {X : Type 0} (xs : List X) (n : ℕ) → slice_get (drop n xs) 0 ≡ slice_get xs n
first_at xs zero = refl
first_at [] (suc n) = refl
first_at (x ∷ xs) (suc n) = first_at xs n

-- ---- the ends of blocks rise

last_above_at : {V : Type 0} (b : ℕ) (bs : List (List (ℕ × V))) (j : ℕ) → AreFull bs → RiseFrom b (flat bs) → j < length (lasts_of bs) → b ≤ slice_index (lasts_of bs) j
last_above_at b [] j f r lt = absurd (omega arith)
last_above_at b (x ∷ bs) zero f r lt =
    let up = last_above b x (rise_front b x (flat bs) r) in
    let same = last_any b 0 x f.0 in
    omega (arith, up, same)
last_above_at b (x ∷ bs) (suc j) f r lt =
    let up = last_above b x (rise_front b x (flat bs) r) in
    let next = last_above_at (last_from b x) bs j f.2 (rise_back b x (flat bs) r) (omega arith) in
    omega (arith, up, next)

pub lasts_rise : {V : Type 0} (b : ℕ) (bs : List (List (ℕ × V))) → AreFull bs → RiseFrom b (flat bs) → Rises (slice_index (lasts_of bs)) (length (lasts_of bs))
lasts_rise b [] f r i j le lt = absurd (omega arith)
lasts_rise b (x ∷ bs) f r zero zero le lt = omega arith
lasts_rise b (x ∷ bs) f r zero (suc j) le lt =
    let next = last_above_at (last_from b x) bs j f.2 (rise_back b x (flat bs) r) (omega arith) in
    let same = last_any b 0 x f.0 in
    omega (arith, next, same)
lasts_rise b (x ∷ bs) f r (suc i) zero le lt = absurd (omega arith)
lasts_rise b (x ∷ bs) f r (suc i) (suc j) le lt = lasts_rise (last_from b x) bs f.2 (rise_back b x (flat bs) r) i j (omega arith) (omega arith)

-- ---- what is beyond a key, block by block

sought_tail : (x : ℕ) (xs : List ℕ) (k i : ℕ) → IsSought (slice_index (x ∷ xs)) (length (x ∷ xs)) k (suc i) 0 → IsSought (slice_index xs) (length xs) k i 0
sought_tail x xs k i m = record {
  within = omega (arith, m.within);
  before = λ j lt. m.before (suc j) (omega arith);
  from = λ j le lt. m.from (suc j) (omega arith) (omega arith);
}

pub beyond_blocks : {V : Type 0} (b k : ℕ) (bs : List (List (ℕ × V))) (i : ℕ) → AreFull bs → RiseFrom b (flat bs) → IsSought (slice_index (lasts_of bs)) (length (lasts_of bs)) k i 0
    → beyond k (flat bs) ≡ beyond k (get_or bs i []) ++ flat (drop (suc i) bs)
beyond_blocks b k [] zero f r m = refl
beyond_blocks b k [] (suc i) f r m = refl
beyond_blocks b k (x ∷ bs) zero f r m =
    beyond_some 0 k x (flat bs) (omega arith) (m.from 0 (omega arith) (omega arith))
beyond_blocks b k (x ∷ bs) (suc i) f r m =
    let past : last_from b x ≤ k = (let e = last_any b 0 x f.0 in let h = m.before 0 (omega arith) in omega (arith, e, h)) in
    beyond_none b k x (flat bs) (rise_front b x (flat bs) r) past
    ∙ beyond_blocks (last_from b x) k bs i f.2 (rise_back b x (flat bs) r) (sought_tail (last_from 0 x) (lasts_of bs) k i m)

pub up_to_blocks : {V : Type 0} (b k : ℕ) (bs : List (List (ℕ × V))) (i : ℕ) → AreFull bs → RiseFrom b (flat bs) → IsSought (slice_index (lasts_of bs)) (length (lasts_of bs)) k i 0
    → up_to k (flat bs) ≡ flat (take i bs) ++ up_to k (get_or bs i [])
up_to_blocks b k [] zero f r m = refl
up_to_blocks b k [] (suc i) f r m = refl
up_to_blocks b k (x ∷ bs) zero f r m =
    up_to_some 0 k x (flat bs) (omega arith) (m.from 0 (omega arith) (omega arith))
up_to_blocks b k (x ∷ bs) (suc i) f r m =
    let past : last_from b x ≤ k = (let e = last_any b 0 x f.0 in let h = m.before 0 (omega arith) in omega (arith, e, h)) in
    up_to_all b k x (flat bs) (rise_front b x (flat bs) r) past
    ∙ ap (λ l. x ++ l) (up_to_blocks (last_from b x) k bs i f.2 (rise_back b x (flat bs) r) (sought_tail (last_from 0 x) (lasts_of bs) k i m))
    ∙ sym (append_assoc x (flat (take i bs)) (up_to k (get_or bs i [])))

-- ---- a block

pub block_rises : {V : Type 0} (b : ℕ) (bs : List (List (ℕ × V))) (i : ℕ) → RiseFrom b (flat bs) → RiseFrom b (get_or bs i [])
block_rises b [] i r = tt
block_rises b (x ∷ bs) zero r = rise_front b x (flat bs) r
block_rises b (x ∷ bs) (suc i) r =
    let up = last_above b x (rise_front b x (flat bs) r) in
    rise_weaker b (last_from b x) (get_or bs i []) up (block_rises (last_from b x) bs i (rise_back b x (flat bs) r))

-- one more at the end
pub blocks_more : {V : Type 0} (ls : List ℕ) (bs : List (List (ℕ × V))) (x : List (ℕ × V)) (l : ℕ) → AreBlocks ls bs → 0 < length x → length x ≤ most → l ≡ last_from 0 x → RiseFrom (last_from 0 (flat bs)) x → AreBlocks (ls ++ l ∷ []) (bs ++ x ∷ [])
blocks_more ls bs x l a some few e r = record {
  lasts = (λ j. a.lasts j ++ e j ∷ []) ∙ sym (lasts_of-append bs (x ∷ []));
  full = full-append bs (x ∷ []) a.full (some, few, tt);
  rise = subst (RiseFrom 0) (sym (flat-append bs (x ∷ []) ∙ ap (λ t. flat bs ++ t) (append-nil x))) (rise_append 0 (flat bs) x a.rise r);
}

pub lasts_at : {V : Type 0} (bs : List (List (ℕ × V))) (i : ℕ) → slice_index (lasts_of bs) i ≡ last_from 0 (get_or bs i [])
lasts_at [] zero = refl
lasts_at [] (suc i) = refl
lasts_at (b ∷ bs) zero = refl
lasts_at (b ∷ bs) (suc i) = lasts_at bs i

some_beyond : {V : Type 0} (b k : ℕ) (xs : List (ℕ × V)) → b ≤ k → k < last_from b xs → 0 < length (beyond k xs)
some_beyond b k [] le lt = absurd (omega arith)
some_beyond b k (x ∷ xs) le lt = elim (cases_lt k x.0) [
  | inl here ↦ (let e = ap length (beyond_first k x xs here) in omega (arith, e))
  | inr past ↦ (let e = ap length (beyond_next k x xs past) in let h = some_beyond x.0 k xs past lt in omega (arith, e, h))
]

first_of : {V : Type 0} (xs ys : List (ℕ × V)) → 0 < length xs → slice_get (xs ++ ys) 0 ≡ slice_get xs 0
first_of [] ys lt = absurd (omega arith)
first_of (x ∷ xs) ys lt = refl

pub first_beyond : {V : Type 0} (k : ℕ) (bs : List (List (ℕ × V))) (i : ℕ) (x : List (ℕ × V)) → AreFull bs → RiseFrom 0 (flat bs) → IsSought (slice_index (lasts_of bs)) (length (lasts_of bs)) k i 0 → i < length bs → x ≡ get_or bs i x
    → slice_get (beyond k x) 0 ≡ slice_get (beyond k (flat bs)) 0
first_beyond k bs i x f r m lt is =
    let same : x ≡ get_or bs i [] = get_or_read bs i x lt is [] in
    let far : k < last_from 0 x = (let h = m.from i (omega arith) (let n = length-lasts_of bs in omega (arith, n)) in let e = lasts_at bs i ∙ ap (last_from 0) (sym same) in omega (arith, h, e)) in
    sym (ap (λ l. slice_get l 0) (beyond_blocks 0 k bs i f r m ∙ ap (λ l. beyond k l ++ flat (drop (suc i) bs)) (sym same))
    ∙ first_of (beyond k x) (flat (drop (suc i) bs)) (some_beyond 0 k x (omega arith) far))

pub none_beyond : {V : Type 0} (k : ℕ) (bs : List (List (ℕ × V))) (i : ℕ) → AreFull bs → RiseFrom 0 (flat bs) → IsSought (slice_index (lasts_of bs)) (length (lasts_of bs)) k i 0 → length bs ≤ i → beyond k (flat bs) ≡ []
none_beyond k bs i f r m le =
    beyond_blocks 0 k bs i f r m ∙ (λ j. beyond k (get_or_past bs i [] le j) ++ flat (drop_all (suc i) bs (omega arith) j))

-- the ends of blocks by another name
pub rises_by : {V : Type 0} (ls ms : List ℕ) (bs : List (List (ℕ × V))) → AreBlocks ls bs → ms ≡ ls → Rises (slice_index ms) (length ms)
rises_by ls ms bs a e = subst (λ (l : List ℕ). Rises (slice_index l) (length l)) (sym (e ∙ a.lasts)) (lasts_rise 0 bs a.full a.rise)

pub sought_by : {V : Type 0} (ls ms : List ℕ) (bs : List (List (ℕ × V))) (k i : ℕ) → AreBlocks ls bs → ms ≡ ls → IsSought (slice_index ms) (length ms) k i 0 → IsSought (slice_index (lasts_of bs)) (length (lasts_of bs)) k i 0
sought_by ls ms bs k i a e m = subst (λ (l : List ℕ). IsSought (slice_index l) (length l) k i 0) (e ∙ a.lasts) m

-- a block by a read
pub read_rises : {V : Type 0} (bs : List (List (ℕ × V))) (i : ℕ) (x : List (ℕ × V)) → RiseFrom 0 (flat bs) → i < length bs → x ≡ get_or bs i x → RiseFrom 0 x
read_rises bs i x r lt is = subst (RiseFrom 0) (sym (get_or_read bs i x lt is [])) (block_rises 0 bs i r)

pub blocks_by : {V : Type 0} (ls ms : List ℕ) (bs cs : List (List (ℕ × V))) (es x : List (ℕ × V)) (l : ℕ) → AreBlocks ls bs → flat bs ≡ es → 0 < length x → length x ≤ most → RiseFrom (last_from 0 es) x → l ≡ last_from 0 x
    → ms ≡ ls ++ l ∷ [] → cs ≡ bs ++ x ∷ [] → AreBlocks ms cs
blocks_by ls ms bs cs es x l a e some few r last p q =
    let rise = subst (λ t. RiseFrom (last_from 0 t) x) (sym e) r in
    let made = blocks_more ls bs x l a some few last rise in
    subst (λ t. AreBlocks ms t) (sym q) (subst (λ t. AreBlocks t (bs ++ x ∷ [])) (sym p) made)

last_of_front : {V : Type 0} (b i : ℕ) (bs : List (List (ℕ × V))) → AreFull bs → i < length bs → last_from b (flat (take (suc i) bs)) ≡ slice_index (lasts_of bs) i
last_of_front b i [] f lt = absurd (omega arith)
last_of_front b zero (x ∷ bs) f lt = ap (last_from b) (append-nil x) ∙ last_any b 0 x f.0
last_of_front b (suc i) (x ∷ bs) f lt = last_append b x (flat (take (suc i) bs)) ∙ last_of_front (last_from b x) i bs f.2 (omega arith)

-- where the blocks before a place end
pub front_ends : {V : Type 0} (ls ms : List ℕ) (bs : List (List (ℕ × V))) (i l b : ℕ) → AreBlocks ls bs → ms ≡ ls → i ≤ length bs → (i ≡ 0 → l ≡ b) → (0 < i → l ≡ slice_index ms (i - 1)) → last_from b (flat (take i bs)) ≡ l
front_ends ls ms bs zero l b a e le none some = sym (none refl)
front_ends ls ms bs (suc i) l b a e le none some =
    let here : suc i - 1 ≡ i = omega arith in
    last_of_front b i bs a.full (omega arith) ∙ sym (some (omega arith) ∙ (λ j. slice_index ((e ∙ a.lasts) j) (here j)))

pub ends_before : {V : Type 0} (ls ms : List ℕ) (bs : List (List (ℕ × V))) (x : List (ℕ × V)) (k i l r b : ℕ) → AreBlocks ls bs → ms ≡ ls → IsSought (slice_index (lasts_of bs)) (length (lasts_of bs)) k i 0 → (i ≡ 0 → l ≡ b) → (0 < i → l ≡ slice_index ms (i - 1))
    → x ≡ get_or bs i [] → r ≡ last_from l (up_to k x) → r ≡ last_from b (up_to k (flat bs))
ends_before ls ms bs x k i l r b a e m none some xe q =
    let n = length-lasts_of bs in
    let front = front_ends ls ms bs i l b a e (omega (arith, m.within, n)) none some in
    q ∙ (λ j. last_from (sym front j) (up_to k (xe j)))
    ∙ sym (ap (last_from b) (up_to_blocks 0 k bs i a.full a.rise m) ∙ last_append b (flat (take i bs)) (up_to k (get_or bs i [])))

-- a block at a place, behind those before it
pub record BlockAt {V : Type 0} (b : ℕ) (bs : List (List (ℕ × V))) (i : ℕ) (x : List (ℕ × V)) : Type 0 where
  pub some : 0 < length x
  pub few : length x ≤ most
  pub rise : RiseFrom (last_from b (flat (take i bs))) x
  pub more : flat (take (suc i) bs) ≡ flat (take i bs) ++ x

pub block_at : {V : Type 0} (b : ℕ) (bs : List (List (ℕ × V))) (i : ℕ) → AreFull bs → RiseFrom b (flat bs) → i < length bs → BlockAt b bs i (get_or bs i [])
block_at b [] i f r lt = absurd (omega arith)
block_at b (x ∷ bs) zero f r lt = record { some = f.0; few = f.1; rise = rise_front b x (flat bs) r; more = append-nil x }
block_at b (x ∷ bs) (suc i) f r lt =
    let at = block_at (last_from b x) bs i f.2 (rise_back b x (flat bs) r) (omega arith) in
    record {
      some = at.some;
      few = at.few;
      rise = subst (λ n. RiseFrom n (get_or bs i [])) (sym (last_append b x (flat (take i bs)))) at.rise;
      more = ap (λ l. x ++ l) at.more ∙ sym (append_assoc x (flat (take i bs)) (get_or bs i []));
    }

-- the same of a copy of a block that was read
pub copy_at : {V : Type 0} (ls : List ℕ) (bs cs : List (List (ℕ × V))) (i n : ℕ) (x y : List (ℕ × V)) → AreBlocks ls bs → cs ≡ bs → i < length cs → x ≡ get_or cs i x → n ≡ length x → y ≡ take n (drop 0 x) → BlockAt 0 cs i y
copy_at ls bs cs i n x y a same lt is len part =
    let full = subst AreFull (sym same) a.full in
    let rise = subst (λ l. RiseFrom 0 (flat l)) (sym same) a.rise in
    let whole : y ≡ get_or cs i [] = part ∙ (λ j. take (len j) x) ∙ take_all (length x) x (omega arith) ∙ get_or_read cs i x lt is [] in
    subst (BlockAt 0 cs i) (sym whole) (block_at 0 cs i full rise lt)
