-- Steps that undo edits, one behind the other.
use Rattle.std.proofs.Common.{◌≡◌, ℕ, ◌+◌, ◌-◌, ◌≤◌, List, [], ◌∷◌, ◌++◌, length, take, drop, refl, sym, ap, subst, ◌∙◌, arith, length-append, length-take-le, length-drop, take-append-drop, append_assoc, get_or, set, ◌<◌}
use Rattle.std.specs.List.{splice}
use Rattle.std.proofs.lemmas.List.{drop-drop, drop_at, get_or-drop, take_more, take-set-le, drop-set-lt, length-set}
use Rattle.std.proofs.lemmas.Grind.{drop_more_same}
use Rattle.std.proofs.Math.Seq.{take-append_seam}
use Rattle.squall_blocks.specs.Blocks.{AreBlocks}
use Rattle.std.specs.Prelude.{slice_index_or}
use Rattle.squall_blocks.specs.declared.steps.Step.{Step}
use Rattle.squall_blocks.specs.declared.steps.Step.TheVariants.{Blocks, Entries}
use Rattle.squall_blocks.specs.Drafts.{lasts_before, blocks_before, kept_by, undone_lasts, undone, kept_in, IsWithin, AreWithin, Undoes, IsDraft}

-- ---- one step more

pub undone_lasts-append : {V : Type 0} (ss : List (Step V)) (s : Step V) (ls : List ℕ) → undone_lasts (ss ++ s ∷ []) ls ≡ undone_lasts ss (lasts_before s ls)
undone_lasts-append [] s ls = refl
undone_lasts-append (t ∷ ss) s ls = ap (lasts_before t) (undone_lasts-append ss s ls)

pub undone-append : {V : Type 0} (ss : List (Step V)) (s : Step V) (bs : List (List (ℕ × V))) → undone (ss ++ s ∷ []) bs ≡ undone ss (blocks_before s bs)
undone-append [] s bs = refl
undone-append (t ∷ ss) s bs = ap (blocks_before t) (undone-append ss s bs)

pub kept_in-append : {V : Type 0} (ss : List (Step V)) (s : Step V) → kept_in (ss ++ s ∷ []) ≡ kept_in ss + kept_by s
kept_in-append [] s = omega arith
kept_in-append (t ∷ ss) s = let rest = kept_in-append ss s in omega (arith, rest)

pub within_more : {V : Type 0} (ss : List (Step V)) (s : Step V) (ls : List ℕ) (bs : List (List (ℕ × V))) → AreWithin ss (lasts_before s ls) (blocks_before s bs) → IsWithin s ls bs → AreWithin (ss ++ s ∷ []) ls bs
within_more [] s ls bs w is = (is, tt)
within_more (t ∷ ss) s ls bs w is = (
  subst (λ l. IsWithin t l (undone (ss ++ s ∷ []) bs)) (sym (undone_lasts-append ss s ls)) (subst (IsWithin t (undone_lasts ss (lasts_before s ls))) (sym (undone-append ss s bs)) w.0),
  within_more ss s ls bs w.1 is,
)

pub within_less : {V : Type 0} (ss : List (Step V)) (s : Step V) (ls : List ℕ) (bs : List (List (ℕ × V))) → AreWithin (ss ++ s ∷ []) ls bs → AreWithin ss (lasts_before s ls) (blocks_before s bs) × IsWithin s ls bs
within_less [] s ls bs w = (tt, w.0)
within_less (t ∷ ss) s ls bs w =
    let rest = within_less ss s ls bs w.1 in (
      (
        subst (λ l. IsWithin t l (undone ss (blocks_before s bs))) (undone_lasts-append ss s ls) (subst (IsWithin t (undone_lasts (ss ++ s ∷ []) ls)) (undone-append ss s bs) w.0),
        rest.0,
      ),
      rest.1,
    )

-- ---- what was in the place of others

pub spliced_back : {X : Type 0} (xs f g : List X) (m n stop : ℕ) → m ≤ n → n ≤ length xs → stop ≡ m + length f → g ≡ take (n - m) (drop m xs) → splice (splice xs m n f) m stop g ≡ xs
spliced_back {X} xs f g m n stop le within s e =
    let front : List X = take m xs in
    let len : length front ≡ m = length-take-le m xs (omega arith) in
    let short : take m (front ++ (f ++ drop n xs)) ≡ front = ap (λ i. take i (front ++ (f ++ drop n xs))) (sym len) ∙ take-append_seam front (f ++ drop n xs) in
    let both : length (front ++ f) ≡ stop = (let l = length-append front f in omega (arith, l, len, s)) in
    let behind : drop stop (front ++ (f ++ drop n xs)) ≡ drop n xs = ap (drop stop) (sym (append_assoc front f (drop n xs))) ∙ drop_at (front ++ f) (drop n xs) stop both in
    let there : m + (n - m) ≡ n = omega arith in
    let rest : g ++ drop n xs ≡ drop m xs = (λ j. e j ++ ap (λ i. drop i xs) (sym there) j) ∙ ap (λ l. take (n - m) (drop m xs) ++ l) (sym (drop-drop (n - m) m xs)) ∙ take-append-drop (n - m) (drop m xs) in
    (λ j. short j ++ (g ++ behind j)) ∙ ap (λ l. front ++ l) rest ∙ take-append-drop m xs

-- the same list to a place and from another on
pub spliced_as : {X : Type 0} (xs ys f : List X) (m n : ℕ) → take m ys ≡ take m xs → drop n ys ≡ drop n xs → splice ys m n f ≡ splice xs m n f
spliced_as xs ys f m n front behind = λ j. front j ++ (f ++ behind j)

pub length_spliced : {X : Type 0} (xs f : List X) (m n : ℕ) → m ≤ n → n ≤ length xs → length (splice xs m n f) + (n - m) ≡ length xs + length f
length_spliced xs f m n le within =
    let a = length-append (take m xs) (f ++ drop n xs) in
    let b = length-append f (drop n xs) in
    let c = length-take-le m xs (omega arith) in
    let d = length-drop n xs in
    omega (arith, a, b, c, d)

-- one item more is taken out
pub record TakenOut {X : Type 0} (xs ys gone : List X) (first at : ℕ) : Type 0 where
  pub gone_is : gone ≡ take (at - first) (drop first xs)
  pub front : take first ys ≡ take first xs
  pub behind : drop at ys ≡ drop at xs
  pub len : length ys ≡ length xs
  pub from : first ≤ at

pub taken_more : {X : Type 0} (xs ys gone new : List X) (first at : ℕ) (x z : X) → TakenOut xs ys gone first at → at < length ys → x ≡ get_or ys at x → new ≡ gone ++ x ∷ [] → TakenOut xs (set ys at z) new first (at + 1)
taken_more xs ys gone new first at x z t lt is e =
    let count : at - first + 1 ≡ at + 1 - first = omega (arith, t.from) in
    let place : first + (at - first) ≡ at = omega (arith, t.from) in
    let here : get_or (drop first xs) (at - first) x ≡ x =
    get_or-drop first xs (at - first) x ∙ ap (λ i. get_or xs i x) (place ∙ omega arith) ∙ sym (get_or-drop at xs 0 x) ∙ ap (λ l. get_or l 0 x) (sym t.behind) ∙ get_or-drop at ys 0 x ∙ ap (λ i. get_or ys i x) (omega arith) ∙ sym is in
    let within : at - first < length (drop first xs) = (let d = length-drop first xs in omega (arith, d, lt, t.len, t.from)) in
    record {
      gone_is = e ∙ (λ j. t.gone_is j ++ sym here j ∷ []) ∙ sym (take_more (drop first xs) (at - first) x within) ∙ ap (λ i. take i (drop first xs)) count;
      front = take-set-le first ys at z t.from ∙ t.front;
      behind = drop-set-lt (at + 1) ys at z (omega arith) ∙ drop_more_same ys xs at t.behind;
      len = length-set ys at z ∙ t.len;
      from = omega (arith, t.from);
    }

pub taken_none : {X : Type 0} (xs gone : List X) (first : ℕ) → gone ≡ [] → TakenOut xs xs gone first first
taken_none xs gone first e =
    let none : first - first ≡ 0 = omega arith in
    record { gone_is = e ∙ sym (ap (λ i. take i (drop first xs)) none); front = refl; behind = refl; len = refl; from = omega arith }

pub length_part : {X : Type 0} (xs : List X) (m n : ℕ) → m ≤ n → n ≤ length xs → length (take (n - m) (drop m xs)) ≡ n - m
length_part xs m n le within = length-take-le (n - m) (drop m xs) (let d = length-drop m xs in omega (arith, d, le, within))

-- ---- drafts

pub drafted : {V : Type 0} (ls ls' : List ℕ) (bs bs' : List (List (ℕ × V))) (ss ss' : List (Step V)) (s : Step V) → IsDraft ls bs ss → Undoes s ls ls' bs bs' → ss' ≡ ss ++ s ∷ [] → AreBlocks ls' bs' → IsDraft ls' bs' ss'
drafted ls ls' bs bs' ss ss' s d u e k =
    let made : IsDraft ls' bs' (ss ++ s ∷ []) = record {
      now_blocks = k;
      first_blocks = subst (λ l. AreBlocks l (undone (ss ++ s ∷ []) bs')) (sym (undone_lasts-append ss s ls' ∙ ap (undone_lasts ss) u.lasts))
          (subst (AreBlocks (undone_lasts ss ls)) (sym (undone-append ss s bs' ∙ ap (undone ss) u.blocks)) d.first_blocks);
      within = within_more ss s ls' bs' (subst (λ l. AreWithin ss l (blocks_before s bs')) (sym u.lasts) (subst (AreWithin ss ls) (sym u.blocks) d.within)) u.within;
    } in
    subst (IsDraft ls' bs') (sym e) made

pub drafted_before : {V : Type 0} (ls ls' : List ℕ) (bs bs' : List (List (ℕ × V))) (ss ss' : List (Step V)) (s : Step V) → Undoes s ls ls' bs bs' → ss' ≡ ss ++ s ∷ [] → undone ss' bs' ≡ undone ss bs
drafted_before ls ls' bs bs' ss ss' s u e = ap (λ t. undone t bs') e ∙ undone-append ss s bs' ∙ ap (undone ss) u.blocks

-- to undo a step takes room for the blocks that it keeps
before_lens : {V : Type 0} (s : Step V) (ls : List ℕ) (bs : List (List (ℕ × V))) → IsWithin s ls bs → (length (lasts_before s ls) ≤ length ls + kept_by s) × (length (blocks_before s bs) ≤ length bs + kept_by s)
before_lens (Blocks s) ls bs i =
    let a = length_spliced ls s.lasts s.first s.end i.order i.lasts in
    let b = length_spliced bs s.blocks s.first s.end i.order i.blocks in (omega (arith, a, i.same), omega (arith, b))
before_lens (Entries s) ls bs i =
    let a = length_spliced ls (s.last ∷ []) s.at (s.at + 1) (omega arith) (omega (arith, i.lasts)) in
    let b = length_spliced bs (splice (slice_index_or bs s.at []) s.first s.end s.gone ∷ []) s.at (s.at + 1) (omega arith) (omega (arith, i.blocks)) in (omega (arith, a), omega (arith, b))

-- the newest step is undone
pub record UndoneOnce {V : Type 0} (ss ss' : List (Step V)) (s : Step V) (ls ls' : List ℕ) (bs bs' : List (List (ℕ × V))) : Type 0 where
  pub blocks : AreBlocks (undone_lasts ss' ls') (undone ss' bs')
  pub same : undone ss' bs' ≡ undone ss bs
  pub within : AreWithin ss' ls' bs'
  pub lasts_len : length ls' ≤ length ls + kept_by s
  pub blocks_len : length bs' ≤ length bs + kept_by s

pub last_within : {V : Type 0} (ss ss' : List (Step V)) (s : Step V) (ls : List ℕ) (bs : List (List (ℕ × V))) → ss ≡ ss' ++ s ∷ [] → AreWithin ss ls bs → IsWithin s ls bs
last_within ss ss' s ls bs e w = (within_less ss' s ls bs (subst (λ t. AreWithin t ls bs) e w)).1

pub last_kept : {V : Type 0} (ss ss' : List (Step V)) (s : Step V) → ss ≡ ss' ++ s ∷ [] → kept_in ss ≡ kept_in ss' + kept_by s
last_kept ss ss' s e = ap kept_in e ∙ kept_in-append ss' s

pub undone_once : {V : Type 0} (ss ss' : List (Step V)) (s : Step V) (ls ls' : List ℕ) (bs bs' : List (List (ℕ × V))) → ss ≡ ss' ++ s ∷ [] → AreBlocks (undone_lasts ss ls) (undone ss bs) → AreWithin ss ls bs
    → ls' ≡ lasts_before s ls → bs' ≡ blocks_before s bs → UndoneOnce ss ss' s ls ls' bs bs'
undone_once ss ss' s ls ls' bs bs' e k w el eb =
    let lasts : undone_lasts ss ls ≡ undone_lasts ss' ls' = ap (λ t. undone_lasts t ls) e ∙ undone_lasts-append ss' s ls ∙ ap (undone_lasts ss') (sym el) in
    let blocks : undone ss bs ≡ undone ss' bs' = ap (λ t. undone t bs) e ∙ undone-append ss' s bs ∙ ap (undone ss') (sym eb) in
    let less = within_less ss' s ls bs (subst (λ t. AreWithin t ls bs) e w) in
    let i = less.1 in
    let n = ap length el in
    let m = ap length eb in
    let l = before_lens s ls bs i in
    record {
      blocks = subst (λ l. AreBlocks l (undone ss' bs')) lasts (subst (AreBlocks (undone_lasts ss ls)) blocks k);
      same = sym blocks;
      within = subst (λ l. AreWithin ss' l bs') (sym el) (subst (AreWithin ss' (lasts_before s ls)) (sym eb) less.0);
      lasts_len = omega (arith, n, l.0);
      blocks_len = omega (arith, m, l.1);
    }

-- items that changed places with others
pub record Traded {X : Type 0} (xs xs' f g : List X) (m stop : ℕ) : Type 0 where
  pub back : splice xs' m stop g ≡ xs
  pub len : length g ≡ length f
  pub within : stop ≤ length xs'

pub traded : {X : Type 0} (xs xs' f g : List X) (m n stop : ℕ) → n ≡ length f → m + n ≤ length xs → stop ≡ m + length f → xs' ≡ splice xs m (m + n) f → g ≡ take n (drop m xs) → Traded xs xs' f g m stop
traded xs xs' f g m n stop count within s e gone =
    let order : m ≤ m + n = omega arith in
    let part : g ≡ take (m + n - m) (drop m xs) = gone ∙ ap (λ k. take k (drop m xs)) (omega arith) in
    let a = length_spliced xs f m (m + n) order within in
    let long = ap length e in
    record {
      back = ap (λ l. splice l m stop g) e ∙ spliced_back xs f g m (m + n) stop order within s part;
      len = ap length part ∙ length_part xs m (m + n) order within ∙ omega (arith, count);
      within = omega (arith, a, long, count, s, within);
    }
