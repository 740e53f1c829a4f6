-- Spans of a cell that go into a piece together.
use Rattle.std.specs.Prelude.{◌≡◌, ℕ, zero, suc, ◌+◌, ◌-◌, ◌*◌, ◌<◌, ◌≤◌, nat_lt, Bool, true, false, ◌&&◌, List, [], ◌∷◌, ◌++◌, map, length, cond, Option, Some, Result, Err, if◌then◌else◌, refl}
use Rattle.std.proofs.Common.{sym, ap, subst, ◌∙◌, arith, ⊎_elim, get_or, take, drop}
use Rattle.std.proofs.lemmas.Bool.Decides.{nat_tests}
use Rattle.std.proofs.lemmas.List.{append-nil, take_more, take-append-drop}
use Rattle.std.specs.List.{AllByRecursion}
use Rattle.squall_span.specs.Spans.{Interval, Beyond, IsCanonical, IsSet, insert_span, hull}
use Rattle.squall_join.specs.Pairs.{pair_of}
use Rattle.squall_report.specs.Cells.{CellPlace}
use Rattle.squall_board.specs.Boards.{BoardValue, board_join, cell_board}
use Rattle.squall_board.specs.Listed.{entry_with, has_spans, IsCell}
use Rattle.squall_wire.specs.Limits.{body_limit}
use Rattle.squall_wire.specs.Messages.{BoardLists, lists_of}
use Rattle.squall_delta.specs.Items.{Item, loaded, items_of, item_board, with_items, items_board}
use Rattle.squall_delta.specs.Pieces.{body_length}
use Rattle.squall_delta.specs.Cutting.{CutBoard, cut_with, roomy, turned, put_item, fed, fed_all, FitsAlone, IsFed, HasTooLong, add_item, ItemBefore, ItemsRise, IsItem, AreNext, IsMeasured, span_bytes, has_some, last_place, is_last, item_cost}
use Rattle.squall_delta.specs.PieceCellLaws.{place_same, not_both}
use Rattle.squall_delta.specs.PieceListLaws.{lists_added, length_put, cell_fits}
use Rattle.squall_delta.specs.PieceItemLaws.{all_beyond, items_back, next_put}
use Rattle.squall_delta.specs.PieceRunLaws.{grows, is_within}
use Rattle.squall_delta.specs.PieceStepLaws.{IsFeeding, short_roomy, roomy_most, fits_alone, not_alone, first_too_long, second_too_long, fed_most, load_costs, load_last, next_room}
use Rattle.squall_delta.specs.PieceLaws.{with_joined}

-- ---- the spans are a set

first_beyond : (p : CellPlace) (s : Interval) (ss : List Interval) → AllByRecursion (ItemBefore (loaded p s)) (map (loaded p) ss) → Beyond s.hi ss
first_beyond p s [] h = tt
first_beyond p s (t ∷ ts) h = ⊎_elim (λ lt. absurd (not_both p p lt refl)) (λ g. g.beyond.0) h.0.0

pub set_of_items : (p : CellPlace) (ss : List Interval) → ItemsRise (map (loaded p) ss) → AllByRecursion IsItem (map (loaded p) ss) → IsSet ss
set_of_items p [] rise within = (tt, tt)
set_of_items p (s ∷ ss) rise within =
    let rest = set_of_items p ss rise.1 within.1 in
    ((within.0.1, first_beyond p s ss rise.0, rest.0), (within.0.2, rest.1))

pub run_is_set : (b : BoardValue) (p : CellPlace) (ss : List Interval) → AreNext b (map (loaded p) ss) → IsSet ss
run_is_set b p ss next = set_of_items p ss next.rise next.within

-- a span that comes after those of a set goes to the end
pub insert_at : (i : ℕ) (ss : List Interval) (s : Interval) → IsCanonical ss → i < length ss → s ≡ get_or ss i s → insert_span s (take i ss) ≡ take i ss ++ s ∷ []
insert_at i [] s is lt at = absurd (none i lt)
  where
    none : (i : ℕ) → i < 0 → ⊥
    none i lt = omega (arith, lt)
insert_at zero (t ∷ ts) s is lt at = refl
insert_at (suc i) (t ∷ ts) s is lt at =
    let some : s.lo < s.hi = some_at i ts s is.2 (omega (arith, lt)) at in
    let far : t.hi < s.lo = far_at i ts s (all_beyond t.hi ts is.1 is.2) (omega (arith, lt)) at in
    let one : t.lo < t.hi = is.0 in
    ap (λ (b : Bool). cond b (s ∷ t ∷ take i ts) (cond (nat_lt t.hi s.lo) (t ∷ insert_span s (take i ts)) (insert_span (hull s t) (take i ts)))) (later s.hi t.lo (omega (arith, some, far, one)))
    ∙ ap (λ (b : Bool). cond b (t ∷ insert_span s (take i ts)) (insert_span (hull s t) (take i ts))) (sooner t.hi s.lo far)
    ∙ ap (λ (l : List Interval). t ∷ l) (insert_at i ts s is.2 (omega (arith, lt)) at)
  where
    later : (x y : ℕ) → y ≤ x → nat_lt x y ≡ false
    later x y le = grind (arith, nat_tests)

    sooner : (x y : ℕ) → x < y → nat_lt x y ≡ true
    sooner x y lt = grind (arith, nat_tests)

    some_at : (i : ℕ) (ss : List Interval) (s : Interval) → IsCanonical ss → i < length ss → s ≡ get_or ss i s → s.lo < s.hi
    some_at i [] s is lt at = absurd (none i lt)
      where
        none : (i : ℕ) → i < 0 → ⊥
        none i lt = omega (arith, lt)
    some_at zero (t ∷ ts) s is lt at = subst (λ (x : Interval). x.lo < x.hi) (sym at) is.0
    some_at (suc i) (t ∷ ts) s is lt at = some_at i ts s is.2 (omega (arith, lt)) at

    far_at : {h : ℕ} (i : ℕ) (ss : List Interval) (s : Interval) → AllByRecursion (λ t. h < t.lo) ss → i < length ss → s ≡ get_or ss i s → h < s.lo
    far_at i [] s all lt at = absurd (none i lt)
      where
        none : (i : ℕ) → i < 0 → ⊥
        none i lt = omega (arith, lt)
    far_at {h} zero (t ∷ ts) s all lt at = subst (λ (x : Interval). h < x.lo) (sym at) all.0
    far_at (suc i) (t ∷ ts) s all lt at = far_at i ts s all.1 (omega (arith, lt)) at

-- the set with one span more
pub set_more : (ss : List Interval) (i : ℕ) (s : Interval) (old new : List Interval) → IsCanonical ss → i < length ss → s ≡ get_or ss i s → old ≡ take i ss → new ≡ insert_span s old → new ≡ take (i + 1) ss
set_more ss i s old new is lt at e put =
    put
    ∙ ap (insert_span s) e
    ∙ insert_at i ss s is lt at
    ∙ ap (λ (v : Interval). take i ss ++ v ∷ []) at
    ∙ sym (take_more ss i s lt)

-- ---- the cell of them

some_spans : (ss : List Interval) → 0 < length ss → has_spans ss ≡ true
some_spans [] lt = absurd (none lt)
  where
    none : 0 < 0 → ⊥
    none lt = omega (arith, lt)
some_spans (s ∷ ss) lt = refl

pub run_is_cell : (b : BoardValue) (p : CellPlace) (ss : List Interval) → AreNext b (map (loaded p) ss) → 0 < length ss → IsCell (entry_with p false ss)
run_is_cell b p [] next some = absurd (none some)
  where
    none : 0 < 0 → ⊥
    none lt = omega (arith, lt)
run_is_cell b p (s ∷ ss) next some = record { entry = ap (λ (a : Bool). a && true) next.within.0.0; spans = run_is_set b p (s ∷ ss) next }

-- the board of the spans, one after the other, is the board of their cell
run_board : (b : BoardValue) (p : CellPlace) (ss : List Interval) → AreNext b (map (loaded p) ss) → 0 < length ss → items_board (map (loaded p) ss) ≡ cell_board p (pair_of ss false)
run_board b p ss next some =
    let is = cell_fits (entry_with p false ss) (run_is_cell b p ss next some) in
    let own : items_of (cell_board p (pair_of ss false)) ≡ map (loaded p) ss = append-nil (map (loaded p) ss) in
    ap items_board (sym own) ∙ items_back (cell_board p (pair_of ss false)) is

pub run_joined : (b : BoardValue) (p : CellPlace) (ss : List Interval) → AreNext b (map (loaded p) ss) → 0 < length ss → board_join b (cell_board p (pair_of ss false)) ≡ with_items b (map (loaded p) ss)
run_joined b p ss next some = ap (board_join b) (sym (run_board b p ss next some)) ∙ sym (with_joined b (map (loaded p) ss) next.board.nested next.within)

-- ---- how long the body is with them

put_one : (b : BoardValue) (n : ℕ) (h : Bool) (l : Option CellPlace) (p : CellPlace) (s : Interval) (is : List Item) → IsMeasured b n h l → AreNext b (loaded p s ∷ is) → n + span_bytes (is_last l p) ≤ body_limit → IsMeasured (board_join b (item_board (loaded p s))) (n + span_bytes (is_last l p)) h (Some p)
put_one b n h l p s is m next fits =
    let lists : lists_of (board_join b (item_board (loaded p s))) ≡ add_item (lists_of b) (loaded p s) = lists_added b (loaded p s) next.board next.within.0 next.after.0 in
    let long : body_length (board_join b (item_board (loaded p s))) ≡ body_length b + item_cost (lists_of b) (loaded p s) = length_put b (loaded p s) next.board next.within.0 next.after.0 in
    let only : AreNext b (loaded p s ∷ []) = record { board = next.board; after = (next.after.0, tt); rise = (tt, tt); within = (next.within.0, tt) } in
    record {
      length = sum n (span_bytes (is_last l p)) (body_length b) (item_cost (lists_of b) (loaded p s)) (body_length (board_join b (item_board (loaded p s)))) m.length (load_costs b p s l m.last) long;
      short = fits;
      issues = m.issues ∙ sym (ap (λ (d : BoardLists). has_some d.issues) lists);
      last = load_last b p s only ∙ sym (ap (λ (d : BoardLists). last_place d.cells) lists);
    }
  where
    sum : (n m a b t : ℕ) → n ≡ a → m ≡ b → t ≡ a + b → n + m ≡ t
    sum n m a b t x y z = omega (arith, x, y, z)

put_more : (b : BoardValue) (n : ℕ) (h : Bool) (p : CellPlace) (ss : List Interval) → IsMeasured b n h (Some p) → AreNext b (map (loaded p) ss) → n + 16 * length ss ≤ body_limit → IsMeasured (with_items b (map (loaded p) ss)) (n + 16 * length ss) h (Some p)
put_more b n h p [] m next fits = subst (λ (k : ℕ). IsMeasured b k h (Some p)) (none n) m
  where
    none : (n : ℕ) → n ≡ n + 16 * 0
    none n = omega arith
put_more b n h p (s ∷ ss) m next fits =
    let cost : span_bytes (is_last (Some p) p) ≡ 16 = ap span_bytes (place_same p p refl) in
    let one : IsMeasured (board_join b (item_board (loaded p s))) (n + 16) h (Some p) = subst (λ (k : ℕ). IsMeasured (board_join b (item_board (loaded p s))) (n + k) h (Some p)) cost (put_one b n h (Some p) p s (map (loaded p) ss) m next (subst (λ (k : ℕ). n + k ≤ body_limit) (sym cost) (first n (length ss) fits))) in
    subst (λ (k : ℕ). IsMeasured (with_items b (map (loaded p) (s ∷ ss))) k h (Some p)) (more n (length ss)) (put_more (board_join b (item_board (loaded p s))) (n + 16) h p ss one (next_put b (loaded p s) (map (loaded p) ss) next) (subst (λ (k : ℕ). k ≤ body_limit) (sym (more n (length ss))) fits))
  where
    first : (n k : ℕ) → n + 16 * suc k ≤ body_limit → n + 16 ≤ body_limit
    first n k le = omega (arith, le)

    more : (n k : ℕ) → (n + 16) + 16 * k ≡ n + 16 * suc k
    more n k = omega arith

-- what is known of the body with all of them
pub run_measured : (b : BoardValue) (n : ℕ) (h : Bool) (l : Option CellPlace) (p : CellPlace) (ss : List Interval) → IsMeasured b n h l → AreNext b (map (loaded p) ss) → 0 < length ss → n + (span_bytes (is_last l p) + 16 * (length ss - 1)) ≤ body_limit
    → IsMeasured (with_items b (map (loaded p) ss)) (n + (span_bytes (is_last l p) + 16 * (length ss - 1))) h (Some p)
run_measured b n h l p [] m next some fits = absurd (none some)
  where
    none : 0 < 0 → ⊥
    none lt = omega (arith, lt)
run_measured b n h l p (s ∷ ss) m next some fits =
    let t : ℕ = span_bytes (is_last l p) in
    let one = put_one b n h l p s (map (loaded p) ss) m next (first n t (length ss) fits) in
    subst (λ (k : ℕ). IsMeasured (with_items b (map (loaded p) (s ∷ ss))) k h (Some p)) (more n t (length ss)) (put_more (board_join b (item_board (loaded p s))) (n + t) h p ss one (next_put b (loaded p s) (map (loaded p) ss) next) (subst (λ (k : ℕ). k ≤ body_limit) (sym (more n t (length ss))) fits))
  where
    first : (n t k : ℕ) → n + (t + 16 * (suc k - 1)) ≤ body_limit → n + t ≤ body_limit
    first n t k le = omega (arith, le)

    more : (n t k : ℕ) → (n + t) + 16 * k ≡ n + (t + 16 * (suc k - 1))
    more n t k = omega arith

-- ---- what is fed

le_trans : (a b c : ℕ) → a ≤ b → b ≤ c → a ≤ c
le_trans a b c x y = omega (arith, x, y)

-- items that have room together go into one piece
run_fed : (t : ℕ) (f : List BoardValue) (b : BoardValue) (is : List Item) → AreNext b is → body_length (with_items b is) ≤ t → fed_all (cut_with t f b) is ≡ cut_with t f (with_items b is)
run_fed t f b [] next fits = refl
run_fed t f b (i ∷ is) next fits =
    let rest = next_put b i is next in
    ap (λ (v : Bool). fed_all (put_item (if v then turned (cut_with t f b) else cut_with t f b) i) is) (is_within t (body_length (board_join b (item_board i))) (le_trans (body_length (board_join b (item_board i))) (body_length (with_items (board_join b (item_board i)) is)) t (grows (board_join b (item_board i)) is rest) fits))
    ∙ run_fed t f (board_join b (item_board i)) is rest fits

-- each span alone has room, or none has
pub spans_alone : (t : ℕ) (p : CellPlace) (ss : List Interval) → AllByRecursion IsItem (map (loaded p) ss) → 41 ≤ t → AllByRecursion (FitsAlone t) (map (loaded p) ss)
spans_alone t p [] within le = tt
spans_alone t p (s ∷ ss) within le = (fits_alone t 33 (loaded p s) within.0 refl le, spans_alone t p ss within.1 le)

pub span_too_long : (t : ℕ) (b : BoardValue) (p : CellPlace) (ss : List Interval) → AreNext b (map (loaded p) ss) → 0 < length ss → t < 41 → HasTooLong t (map (loaded p) ss)
span_too_long t b p [] next some lt = absurd (none some)
  where
    none : 0 < 0 → ⊥
    none lt = omega (arith, lt)
span_too_long t b p (s ∷ ss) next some lt = first_too_long t (loaded p s ∷ []) (map (loaded p) ss) (not_alone t 33 (loaded p s) next.within.0 refl lt (omega arith))

pub run_step : (t : ℕ) (f : List BoardValue) (b q : BoardValue) (n : ℕ) (h : Bool) (l : Option CellPlace) (p : CellPlace) (ss : List Interval) → t ≤ body_limit → 41 ≤ t → IsMeasured b n h l → AreNext b (map (loaded p) ss) → 0 < length ss → n + (span_bytes (is_last l p) + 16 * (length ss - 1)) ≤ t → q ≡ board_join b (cell_board p (pair_of ss false))
    → IsFed (cut_with t f b) (cut_with t f q) (map (loaded p) ss) × IsMeasured q (n + (span_bytes (is_last l p) + 16 * (length ss - 1))) h (Some p)
run_step t f b q n h l p ss limit room m next some fits put =
    let made : q ≡ with_items b (map (loaded p) ss) = put ∙ run_joined b p ss next some in
    let known = run_measured b n h l p ss m next some (le_trans (n + (span_bytes (is_last l p) + 16 * (length ss - 1))) t body_limit fits limit) in
    let short : body_length (with_items b (map (loaded p) ss)) ≤ t = subst (λ (k : ℕ). k ≤ t) known.length fits in (
      record { fed = ap (cut_with t f) made ∙ sym (run_fed t f b (map (loaded p) ss) next short); alone = spans_alone t p ss next.within room },
      subst (λ (v : BoardValue). IsMeasured v (n + (span_bytes (is_last l p) + 16 * (length ss - 1))) h (Some p)) (sym made) known,
    )

-- ---- after room was made for the first

-- the piece has room for a span
pub has_room : (t0 t1 : ℕ) (f0 f1 : List BoardValue) (p0 p1 : BoardValue) (n0 n1 : ℕ) (h0 h1 : Bool) (l0 l1 : Option CellPlace) (p : CellPlace) (ss : List Interval) → 41 ≤ t0 → cut_with t1 f1 p1 ≡ roomy (cut_with t0 f0 p0) (n0 + span_bytes (is_last l0 p)) → IsMeasured p0 n0 h0 l0 → IsMeasured p1 n1 h1 l1 → AreNext p0 (map (loaded p) ss) → 0 < length ss
    → (n1 + span_bytes (is_last l1 p) ≤ t1) × IsFeeding (cut_with t0 f0 p0) (cut_with t1 f1 p1) (map (loaded p) ss) (map (loaded p) ss)
has_room t0 t1 f0 f1 p0 p1 n0 n1 h0 h1 l0 l1 p [] wide room m0 m1 next some = absurd (none some)
  where
    none : 0 < 0 → ⊥
    none lt = omega (arith, lt)
has_room t0 t1 f0 f1 p0 p1 n0 n1 h0 h1 l0 l1 p (s ∷ ss) wide room m0 m1 next some =
    let i : Item = loaded p s in
    let same : t1 ≡ t0 = ap (λ (c : CutBoard). c.most) room ∙ roomy_most (cut_with t0 f0 p0) (n0 + span_bytes (is_last l0 p)) in
    let next1 : AreNext p1 (map (loaded p) (s ∷ ss)) = next_room t0 t1 f0 f1 p0 p1 (n0 + span_bytes (is_last l0 p)) (map (loaded p) (s ∷ ss)) room next in
    let piece : p1 ≡ (roomy (cut_with t0 f0 p0) (n0 + span_bytes (is_last l0 p))).piece = ap (λ (c : CutBoard). c.piece) room in
    let first : body_length (board_join p0 (item_board i)) ≡ n0 + span_bytes (is_last l0 p) = total p0 n0 h0 l0 m0 next in
    let short0 : body_length (board_join p1 (item_board i)) ≤ t0 = subst (λ (b : BoardValue). body_length (board_join b (item_board i)) ≤ t0) (sym piece) (short_roomy t0 f0 p0 i (n0 + span_bytes (is_last l0 p)) first (fits_alone t0 33 i next.within.0 refl wide)) in
    let short : body_length (board_join p1 (item_board i)) ≤ t1 = subst (λ (k : ℕ). body_length (board_join p1 (item_board i)) ≤ k) (sym same) short0 in
    let again : fed (cut_with t1 f1 p1) i ≡ fed (cut_with t0 f0 p0) i =
    ap (λ (v : Bool). put_item (if v then turned (cut_with t1 f1 p1) else cut_with t1 f1 p1) i) (is_within t1 (body_length (board_join p1 (item_board i))) short)
    ∙ ap (λ (c : CutBoard). put_item c i) room
    ∙ ap (λ (k : ℕ). put_item (roomy (cut_with t0 f0 p0) k) i) (sym first) in (
      subst (λ (k : ℕ). k ≤ t1) (total p1 n1 h1 l1 m1 next1) short,
      record { most = same; fed = ap (λ (c : CutBoard). fed_all c (map (loaded p) ss)) again; next = next1; there = λ h. h; back = λ h. h },
    )
  where
    sum : (n m a b t : ℕ) → n ≡ a → m ≡ b → t ≡ a + b → t ≡ n + m
    sum n m a b t x y z = omega (arith, x, y, z)

    total : (b : BoardValue) (n : ℕ) (h : Bool) (l : Option CellPlace) → IsMeasured b n h l → AreNext b (map (loaded p) (s ∷ ss)) → body_length (board_join b (item_board (loaded p s))) ≡ n + span_bytes (is_last l p)
    total b n h l m next = sum n (span_bytes (is_last l p)) (body_length b) (item_cost (lists_of b) (loaded p s)) (body_length (board_join b (item_board (loaded p s)))) m.length (load_costs b p s l m.last) (length_put b (loaded p s) next.board next.within.0 next.after.0)

-- the items of spans in two parts
map_parts : (p : CellPlace) (ss rs ts : List Interval) → ss ≡ rs ++ ts → map (loaded p) ss ≡ map (loaded p) rs ++ map (loaded p) ts
map_parts p ss rs ts e = ap (map (loaded p)) e ∙ both rs
  where
    both : (rs : List Interval) → map (loaded p) (rs ++ ts) ≡ map (loaded p) rs ++ map (loaded p) ts
    both [] = refl
    both (r ∷ rs) = ap (λ (l : List Item). loaded p r ∷ l) (both rs)

pub map_split : (p : CellPlace) (n : ℕ) (ss rs ts : List Interval) → rs ≡ take n ss → ts ≡ drop n ss → map (loaded p) ss ≡ map (loaded p) rs ++ map (loaded p) ts
map_split p n ss rs ts a b = map_parts p ss rs ts (sym (take-append-drop n ss) ∙ ap (λ (l : List Interval). l ++ drop n ss) (sym a) ∙ ap (λ (l : List Interval). rs ++ l) (sym b))

-- one part after another
pub feeding_then : (a b c : CutBoard) (xs ys zs : List Item) → IsFeeding a b xs ys → IsFeeding b c ys zs → IsFeeding a c xs zs
feeding_then a b c xs ys zs f g = record {
  most = g.most ∙ f.most;
  fed = g.fed ∙ f.fed;
  next = g.next;
  there = λ h. f.there (subst (λ m. AllByRecursion (FitsAlone m) ys) f.most (g.there (subst (λ m. AllByRecursion (FitsAlone m) zs) (sym f.most) h)));
  back = λ h. subst (λ m. AllByRecursion (FitsAlone m) zs) f.most (g.back (subst (λ m. AllByRecursion (FitsAlone m) ys) (sym f.most) (f.back h)));
}

-- no spans have no items
pub none_left : (p : CellPlace) (ss : List Interval) → length ss ≡ 0 → map (loaded p) ss ≡ []
none_left p [] e = refl
none_left p (s ∷ ss) e = absurd (some (length ss) e)
  where
    some : (n : ℕ) → suc n ≡ 0 → ⊥
    some n e = omega (arith, e)

-- the fault of a step that is passed on
pub passed_on : {A B E : Type 0} (r : Result A E) (s : Result B E) (x y e : E) → r ≡ Err x → s ≡ Err y → y ≡ x → s ≡ Err e → r ≡ Err e
passed_on r s x y e p q same is = cc

-- after the first items were put, one of the others is too long
pub after_too_long : (c d : CutBoard) (xs ys : List Item) → IsFed c d xs → HasTooLong d.most ys → HasTooLong c.most (xs ++ ys)
after_too_long c d xs ys step long = second_too_long c.most xs ys (subst (λ m. HasTooLong m ys) (ap (λ (e : CutBoard). e.most) step.fed ∙ fed_most c xs) long)
