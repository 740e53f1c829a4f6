-- What one step of cutting leaves.
use Rattle.std.specs.Prelude.{◌≡◌, ℕ, suc, ◌+◌, ◌*◌, ◌<◌, ◌≤◌, nat_lt, Bool, true, false, List, [], ◌∷◌, ◌++◌, map, length, Option, Some, if◌then◌else◌, refl}
use Rattle.std.proofs.Common.{sym, ap, subst, ◌∙◌, arith, length-append, get_or, drop}
use Rattle.std.proofs.lemmas.List.{drop_more, drop_all}
use Rattle.std.proofs.lemmas.Bool.Decides.{nat_tests}
use Rattle.std.specs.List.{flat_map, AllByRecursion}
use Rattle.squall_span.specs.Spans.{Interval}
use Rattle.squall_join.specs.declared.flat.Flat.{Flat}
use Rattle.squall_plan.specs.declared.range.PlanRange.{PlanRange}
use Rattle.squall_report.specs.Issues.{PlanPair}
use Rattle.squall_report.specs.Cells.{CellPlace}
use Rattle.squall_board.specs.Boards.{BoardValue, empty_board, board_join}
use Rattle.squall_board.specs.Listed.{cells_of, issues_of}
use Rattle.squall_board.specs.declared.opening.Opening.{Opening}
use Rattle.squall_wire.specs.Limits.{body_limit}
use Rattle.squall_wire.specs.Messages.{BoardLists, lists_of}
use Rattle.squall_wire.specs.Spelling.{spell_range, spell_plan, spell_issue, spell_issued}
use Rattle.squall_delta.specs.Items.{Item, issue, done, loaded, item_board}
use Rattle.squall_delta.specs.Pieces.{body_length}
use Rattle.squall_delta.specs.Cutting.{CutBoard, cut_with, turned, roomy, put_item, fed, fed_all, FitsAlone, IsFed, HasTooLong, longest_bytes, add_item, no_lists, ItemBefore, ItemsRise, IsItem, AreNext, IsMeasured, done_entry, span_entry, has_some, last_place, is_last, cell_cost, issue_cost, span_bytes, item_cost}
use Rattle.squall_delta.specs.PieceCellLaws.{last_added}
use Rattle.squall_delta.specs.PieceListLaws.{lists_added, length_put, follow_done}
use Rattle.squall_delta.specs.PieceItemLaws.{next_put, next_first}
use Rattle.squall_delta.specs.PieceRunLaws.{done_is_new}

-- ---- what may come next

pub next_roomy : (c : CutBoard) (n : ℕ) (is : List Item) → AreNext c.piece is → AreNext (roomy c n).piece is
next_roomy c n is next = elim (nat_lt c.most n) as (λ b. AreNext (if b then turned c else c).piece is) [ true ↦ next_first is next.rise next.within | false ↦ next ]

-- after the first of the items the others may come
pub next_fed : (c : CutBoard) (i : Item) (is : List Item) → AreNext c.piece (i ∷ is) → AreNext (fed c i).piece is
next_fed c i is next = next_put (roomy c (body_length (board_join c.piece (item_board i)))).piece i is (next_roomy c (body_length (board_join c.piece (item_board i))) (i ∷ is) next)

pub next_fed_all : (c : CutBoard) (xs ys : List Item) → AreNext c.piece (xs ++ ys) → AreNext (fed_all c xs).piece ys
next_fed_all c [] ys next = next
next_fed_all c (x ∷ xs) ys next = next_fed_all (fed c x) xs ys (next_fed c x (xs ++ ys) next)

pub fed_append : (c : CutBoard) (xs ys : List Item) → fed_all c (xs ++ ys) ≡ fed_all (fed_all c xs) ys
fed_append c [] ys = refl
fed_append c (x ∷ xs) ys = fed_append (fed c x) xs ys

-- the first items of those that may come
pub next_begin : (b : BoardValue) (xs ys : List Item) → AreNext b (xs ++ ys) → AreNext b xs
next_begin b xs ys next = record { board = next.board; after = all_begin _ xs ys next.after; rise = rise_begin xs ys next.rise; within = all_begin IsItem xs ys next.within }
  where
    all_begin : (P : Item → Type 0) (xs ys : List Item) → AllByRecursion P (xs ++ ys) → AllByRecursion P xs
    all_begin P [] ys h = tt
    all_begin P (x ∷ xs) ys h = (h.0, all_begin P xs ys h.1)

    rise_begin : (xs ys : List Item) → ItemsRise (xs ++ ys) → ItemsRise xs
    rise_begin [] ys h = tt
    rise_begin (x ∷ xs) ys h = (all_begin (ItemBefore x) xs ys h.0, rise_begin xs ys h.1)

-- ---- the limit stays

pub roomy_most : (c : CutBoard) (n : ℕ) → (roomy c n).most ≡ c.most
roomy_most c n = elim (nat_lt c.most n) as (λ b. (if b then turned c else c).most ≡ c.most) [ true ↦ refl | false ↦ refl ]

pub fed_most : (c : CutBoard) (is : List Item) → (fed_all c is).most ≡ c.most
fed_most c [] = refl
fed_most c (i ∷ is) = fed_most (fed c i) is ∙ roomy_most c (body_length (board_join c.piece (item_board i)))

-- ---- an item alone

-- how long its body is
alone_bytes : (i : Item) → IsItem i → body_length (board_join empty_board (item_board i)) ≡ 8 + item_cost no_lists i
alone_bytes i within =
    let next = next_first (i ∷ []) (tt, tt) (within, tt) in
    length_put empty_board i next.board within next.after.0

-- it fits if the limit has room for so many bytes
pub fits_alone : (most k : ℕ) (i : Item) → IsItem i → item_cost no_lists i ≡ k → 8 + k ≤ most → FitsAlone most i
fits_alone most k i within cost le = short (body_length (board_join empty_board (item_board i))) (item_cost no_lists i) (alone_bytes i within) cost
  where
    short : (n m : ℕ) → n ≡ 8 + m → m ≡ k → n ≤ most
    short n m e f = omega (arith, e, f, le)

-- and else it is too long
pub not_alone : (most k : ℕ) (i : Item) → IsItem i → item_cost no_lists i ≡ k → most < 8 + k → k ≤ 98321 → HasTooLong most (i ∷ [])
not_alone most k i within cost lt few = record {
  some = λ h. neither (body_length (board_join empty_board (item_board i))) (item_cost no_lists i) (alone_bytes i within) cost h.0;
  low = below k lt few;
}
  where
    neither : (n m : ℕ) → n ≡ 8 + m → m ≡ k → n ≤ most → ⊥
    neither n m e f le = omega (arith, e, f, le, lt)

    below : (k : ℕ) → most < 8 + k → k ≤ 98321 → most < longest_bytes
    below k lt few = omega (arith, lt, few)

issue_length : (e : ℕ × Flat PlanPair) → length (spell_issue e) ≡ 4 + length (spell_issued e.1)
issue_length e = four (length (spell_issued e.1))
  where
    four : (n : ℕ) → suc (suc (suc (suc n))) ≡ 4 + n
    four n = omega arith

-- what an issue adds to a body without issues
pub issue_cost_alone : (e : ℕ × Flat PlanPair) (n : ℕ) → n ≡ 4 + length (spell_issued e.1) → item_cost no_lists (issue e) ≡ n + 4
issue_cost_alone e n is = ap (λ m. m + 4) (issue_length e ∙ sym is)

-- ---- a step

-- the state after room was made and the item put
pub fed_step : (t0 t1 : ℕ) (f0 f1 : List BoardValue) (p0 p1 q : BoardValue) (i : Item) (n m : ℕ) → cut_with t1 f1 p1 ≡ roomy (cut_with t0 f0 p0) (n + m) → n ≡ body_length p0 → m ≡ item_cost (lists_of p0) i → AreNext p0 (i ∷ []) → q ≡ board_join p1 (item_board i) → FitsAlone t0 i → IsFed (cut_with t0 f0 p0) (cut_with t1 f1 q) (i ∷ [])
fed_step t0 t1 f0 f1 p0 p1 q i n m room e k next put alone = record {
  fed = ap (cut_with t1 f1) put
      ∙ ap (λ c. put_item c i) room
      ∙ ap (λ l. put_item (roomy (cut_with t0 f0 p0) l) i) (sum n m (body_length p0) (item_cost (lists_of p0) i) (body_length (board_join p0 (item_board i))) e k (length_put p0 i next.board next.within.0 next.after.0));
  alone = (alone, tt);
}
  where
    sum : (n m a b t : ℕ) → n ≡ a → m ≡ b → t ≡ a + b → n + m ≡ t
    sum n m a b t x y z = omega (arith, x, y, z)

pub short_roomy : (t0 : ℕ) (f0 : List BoardValue) (p0 : BoardValue) (i : Item) (n : ℕ) → body_length (board_join p0 (item_board i)) ≡ n → FitsAlone t0 i → body_length (board_join (roomy (cut_with t0 f0 p0) n).piece (item_board i)) ≤ t0
short_roomy t0 f0 p0 i n e alone = elim (nat_lt t0 n) as (λ b. nat_lt t0 n ≡ b → body_length (board_join (if b then turned (cut_with t0 f0 p0) else cut_with t0 f0 p0).piece (item_board i)) ≤ t0) [
  | true ↦ λ t. alone
  | false ↦ λ t. subst (λ v. v ≤ t0) (sym e) (within_limit n t)
] refl
  where
    within_limit : (n : ℕ) → nat_lt t0 n ≡ false → n ≤ t0
    within_limit n e = grind (arith, nat_tests)

-- what is known of the body after room was made and the item put
pub measured_step : (t0 t1 : ℕ) (f0 f1 : List BoardValue) (p0 p1 q : BoardValue) (i : Item) (n m n1 m1 : ℕ) (h1 h : Bool) (l1 l : Option CellPlace)
    → t0 ≤ body_limit → cut_with t1 f1 p1 ≡ roomy (cut_with t0 f0 p0) (n + m) → n ≡ body_length p0 → m ≡ item_cost (lists_of p0) i → AreNext p0 (i ∷ []) → q ≡ board_join p1 (item_board i)
    → IsMeasured p1 n1 h1 l1 → m1 ≡ item_cost (lists_of p1) i → FitsAlone t0 i → h ≡ has_some (add_item (lists_of p1) i).issues → l ≡ last_place (add_item (lists_of p1) i).cells → IsMeasured q (n1 + m1) h l
measured_step t0 t1 f0 f1 p0 p1 q i n m n1 m1 h1 h l1 l limit room e k next put old cost alone issues last =
    let piece : p1 ≡ (roomy (cut_with t0 f0 p0) (n + m)).piece = ap (λ (c : CutBoard). c.piece) room in
    let next1 : AreNext p1 (i ∷ []) = subst (λ b. AreNext b (i ∷ [])) (sym piece) (next_roomy (cut_with t0 f0 p0) (n + m) (i ∷ []) next) in
    let long : body_length (board_join p1 (item_board i)) ≡ body_length p1 + item_cost (lists_of p1) i = length_put p1 i next1.board next1.within.0 next1.after.0 in
    let total : n1 + m1 ≡ body_length (board_join p1 (item_board i)) = sum n1 m1 (body_length p1) (item_cost (lists_of p1) i) (body_length (board_join p1 (item_board i))) old.length cost long in
    let lists : lists_of (board_join p1 (item_board i)) ≡ add_item (lists_of p1) i = lists_added p1 i next1.board next1.within.0 next1.after.0 in
    let first : body_length (board_join p0 (item_board i)) ≡ n + m = sym (sum n m (body_length p0) (item_cost (lists_of p0) i) (body_length (board_join p0 (item_board i))) e k (length_put p0 i next.board next.within.0 next.after.0)) in
    subst (λ b. IsMeasured b (n1 + m1) h l) (sym put) (record {
      length = total;
      short = under (n1 + m1) t0 (subst (λ v. v ≤ t0) (sym total) (subst (λ b. body_length (board_join b (item_board i)) ≤ t0) (sym piece) (short_roomy t0 f0 p0 i (n + m) first alone))) limit;
      issues = issues ∙ sym (ap (λ (d : BoardLists). has_some d.issues) lists);
      last = last ∙ sym (ap (λ (d : BoardLists). last_place d.cells) lists);
    })
  where
    under : (n t : ℕ) → n ≤ t → t ≤ body_limit → n ≤ body_limit
    under n t x y = omega (arith, x, y)

    sum : (n m a b t : ℕ) → n ≡ a → m ≡ b → t ≡ a + b → n + m ≡ t
    sum n m a b t x y z = omega (arith, x, y, z)

-- ---- what the items cost

pub issue_costs : (b : BoardValue) (e : ℕ × Flat PlanPair) (h : Bool) (n : ℕ) → h ≡ has_some (issues_of b) → n ≡ 4 + length (spell_issued e.1) → issue_cost h n ≡ item_cost (lists_of b) (issue e)
issue_costs b e h n x y = ap (λ t. issue_cost t n) x ∙ ap (issue_cost (has_some (issues_of b))) (y ∙ sym (issue_length e))

pub some_issue : (es : List (ℕ × Flat PlanPair)) (e : ℕ × Flat PlanPair) → true ≡ has_some (es ++ e ∷ [])
some_issue [] e = refl
some_issue (x ∷ xs) e = refl

pub done_costs : (b : BoardValue) (c : CellPlace) → AreNext b (done c ∷ []) → 17 ≡ item_cost (lists_of b) (done c)
done_costs b c next = ap (λ t. cell_cost t (done_entry c)) (sym (done_is_new (cells_of b) c next.after.0))

load_cost : (t : Bool) (c : CellPlace) (s : Interval) → span_bytes t ≡ cell_cost t (span_entry c s)
load_cost true c s = refl
load_cost false c s = refl

pub load_costs : (b : BoardValue) (c : CellPlace) (s : Interval) (l : Option CellPlace) → l ≡ last_place (cells_of b) → span_bytes (is_last l c) ≡ item_cost (lists_of b) (loaded c s)
load_costs b c s l e = load_cost (is_last l c) c s ∙ ap (λ v. cell_cost (is_last v c) (span_entry c s)) e

pub done_last : (b : BoardValue) (c : CellPlace) → AreNext b (done c ∷ []) → Some c ≡ last_place (add_item (lists_of b) (done c)).cells
done_last b c next = sym (last_added (cells_of b) (done_entry c) (follow_done (cells_of b) c next.after.0))

pub load_last : (b : BoardValue) (c : CellPlace) (s : Interval) → AreNext b (loaded c s ∷ []) → Some c ≡ last_place (add_item (lists_of b) (loaded c s)).cells
load_last b c s next = sym (last_added (cells_of b) (span_entry c s) next.after.0)

-- what may come to the piece that has room
pub next_room : (t0 t1 : ℕ) (f0 f1 : List BoardValue) (p0 p1 : BoardValue) (n : ℕ) (is : List Item) → cut_with t1 f1 p1 ≡ roomy (cut_with t0 f0 p0) n → AreNext p0 is → AreNext p1 is
next_room t0 t1 f0 f1 p0 p1 n is room next = subst (λ b. AreNext b is) (sym (ap (λ (c : CutBoard). c.piece) room)) (next_roomy (cut_with t0 f0 p0) n is next)

-- a plan has its count and 12 bytes for each range
pub plan_length : (rs : List PlanRange) → 4 + 12 * length rs ≡ length (spell_plan rs)
plan_length rs = ap (λ n. 4 + n) (ranges rs) ∙ sym (four (length (flat_map spell_range rs)))
  where
    four : (n : ℕ) → suc (suc (suc (suc n))) ≡ 4 + n
    four n = omega arith

    more : (n m : ℕ) → 12 * n ≡ m → 12 * suc n ≡ 12 + m
    more n m e = omega (arith, e)

    twelve : (r : PlanRange) (rs : List PlanRange) → 12 + length (flat_map spell_range rs) ≡ length (flat_map spell_range (r ∷ rs))
    twelve r rs = sym (length-append (spell_range r) (flat_map spell_range rs))

    ranges : (rs : List PlanRange) → 12 * length rs ≡ length (flat_map spell_range rs)
    ranges [] = refl
    ranges (r ∷ rs) = more (length rs) (length (flat_map spell_range rs)) (ranges rs) ∙ twelve r rs

-- ---- one item after another

all_both : (P : Item → Type 0) (xs ys : List Item) → AllByRecursion P xs → AllByRecursion P ys → AllByRecursion P (xs ++ ys)
all_both P [] ys h k = k
all_both P (x ∷ xs) ys h k = (h.0, all_both P xs ys h.1 k)

all_first : (P : Item → Type 0) (xs ys : List Item) → AllByRecursion P (xs ++ ys) → AllByRecursion P xs
all_first P [] ys h = tt
all_first P (x ∷ xs) ys h = (h.0, all_first P xs ys h.1)

all_second : (P : Item → Type 0) (xs ys : List Item) → AllByRecursion P (xs ++ ys) → AllByRecursion P ys
all_second P [] ys h = h
all_second P (x ∷ xs) ys h = all_second P xs ys h.1

-- nothing is put
pub none_fed : (c : CutBoard) → IsFed c c []
none_fed c = record { fed = refl; alone = tt }

-- items and then others are put
pub both_fed : (a b c : CutBoard) (xs ys : List Item) → IsFed a b xs → IsFed b c ys → IsFed a c (xs ++ ys)
both_fed a b c xs ys f g = record {
  fed = g.fed ∙ ap (λ (d : CutBoard). fed_all d ys) f.fed ∙ sym (fed_append a xs ys);
  alone = all_both (FitsAlone a.most) xs ys f.alone (subst (λ m. AllByRecursion (FitsAlone m) ys) (ap (λ (d : CutBoard). d.most) f.fed ∙ fed_most a xs) g.alone);
}

-- one of the first items is too long, or one of the others
pub first_too_long : (most : ℕ) (xs ys : List Item) → HasTooLong most xs → HasTooLong most (xs ++ ys)
first_too_long most xs ys long = record { some = λ h. long.some (all_first (FitsAlone most) xs ys h); low = long.low }

pub second_too_long : (most : ℕ) (xs ys : List Item) → HasTooLong most ys → HasTooLong most (xs ++ ys)
second_too_long most xs ys long = record { some = λ h. long.some (all_second (FitsAlone most) xs ys h); low = long.low }

-- what is fed: from the start to now some of all the items, each of which fits alone, and these are left
pub record IsFeeding (start now : CutBoard) (all left : List Item) : Type 0 where
  pub most : now.most ≡ start.most
  pub fed : fed_all now left ≡ fed_all start all
  pub next : AreNext now.piece left
  pub there : AllByRecursion (FitsAlone start.most) left → AllByRecursion (FitsAlone start.most) all
  pub back : AllByRecursion (FitsAlone start.most) all → AllByRecursion (FitsAlone start.most) left

pub feeding_starts : (c : CutBoard) (all : List Item) → AreNext c.piece all → IsFeeding c c all all
feeding_starts c all next = record { most = refl; fed = refl; next = next; there = λ h. h; back = λ h. h }

pub feeding_ends : (start now : CutBoard) (all left : List Item) → left ≡ [] → IsFeeding start now all left → IsFed start now all
feeding_ends start now all left none f = record {
  fed = sym (ap (fed_all now) none) ∙ f.fed;
  alone = f.there (subst (AllByRecursion (FitsAlone start.most)) (sym none) tt);
}

pub feeding_next : (start now : CutBoard) (all left xs rest : List Item) → left ≡ xs ++ rest → IsFeeding start now all left → AreNext now.piece xs
feeding_next start now all left xs rest e f = next_begin now.piece xs rest (subst (λ l. AreNext now.piece l) e f.next)

pub feeding_on : (start now new : CutBoard) (all left xs rest : List Item) → left ≡ xs ++ rest → IsFed now new xs → IsFeeding start now all left → IsFeeding start new all rest
feeding_on start now new all left xs rest e step f =
    let P : Item → Type 0 = FitsAlone start.most in
    let alone : AllByRecursion P xs = subst (λ m. AllByRecursion (FitsAlone m) xs) f.most step.alone in
    record {
      most = ap (λ (c : CutBoard). c.most) step.fed ∙ fed_most now xs ∙ f.most;
      fed = ap (λ c. fed_all c rest) step.fed ∙ sym (fed_append now xs rest) ∙ sym (ap (fed_all now) e) ∙ f.fed;
      next = subst (λ (c : CutBoard). AreNext c.piece rest) (sym step.fed) (next_fed_all now xs rest (subst (λ l. AreNext now.piece l) e f.next));
      there = λ h. f.there (subst (AllByRecursion P) (sym e) (all_both P xs rest alone h));
      back = λ h. all_second P xs rest (subst (AllByRecursion P) e (f.back h));
    }

-- one of the next items is too long
pub feeding_long : (start now : CutBoard) (all left xs rest : List Item) → left ≡ xs ++ rest → HasTooLong now.most xs → IsFeeding start now all left → HasTooLong start.most all
feeding_long start now all left xs rest e long f =
    let P : Item → Type 0 = FitsAlone start.most in
    let here : HasTooLong start.most xs = subst (λ m. HasTooLong m xs) f.most long in
    record { some = λ h. here.some (all_first P xs rest (subst (AllByRecursion P) e (f.back h))); low = here.low }

-- the items of what is left of a list
pub left_map : {X : Type 0} (f : X → Item) (xs : List X) (i : ℕ) (x : X) → i < length xs → x ≡ get_or xs i x → map f (drop i xs) ≡ (f x ∷ []) ++ map f (drop (i + 1) xs)
left_map f xs i x lt is = ap (map f) (drop_more xs i x lt) ∙ ap (λ y. f y ∷ map f (drop (i + 1) xs)) (sym is)

pub none_left_map : {X : Type 0} (f : X → Item) (xs : List X) (i : ℕ) → length xs ≤ i → map f (drop i xs) ≡ []
none_left_map f xs i le = ap (map f) (drop_all i xs le)

pub left_flat : {X : Type 0} (f : X → List Item) (xs : List X) (i : ℕ) (x : X) → i < length xs → x ≡ get_or xs i x → flat_map f (drop i xs) ≡ f x ++ flat_map f (drop (i + 1) xs)
left_flat f xs i x lt is = ap (flat_map f) (drop_more xs i x lt) ∙ ap (λ y. f y ++ flat_map f (drop (i + 1) xs)) (sym is)

pub none_left_flat : {X : Type 0} (f : X → List Item) (xs : List X) (i : ℕ) → length xs ≤ i → flat_map f (drop i xs) ≡ []
none_left_flat f xs i le = ap (flat_map f) (drop_all i xs le)

pub left_first : {X : Type 0} (f : X → Item) (xs : List X) (i : ℕ) (d : X) → i < length xs → map f (drop i xs) ≡ (f (get_or xs i d) ∷ []) ++ map f (drop (i + 1) xs)
left_first f xs i d lt = ap (map f) (drop_more xs i d lt)

-- after the first of two lists of items the second may come
pub next_second : (c d : CutBoard) (xs ys : List Item) → IsFed c d xs → AreNext c.piece (xs ++ ys) → AreNext d.piece ys
next_second c d xs ys step next = subst (λ (e : CutBoard). AreNext e.piece ys) (sym step.fed) (next_fed_all c xs ys next)
