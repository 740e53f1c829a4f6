-- What moves bring to the cells of a delta.
use Rattle.std.proofs.Common.{◌≡◌, ℕ, zero, suc, ◌+◌, ◌-◌, ◌<◌, ◌≤◌, Bool, true, false, cond, List, [], ◌∷◌, ◌++◌, Option, None, Some, length, get_or, take, drop, refl, sym, ap, ◌∙◌, arith, inl, inr, length-drop}
use Rattle.std.specs.Prelude.{◌==◌, ◌||◌, ◌&&◌, not}
use Rattle.std.specs.List.{list_any}
use Rattle.std.specs.Ordering.{nat_cmp}
use Rattle.std.specs.FinMap.Entries.{find}
use Rattle.std.proofs.lemmas.Bool.{cases_lt}
use Rattle.std.proofs.lemmas.List.{take_all, take_more}
use Rattle.squall_key.specs.Lemmas.{eq_comm}
use Rattle.squall_span.specs.Spans.{Interval, has, span_has}
use Rattle.squall_span.specs.SpanLaws.{outside_below, outside_above, has-append}
use Rattle.squall_join.specs.Entries.{IsKept, IsMap}
use Rattle.squall_join.specs.Facts.{map_says, found_says}
use Rattle.squall_plan.specs.Ranges.{owner_of}
use Rattle.squall_course.specs.Change.{Change}
use Rattle.squall_course.specs.Subplans.{moves, sub_of}
use Rattle.squall_course.specs.declared.moving.Move.{Move}
use Rattle.squall_course.specs.Moves.{goes_to, move_has, AreMoves}
use Rattle.squall_course.proofs.Gathered.{incoming_keys}
use Rattle.squall_report.specs.Facts.{LoadedKey, DonePart}
use Rattle.squall_report.specs.Told.{TellsBoth}
use Rattle.squall_board.specs.ListedLaws.{any_same, any_and}
use Rattle.squall_board.specs.Boards.{CellValue, Parts, Subs, BoardValue, cells_in, cell_is, cell_bottom, says, told, found_in}
use Rattle.squall_board.specs.ListedLaws.{KeysRise, keys_rise, says_some, all_weaker}
use Rattle.squall_board.specs.Route.{has_come, place_of_key}
use Rattle.squall_board.specs.MovesRoute.{cell_has_come}
use Rattle.squall_board.specs.MovesRouteLaws.{cell_says_what_came}
use Rattle.squall_table.specs.Touched.{is_touched, ChangesWithin}
use Rattle.squall_table.specs.Legs.{MovesRise, FirstMove}
use Rattle.squall_table.specs.Touching.{brought, touched_by_cell, touched_by_parts, touched_by_subs}

-- ---- moves by rising key

rise_weaker : (a b : ℕ) (ms : List Move) → a ≤ b → MovesRise b ms → MovesRise a ms
rise_weaker a b [] le r = omega arith
rise_weaker a b (m ∷ ms) le r = (omega (arith, r.0), r.1, r.2)

pub rise_drop : (a : ℕ) (ms : List Move) (i : ℕ) → MovesRise a ms → MovesRise a (drop i ms)
rise_drop a [] zero r = r
rise_drop a [] (suc i) r = r
rise_drop a (m ∷ ms) zero r = r
rise_drop a (m ∷ ms) (suc i) r = rise_weaker a m.span.hi (drop i ms) (omega (arith, r.0, r.1)) (rise_drop m.span.hi ms i r.2)

-- ---- the keys that moves bring

not_here : (sub part : ℕ) (m : Move) (k : ℕ) → move_has k m ≡ false → (goes_to sub part m && move_has k m) ≡ false
not_here sub part m k e = ap (λ b. goes_to sub part m && b) e ∙ and_none (goes_to sub part m)
  where
    and_none : (b : Bool) → (b && false) ≡ false
    and_none true = refl
    and_none false = refl

before_all : (sub part : ℕ) (a k : ℕ) (ms : List Move) → MovesRise a ms → k < a → brought sub part ms k ≡ false
before_all sub part a k [] r lt = refl
before_all sub part a k (m ∷ ms) r lt =
    ap (λ b. b || brought sub part ms k) (not_here sub part m k (outside_below m.span k (omega (arith, r.0)))) ∙ before_all sub part m.span.hi k ms r.2 (omega (arith, r.0, r.1))

-- a key before a move is in none from that one on
cut_at : (sub part : ℕ) (a k : ℕ) (ms : List Move) (i : ℕ) (d : Move) → MovesRise a ms → i < length ms → k < (get_or ms i d).span.lo → brought sub part ms k ≡ brought sub part (take i ms) k
cut_at sub part a k [] i d r lt below = absurd (omega arith)
cut_at sub part a k (m ∷ ms) zero d r lt below = before_all sub part m.span.lo k (m ∷ ms) (omega arith, r.1, r.2) below
cut_at sub part a k (m ∷ ms) (suc i) d r lt below = ap (λ b. (goes_to sub part m && move_has k m) || b) (cut_at sub part m.span.hi k ms i d r.2 (omega arith) below)

-- of the keys of a span no later move has one
pub span_cut : (sub part : ℕ) (a k : ℕ) (s : Interval) (ms : List Move) (i : ℕ) (d : Move) → MovesRise a ms → i < length ms → s.hi ≤ (get_or ms i d).span.lo
    → (span_has s k && brought sub part (take i ms) k) ≡ (span_has s k && brought sub part ms k)
span_cut sub part a k s ms i d r lt le = elim (cases_lt k s.hi) [
  | inl below ↦ ap (λ b. span_has s k && b) (sym (cut_at sub part a k ms i d r lt (omega arith)))
  | inr above ↦ rw (outside_above s k above) refl
]

-- a key is in none of the moves that end before it
past_all : (sub part : ℕ) (bound k : ℕ) (ms : List Move) (i : ℕ) → ((j : ℕ) (d : Move) → j < i → (get_or ms j d).span.hi ≤ bound) → bound ≤ k → brought sub part (drop i ms) k ≡ brought sub part ms k
past_all sub part bound k [] zero e le = refl
past_all sub part bound k [] (suc i) e le = refl
past_all sub part bound k (m ∷ ms) zero e le = refl
past_all sub part bound k (m ∷ ms) (suc i) e le =
    past_all sub part bound k ms i (λ j d lt. e (suc j) d (omega arith)) le ∙ sym (ap (λ b. b || brought sub part ms k) (not_here sub part m k (outside_above m.span k (omega (arith, e 0 m (omega arith))))))

-- of the keys of a span no earlier move has one
pub span_past : (sub part k : ℕ) (s : Interval) (ms : List Move) (i : ℕ) → FirstMove ms s.lo i → (span_has s k && brought sub part (drop i ms) k) ≡ (span_has s k && brought sub part ms k)
span_past sub part k s ms i f = elim (cases_lt k s.lo) [
  | inl below ↦ rw (outside_below s k below) refl
  | inr from ↦ ap (λ b. span_has s k && b) (past_all sub part s.lo k ms i f.before from)
]

pub take_rest : (ms : List Move) (i : ℕ) → take (length ms - i) (drop i ms) ≡ drop i ms
take_rest ms i = take_all (length ms - i) (drop i ms) (let l = length-drop i ms in omega (arith, l))

-- what a span brings joins what the spans before it brought
pub one_span_more : (has0 has1 has2 b : Bool) (xs : List Interval) (i k : ℕ) (x : Interval) → i < length xs → x ≡ get_or xs i x
    → has1 ≡ (has0 || (has (take i xs) k && b)) → has2 ≡ (has1 || (span_has x k && b)) → has2 ≡ (has0 || (has (take (i + 1) xs) k && b))
one_span_more has0 has1 has2 b xs i k x lt is e f =
    let keys : has (take (i + 1) xs) k ≡ (has (take i xs) k || (span_has x k || false)) = ap (λ l. has l k) (take_more xs i x lt ∙ ap (λ y. take i xs ++ y ∷ []) (sym is)) ∙ has-append (take i xs) (x ∷ []) k in
    f ∙ ap (λ t. t || (span_has x k && b)) e ∙ either has0 (has (take i xs) k) (span_has x k) b ∙ ap (λ t. has0 || (t && b)) (sym keys)
  where
    either : (a t u b : Bool) → ((a || (t && b)) || (u && b)) ≡ (a || ((t || (u || false)) && b))
    either true t u b = refl
    either false true u true = refl
    either false true true false = refl
    either false true false false = refl
    either false false true b = refl
    either false false false b = refl

-- ---- the cells of a delta

abbrev comes : CellValue → ℕ → Bool
comes cell k = cell_has_come (Some cell) k

abbrev moves_at : Change → ℕ → Bool
moves_at c k = moves c.old c.new k

arranged : (x m a b c d : Bool) → a ≡ c → b ≡ d → (x && (m && (a && b))) ≡ (m && (c && (d && x)))
arranged x m a b c d e f = (λ i. x && (m && (e i && f i))) ∙ turned x m c d
  where
    turned : (x m c d : Bool) → (x && (m && (c && d))) ≡ (m && (c && (d && x)))
    turned true true true true = refl
    turned true true true false = refl
    turned true true false d = refl
    turned true false c d = refl
    turned false true true true = refl
    turned false true true false = refl
    turned false true false d = refl
    turned false false c d = refl

module _ (c : Change) (ms : List Move) (k : ℕ) (are : AreMoves c.old c.new ms) where
  by_cell : (sub part : ℕ) (cell : CellValue) → touched_by_cell ms sub part cell k ≡ (moves_at c k && ((sub == sub_of c.old c.new k) && ((part == owner_of c.new k) && comes cell k)))
  by_cell sub part cell =
      ap (λ b. comes cell k && b) (incoming_keys c.old c.new ms sub part k are)
      ∙ arranged (comes cell k) (moves_at c k) (sub_of c.old c.new k == sub) (owner_of c.new k == part) (sub == sub_of c.old c.new k) (part == owner_of c.new k) (eq_comm (sub_of c.old c.new k) sub) (eq_comm (owner_of c.new k) part)

  by_parts : (sub : ℕ) (parts : Parts) → KeysRise parts → touched_by_parts ms sub parts k ≡ (moves_at c k && ((sub == sub_of c.old c.new k) && map_says nat_cmp comes parts (owner_of c.new k, k)))
  by_parts sub parts r =
      (λ i. list_any (λ e. by_cell sub e.0 e.1 i) parts)
      ∙ any_and (moves_at c k) (λ e. (sub == sub_of c.old c.new k) && ((e.0 == owner_of c.new k) && comes e.1 k)) parts
      ∙ ap (λ b. moves_at c k && b) (any_and (sub == sub_of c.old c.new k) (λ e. (e.0 == owner_of c.new k) && comes e.1 k) parts
      ∙ ap (λ b. (sub == sub_of c.old c.new k) && b) (sym (says_some comes parts r (owner_of c.new k) k)))

  by_subs : (subs : Subs) → IsMap nat_cmp (IsMap nat_cmp cell_is cell_bottom) [] subs → touched_by_subs ms subs k ≡ (moves_at c k && map_says nat_cmp (map_says nat_cmp comes) subs (sub_of c.old c.new k, (owner_of c.new k, k)))
  by_subs subs m =
      any_same (λ e. touched_by_parts ms e.0 e.1 k) (λ e. moves_at c k && ((e.0 == sub_of c.old c.new k) && map_says nat_cmp comes e.1 (owner_of c.new k, k))) subs
      (all_weaker (λ e. IsKept (IsMap nat_cmp cell_is cell_bottom) [] e.1) _ subs m.kept (λ e kept. by_parts e.0 e.1 (keys_rise e.1 kept.0.sorted)))
      ∙ any_and (moves_at c k) (λ e. (e.0 == sub_of c.old c.new k) && map_says nat_cmp comes e.1 (owner_of c.new k, k)) subs
      ∙ ap (λ b. moves_at c k && b) (sym (says_some (map_says nat_cmp comes) subs (keys_rise subs m.sorted) (sub_of c.old c.new k) (owner_of c.new k, k)))

found_cell : (part k : ℕ) (o : Option Parts) → found_says (map_says nat_cmp comes) o (part, k) ≡ cell_has_come (found_in part o) k
found_cell part k None = refl
found_cell part k (Some parts) = at (find nat_cmp part parts)
  where
    at : (o : Option CellValue) → found_says comes o k ≡ cell_has_come o k
    at None = refl
    at (Some cell) = refl

-- the cells of the course's number touch the keys that the delta touches
pub cells_touch : (c : Change) (b : BoardValue) (ms : List Move) (subs : Subs) (k : ℕ) → AreMoves c.old c.new ms → IsMap nat_cmp (IsMap nat_cmp cell_is cell_bottom) [] subs → Some subs ≡ find nat_cmp c.number (cells_in b)
    → touched_by_subs ms subs k ≡ is_touched c (says b) k
cells_touch c b ms subs k are m is =
    by_subs c ms k are subs m
    ∙ ap (λ t. moves_at c k && t) (found_cell (owner_of c.new k) k (find nat_cmp (sub_of c.old c.new k) subs)
    ∙ ap (λ o. cell_has_come (found_in (owner_of c.new k) (found_in (sub_of c.old c.new k) o)) k) is
    ∙ sym (cell_says_what_came b (place_of_key c k) k))

-- if the delta has no cell of the course's number it touches no key
pub none_touched : (c : Change) (b : BoardValue) (k : ℕ) → None ≡ find nat_cmp c.number (cells_in b) → false ≡ is_touched c (says b) k
none_touched c b k is = sym (ap (λ t. moves_at c k && t) (cell_says_what_came b (place_of_key c k) k ∙ ap (λ o. cell_has_come (found_in (owner_of c.new k) (found_in (sub_of c.old c.new k) o)) k) (sym is)) ∙ and_none (moves_at c k))
  where
    and_none : (b : Bool) → (b && false) ≡ false
    and_none true = refl
    and_none false = refl

-- the routes of a board that has taken a delta differ at most in what the delta touches
pub changes_touched : (c : Change) (set : List Interval) (before after d : BoardValue) → ((k : ℕ) → has set k ≡ is_touched c (says d) k) → TellsBoth (told after) (told before) (told d) → ChangesWithin c before after set
changes_touched c set before after d is both k lt out =
    chosen (moves_at c k) (has_come c (says before) k) (has_come c (says d) k) (has_come c (says after) k) (owner_of c.new k) (owner_of c.old k) (sym (is k) ∙ out)
    ((λ i. both.facts (LoadedKey (place_of_key c k) k) i || both.facts (DonePart (place_of_key c k)) i)
    ∙ either (says before (LoadedKey (place_of_key c k) k)) (says d (LoadedKey (place_of_key c k) k)) (says before (DonePart (place_of_key c k))) (says d (DonePart (place_of_key c k))))
  where
    either : (a b c d : Bool) → ((a || b) || (c || d)) ≡ ((a || c) || (b || d))
    either true b c d = refl
    either false true true d = refl
    either false true false d = refl
    either false false c d = refl

    or_none : (a : Bool) → (a || false) ≡ a
    or_none true = refl
    or_none false = refl

    chosen : (m a d e : Bool) (p q : ℕ) → (m && d) ≡ false → e ≡ (a || d) → cond (not m || a) p q ≡ cond (not m || e) p q
    chosen false a d e p q x y = refl
    chosen true a d e p q x y = ap (λ t. cond t p q) (sym (or_none a) ∙ ap (λ t. a || t) (sym x) ∙ sym y)
