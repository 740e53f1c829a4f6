-- The table and the moves between two plans.
use Rattle.std.proofs.Common.{◌≡◌, ℕ, zero, suc, ◌+◌, ◌<◌, ◌≤◌, Bool, true, false, eqb, ltb, List, [], ◌∷◌, length, map, Option, refl, sym, ap, ◌∙◌, arith, inl, inr}
use Rattle.std.specs.Prelude.{filter, ◌||◌, ◌&&◌, not}
use Rattle.std.specs.List.{list_any, range_with_len, prefix_len, slice_get}
use Rattle.std.specs.Option.{option_map}
use Rattle.std.proofs.lemmas.Option.{slice_get-map}
use Rattle.squall_course.specs.Change.{Change, ArePlans}
use Rattle.std.proofs.lemmas.Bool.{cases_Bool, and_parts, and_right, or_cases, or_right, ne_eqb, eq-eqb, eqb-true, eqb-false, false≢true}
use Rattle.std.proofs.lemmas.List.{length-map}
use Rattle.std.proofs.lemmas.List.Folds.{list_any-append}
use Rattle.squall_key.specs.Keys.{part_limit}
use Rattle.squall_plan.specs.declared.range.PlanRange.{PlanRange}
use Rattle.squall_plan.specs.Ranges.{AreRanges, IsCanonical}
use Rattle.squall_course.specs.declared.transfer.Transfer.{Transfer}
use Rattle.squall_course.specs.declared.link.Link.{Link}
use Rattle.squall_course.specs.declared.moving.Move.{Move}
use Rattle.squall_course.specs.Subplans.{shares, feeds, is_dest, dests, sub_at, most_dests, dest_of}
use Rattle.squall_course.specs.Moves.{transfer, listed, row, transfers, numbered, moves_of}
use Rattle.squall_course.specs.Links.{is_link, goes, Sorted, links_of, lower_links, most_links, numbered_by, IsTable}
use Rattle.squall_course.specs.Steps.{Up}
use Rattle.squall_course.proofs.Rising.{is_in, eq_refl, same_rising, filter_up, in_filter, place_lower}
use Rattle.squall_course.proofs.Rows.{row_up, row_members, lower_by_row}

-- ---- who feeds whom in the transfers

no_and : (a b : Bool) → (a && (b && false)) ≡ false
no_and true b = and_right b false refl
no_and false b = refl

apart : (a b s q : ℕ) → eqb a b ≡ false → ((eqb a s && eqb b q) || false) ≡ (eqb a s && (not (eqb q s) && (eqb b q && true)))
apart a b s q e = elim (cases_Bool (eqb a s)) [
  | inr off ↦ rw off refl
  | inl is ↦ rw is (elim (cases_Bool (eqb b q)) [
    | inr off ↦ rw off (sym (and_right (not (eqb q s)) false refl))
    | inl is2 ↦
        let differ : eqb q s ≡ false = ne_eqb q s (λ h. eqb-false a b e (eqb-true a s is ∙ sym h ∙ sym (eqb-true b q is2))) in
        rw (is2, differ) refl
  ])
]

together : (a b s q : ℕ) → eqb a b ≡ true → false ≡ (eqb a s && (not (eqb q s) && (eqb b q && true)))
together a b s q e = elim (cases_Bool (eqb a s)) [
  | inr off ↦ rw off refl
  | inl is ↦ rw is (elim (cases_Bool (eqb b q)) [
    | inr off ↦ rw off (sym (and_right (not (eqb q s)) false refl))
    | inl is2 ↦
        let same : eqb q s ≡ true = eq-eqb q s (sym (eqb-true b q is2) ∙ sym (eqb-true a b e) ∙ eqb-true a s is) in
        rw (same) refl
  ])
]

transfer_link : (r t : PlanRange) (s q : ℕ) → list_any (goes s q) (listed (transfer r t)) ≡ (eqb r.part s && (not (eqb q s) && (eqb t.part q && shares r.span t.span)))
transfer_link r t s q = elim (cases_Bool (shares r.span t.span)) [
  | inr off ↦ rw off (sym (ap (λ b. eqb r.part s && (not (eqb q s) && b)) (and_right (eqb t.part q) false refl) ∙ no_and (eqb r.part s) (not (eqb q s))))
  | inl on ↦ rw on (elim (cases_Bool (eqb r.part t.part)) [
    | inl same ↦ rw same (together r.part t.part s q same)
    | inr differ ↦ rw differ (apart r.part t.part s q differ)
  ])
]

spread : (a b x y : Bool) → ((a && (b && x)) || (a && (b && y))) ≡ (a && (b && (x || y)))
spread true true x y = refl
spread true false x y = refl
spread false b x y = refl

row_link : (r : PlanRange) (s q : ℕ) (ss : List PlanRange) → list_any (goes s q) (row r ss) ≡ (eqb r.part s && (not (eqb q s) && list_any (λ t. eqb t.part q && shares r.span t.span) ss))
row_link r s q [] = sym (no_and (eqb r.part s) (not (eqb q s)))
row_link r s q (t ∷ ts) =
    list_any-append (goes s q) (listed (transfer r t)) (row r ts)
    ∙ ap (λ b. b || list_any (goes s q) (row r ts)) (transfer_link r t s q)
    ∙ ap (λ b. (eqb r.part s && (not (eqb q s) && (eqb t.part q && shares r.span t.span))) || b) (row_link r s q ts)
    ∙ spread (eqb r.part s) (not (eqb q s)) (eqb t.part q && shares r.span t.span) (list_any (λ u. eqb u.part q && shares r.span u.span) ts)

spread2 : (a b x y : Bool) → ((a && (b && x)) || (b && y)) ≡ (b && ((a && x) || y))
spread2 true true x y = refl
spread2 true false x y = refl
spread2 false true x y = refl
spread2 false false x y = refl

pub transfers_link : (s q : ℕ) (rs ss : List PlanRange) → list_any (goes s q) (transfers rs ss) ≡ (not (eqb q s) && list_any (λ r. eqb r.part s && list_any (λ t. eqb t.part q && shares r.span t.span) ss) rs)
transfers_link s q [] ss = sym (and_right (not (eqb q s)) false refl)
transfers_link s q (r ∷ rs) ss =
    list_any-append (goes s q) (row r ss) (transfers rs ss)
    ∙ ap (λ b. b || list_any (goes s q) (transfers rs ss)) (row_link r s q ss)
    ∙ ap (λ b. (eqb r.part s && (not (eqb q s) && list_any (λ t. eqb t.part q && shares r.span t.span) ss)) || b) (transfers_link s q rs ss)
    ∙ spread2 (eqb r.part s) (not (eqb q s)) (list_any (λ t. eqb t.part q && shares r.span t.span) ss) (list_any (λ u. eqb u.part s && list_any (λ t. eqb t.part q && shares u.span t.span) ss) rs)

-- ---- destinations

inner_low : (r : PlanRange) (q : ℕ) (ss : List PlanRange) → AreRanges ss → list_any (λ t. eqb t.part q && shares r.span t.span) ss ≡ true → q < part_limit
inner_low r q [] full is = absurd (false≢true is)
inner_low r q (t ∷ ts) full is = elim (or_cases (eqb t.part q && shares r.span t.span) (list_any (λ u. eqb u.part q && shares r.span u.span) ts) is) [
  | inl here ↦ let same = eqb-true t.part q (and_parts (eqb t.part q) (shares r.span t.span) here).0 in omega (arith, same, full.0.2)
  | inr later ↦ inner_low r q ts full.1 later
]

feeds_low : (rs ss : List PlanRange) (s q : ℕ) → AreRanges ss → list_any (λ r. eqb r.part s && list_any (λ t. eqb t.part q && shares r.span t.span) ss) rs ≡ true → q < part_limit
feeds_low [] ss s q full is = absurd (false≢true is)
feeds_low (r ∷ rs) ss s q full is = elim (or_cases (eqb r.part s && list_any (λ t. eqb t.part q && shares r.span t.span) ss) (list_any (λ u. eqb u.part s && list_any (λ t. eqb t.part q && shares u.span t.span) ss) rs) is) [
  | inl here ↦ inner_low r q ss full (and_parts (eqb r.part s) (list_any (λ t. eqb t.part q && shares r.span t.span) ss) here).1
  | inr later ↦ feeds_low rs ss s q full later
]

pub dest_low : (old new : List PlanRange) (s q : ℕ) → AreRanges new → is_dest old new s q ≡ true → q < part_limit
dest_low old new s q full is = feeds_low old new s q full (and_parts (not (eqb q s)) (feeds old new s q) is).1

pub dests_up : (old new : List PlanRange) (s : ℕ) → Up 0 (dests old new s)
unfolding dests
dests_up old new s = filter_up (λ d. is_dest old new s d) 0 part_limit

pub dests_in : (old new : List PlanRange) (s q : ℕ) → AreRanges new → is_in q (dests old new s) ≡ is_dest old new s q
unfolding dests
dests_in old new s q full = in_filter (λ d. is_dest old new s d) part_limit q (dest_low old new s q full)

-- ---- the table

pub is_table : (old new : List PlanRange) (ps : List Transfer) (fs : List Link) → ArePlans old new → ps ≡ transfers old new → ((s d : ℕ) → list_any (is_link s d) fs ≡ list_any (goes s d) ps) → Sorted fs → IsTable old new fs
is_table old new ps fs plans made same sorted = record {
  sorted = sorted;
  rows = λ s. same_rising 0 (map (λ f. f.dest) (links_of s fs)) (dests old new s) (row_up s fs sorted) (dests_up old new s)
      (λ q. row_members s q fs ∙ same s q ∙ ap (list_any (goes s q)) made ∙ transfers_link s q old new ∙ sym (dests_in old new s q plans.new_ranges));
}

pub sub_is_place : (old new : List PlanRange) (fs : List Link) (s d : ℕ) → AreRanges new → IsTable old new fs → is_dest old new s d ≡ true → lower_links s d fs ≡ sub_at old new s d
sub_is_place old new fs s d full t is =
    lower_by_row s d fs ∙ ap (prefix_len (λ x. ltb x d)) (t.rows s) ∙ place_lower 0 d (dests old new s) (dests_up old new s) (dests_in old new s d full ∙ is)

-- ---- the moves

numbered_all : (old new : List PlanRange) (fs : List Link) (ps : List Transfer) → AreRanges new → IsTable old new fs → ((s d : ℕ) → list_any (goes s d) ps ≡ true → is_dest old new s d ≡ true)
    → map (numbered_by fs) ps ≡ map (numbered old new) ps
numbered_all old new fs [] full t each = refl
numbered_all old new fs (p ∷ ps) full t each =
    let here : (goes p.source p.dest p || list_any (goes p.source p.dest) ps) ≡ true = rw (eq_refl p.source, eq_refl p.dest) refl in
    let first = sub_is_place old new fs p.source p.dest full t (each p.source p.dest here) in
    rw (first, numbered_all old new fs ps full t (λ s d is. each s d (or_right (goes s d p) (list_any (goes s d) ps) is))) refl

pub moves_are : (old new : List PlanRange) (fs : List Link) (ps : List Transfer) (ms : List Move) → ArePlans old new → IsTable old new fs → ps ≡ transfers old new → ms ≡ map (numbered_by fs) ps → ms ≡ moves_of old new
unfolding moves_of
moves_are old new fs ps ms plans t made e =
    e ∙ ap (map (numbered_by fs)) made ∙ numbered_all old new fs (transfers old new) plans.new_ranges t (λ s d is. sym (transfers_link s d old new) ∙ is)

-- ---- how many sub-plans

few_pass : (p : ℕ → Bool) (a n : ℕ) → length (filter p (range_with_len a n)) ≤ n
few_pass p a zero = omega arith
few_pass p a (suc n) = elim (cases_Bool (p a)) [
  | inl is ↦ rw is (omega (arith, few_pass p (a + 1) n))
  | inr is ↦ rw is (omega (arith, few_pass p (a + 1) n))
]

pub dests_few : (old new : List PlanRange) (s : ℕ) → length (dests old new s) ≤ part_limit
unfolding dests
dests_few old new s = few_pass (λ d. is_dest old new s d) 0 part_limit

pub most_few : (old new rs : List PlanRange) → most_dests old new rs ≤ part_limit
most_few old new [] = omega arith
most_few old new (r ∷ rs) = omega (arith, dests_few old new r.part, most_few old new rs)

most_same : (old new rs : List PlanRange) (fs : List Link) → IsTable old new fs → most_links fs rs ≡ most_dests old new rs
most_same old new [] fs t = refl
most_same old new (r ∷ rs) fs t =
    let here : length (links_of r.part fs) ≡ length (dests old new r.part) = sym (length-map (links_of r.part fs) (λ (f : Link). f.dest)) ∙ ap length (t.rows r.part) in
    rw (here, most_same old new rs fs t) refl

pub count_is : (old new rs : List PlanRange) (fs : List Link) (n : ℕ) → IsTable old new fs → rs ≡ old → n ≡ most_links fs rs → (n ≡ most_dests old new old) × (n ≤ part_limit)
count_is old new rs fs n t e is =
    let same : n ≡ most_dests old new old = is ∙ most_same old new rs fs t ∙ ap (most_dests old new) e in
    (same, omega (arith, same, most_few old new old))

pub made_of : (old new rs ss : List PlanRange) (ps qs : List Transfer) → rs ≡ old → ss ≡ new → qs ≡ transfers rs ss → ps ≡ qs → ps ≡ transfers old new
made_of old new rs ss ps qs e f made is = is ∙ made ∙ rw (e, f) refl

pub plans_of : (old new rs ss : List PlanRange) → rs ≡ old → ss ≡ new → IsCanonical rs → IsCanonical ss → AreRanges rs → AreRanges ss → ArePlans old new
plans_of old new rs ss e f a b g h = record { old_canonical = rw e at a; new_canonical = rw f at b; old_ranges = rw e at g; new_ranges = rw f at h }

-- the destination of a source in a sub-plan, by the row of the source
pub dest_by_row : (c : Change) (i j : List PlanRange) (fs row : List Link) (part sub : ℕ) (found : Option Link) → i ≡ c.old → j ≡ c.new → IsTable i j fs → row ≡ links_of part fs → slice_get row sub ≡ found → option_map (λ f. f.dest) found ≡ dest_of c.old c.new sub part
dest_by_row c i j fs row part sub found a b t is e =
    let rows : map (λ f. f.dest) row ≡ dests c.old c.new part = ap (map (λ f. f.dest)) is ∙ t.rows part ∙ rw (a, b) refl in
    sym (ap (λ (l : List ℕ). slice_get l sub) (sym rows) ∙ slice_get-map (λ (f : Link). f.dest) row sub ∙ ap (option_map (λ (f : Link). f.dest)) e)

-- what a course's invariant says of its plans under other names
pub plans_known : (c : Change) (i j : List PlanRange) → i ≡ c.old → j ≡ c.new → ArePlans i j → ArePlans c.old c.new
plans_known c i j a b plans = rw (a, b) at plans

pub count_few : (old new : List PlanRange) (n : ℕ) → n ≡ most_dests old new old → n ≤ part_limit
count_few old new n is = omega (arith, is, most_few old new old)
