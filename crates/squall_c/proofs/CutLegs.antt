-- The legs of a table, cut to two ranks, are the legs of its route between them.
use Rattle.std.specs.Prelude.{◌≡◌, ℕ, zero, suc, ◌+◌, ◌<◌, ◌≤◌, min, max, nat_lt, nat_le, true, false, List, [], ◌∷◌, length, map, take, drop, slice_get, ◌++◌, if◌then◌else◌, refl}
use Rattle.std.proofs.Common.{sym, ap, subst, ◌∙◌, get_or, set, add-one, arith, inl, inr, ◌⊎◌}
use Rattle.std.proofs.lemmas.Option.{same_Some}
use Rattle.std.proofs.lemmas.Bool.{cases_lt}
use Rattle.std.proofs.lemmas.Bool.Decides.{nat_tests}
use Rattle.squall_key.specs.Keys.{top}
use Rattle.squall_plan.specs.declared.range.PlanRange.{PlanRange}
use Rattle.squall_plan.specs.Ranges.{owner_of, IsTiling, Differ, DifferFrom, IsCanonical}
use Rattle.squall_plan.specs.PlanLaws.{owner_first, owner_later, differ_rest}
use Rattle.squall_table.specs.Tables.{AreLegs, leg_of, legs_between}
use Rattle.squall_table.specs.LegEntries.{legs_beyond}
use Rattle.squall_table.specs.TableLaws.{key_by_key}
use Rattle.squall_router.specs.Routers.{RouterValue, route_of_router, IsTableOf}
use Rattle.squall_c_values.specs.declared.legs.CLeg.{CLeg}
use Rattle.squall_c_values.specs.Rooms.{over}
use Rattle.squall_c_values.specs.Values.{c_leg}
use Rattle.squall_c.specs.Showing.{part_at, cut_leg, cut_legs, legs_by, that_fit}

-- what lies of a leg between the ranks, as a leg
abbrev cut_range : ℕ → ℕ → PlanRange → PlanRange
cut_range lo hi l = leg_of (max l.span.lo lo) (min l.span.hi hi) l.part

abbrev cut_ranges : ℕ → ℕ → List PlanRange → List PlanRange
cut_ranges lo hi [] = []
cut_ranges lo hi (l ∷ ls) = if nat_lt l.span.lo hi then cut_range lo hi l ∷ cut_ranges lo hi ls else []

pub is_below : (a b : ℕ) → a < b → nat_lt a b ≡ true
is_below a b h = grind (arith, nat_tests)

pub is_not_below : (a b : ℕ) → b ≤ a → nat_lt a b ≡ false
is_not_below a b h = grind (arith, nat_tests)

is_up_to : (a b : ℕ) → a ≤ b → nat_le a b ≡ true
is_up_to a b h = grind (arith, nat_tests)

is_not_up_to : (a b : ℕ) → b < a → nat_le a b ≡ false
is_not_up_to a b h = grind (arith, nat_tests)

as_c_legs : (lo hi : ℕ) (ls : List PlanRange) → map c_leg (cut_ranges lo hi ls) ≡ cut_legs lo hi ls
as_c_legs lo hi [] = refl
as_c_legs lo hi (l ∷ ls) = elim (cases_lt l.span.lo hi) [
  | inl lt ↦ rw (is_below l.span.lo hi lt) (ap (λ (xs : List CLeg). cut_leg lo hi l ∷ xs) (as_c_legs lo hi ls))
  | inr ge ↦ rw (is_not_below l.span.lo hi ge) refl
]

-- ---- legs that begin beyond the first rank

tiles_from : (lo hi b : ℕ) (ls : List PlanRange) → lo ≤ b → hi ≤ top → IsTiling b top ls → IsTiling (min b hi) hi (cut_ranges lo hi ls)
tiles_from lo hi b [] from high t = omega (arith, t)
tiles_from lo hi b (l ∷ ls) from high t = elim (cases_lt l.span.lo hi) [
  | inl lt ↦ rw (is_below l.span.lo hi lt) (omega (arith, t.0), omega (arith, t.0, t.1), tiles_from lo hi l.span.hi ls (omega (arith, t.0, t.1)) high t.2)
  | inr ge ↦ rw (is_not_below l.span.lo hi ge) (omega (arith, t.0))
]

differ_from : (lo hi : ℕ) (r s : PlanRange) (ls : List PlanRange) → s.part ≡ r.part → DifferFrom r ls → DifferFrom s (cut_ranges lo hi ls)
differ_from lo hi r s [] same d = tt
differ_from lo hi r s (l ∷ ls) same d = elim (cases_lt l.span.lo hi) [
  | inl lt ↦ rw (is_below l.span.lo hi lt) ((λ e. d.0 (sym same ∙ e)), differ_from lo hi l (cut_range lo hi l) ls refl d.1)
  | inr ge ↦ rw (is_not_below l.span.lo hi ge) tt
]

owners_from : (lo hi b : ℕ) (ls : List PlanRange) → lo ≤ b → IsTiling b top ls → (k : ℕ) → b ≤ k → k < hi → owner_of (cut_ranges lo hi ls) k ≡ owner_of ls k
owners_from lo hi b [] from t k ge lt = refl
owners_from lo hi b (l ∷ ls) from t k ge lt =
    rw (is_below l.span.lo hi (omega (arith, t.0)))
    (elim (cases_lt k l.span.hi) [
      | inl in_l ↦ owner_first k (cut_range lo hi l) (cut_ranges lo hi ls) (omega (arith, t.0)) (omega (arith, t.0)) ∙ sym (owner_first k l ls (omega (arith, t.0)) in_l)
      | inr over ↦ owner_later k (cut_range lo hi l) (cut_ranges lo hi ls) (omega arith) ∙ owners_from lo hi l.span.hi ls (omega (arith, t.0, t.1)) t.2 k over lt ∙ sym (owner_later k l ls over)
    ])

-- ---- the first leg has the first rank

-- a list whose first leg has the rank, and which has the owners of the whole list from that rank on
pub record BeginsAt (lo : ℕ) (whole : List PlanRange) (c : ℕ) (ls : List PlanRange) : Type 0 where
  pub begin : ℕ
  pub first : PlanRange
  pub rest : List PlanRange
  pub is : ls ≡ first ∷ rest
  pub after : c ≤ begin
  pub tiles : IsTiling begin top (first ∷ rest)
  pub from : begin ≤ lo
  pub below : lo < first.span.hi
  pub differ : DifferFrom first rest
  pub owners : (k : ℕ) → lo ≤ k → owner_of (first ∷ rest) k ≡ owner_of whole k

begins_at : (lo c : ℕ) (ls : List PlanRange) → IsTiling c top ls → Differ ls → c ≤ lo → lo < top → BeginsAt lo ls c (legs_beyond lo ls)
begins_at lo c [] t d from lt = absurd (omega (arith, t))
begins_at lo c (l ∷ ls) t d from lt = elim (cases_lt lo l.span.hi) [
  | inl here ↦ record {
    begin = c;
    first = l;
    rest = ls;
    is = rw (is_below lo l.span.hi here) refl;
    after = omega arith;
    tiles = t;
    from = from;
    below = here;
    differ = d;
    owners = λ k ge. refl;
  }
  | inr past ↦
      let b = begins_at lo l.span.hi ls t.2 (differ_rest l ls d) past lt in
      record {
        begin = b.begin;
        first = b.first;
        rest = b.rest;
        is = rw (is_not_below lo l.span.hi past) b.is;
        after = omega (arith, t.0, t.1, b.after);
        tiles = b.tiles;
        from = b.from;
        below = b.below;
        differ = b.differ;
        owners = λ k ge. b.owners k ge ∙ sym (owner_later k l ls (omega (arith, ge, past)));
      }
]

legs_of_first : (lo hi b : ℕ) (l : PlanRange) (ls : List PlanRange) → lo < hi → hi ≤ top → IsTiling b top (l ∷ ls) → DifferFrom l ls → b ≤ lo → lo < l.span.hi → AreLegs (owner_of (l ∷ ls)) lo hi (cut_range lo hi l ∷ cut_ranges lo hi ls)
legs_of_first lo hi b l ls lt high t d from below = record {
  tiles = (omega (arith, t.0), omega (arith, t.0), tiles_from lo hi l.span.hi ls (omega arith) high t.2);
  differ = differ_from lo hi l (cut_range lo hi l) ls refl d;
  routes = λ k ge le. elim (cases_lt k l.span.hi) [
    | inl in_l ↦ owner_first k (cut_range lo hi l) (cut_ranges lo hi ls) (omega (arith, t.0)) (omega arith) ∙ sym (owner_first k l ls (omega (arith, t.0)) in_l)
    | inr over ↦ owner_later k (cut_range lo hi l) (cut_ranges lo hi ls) (omega arith) ∙ owners_from lo hi l.span.hi ls (omega arith) t.2 k over le ∙ sym (owner_later k l ls over)
  ];
}

legs_with : (f g : ℕ → ℕ) (lo hi : ℕ) (ls : List PlanRange) → ((k : ℕ) → lo ≤ k → f k ≡ g k) → AreLegs f lo hi ls → AreLegs g lo hi ls
legs_with f g lo hi ls same are = record { tiles = are.tiles; differ = are.differ; routes = λ k from below. are.routes k from below ∙ same k from }

cut_of_first : (lo hi b : ℕ) (l : PlanRange) (ls : List PlanRange) → lo < hi → IsTiling b top (l ∷ ls) → b ≤ lo → cut_ranges lo hi (l ∷ ls) ≡ cut_range lo hi l ∷ cut_ranges lo hi ls
cut_of_first lo hi b l ls lt t from = rw (is_below l.span.lo hi (omega (arith, t.0))) refl

-- the legs of the table from the one that has the first rank on, cut to the ranks, are those of its route
pub cut_are_legs : (lo hi : ℕ) (ls : List PlanRange) → lo < hi → hi ≤ top → IsCanonical ls → AreLegs (owner_of ls) lo hi (cut_ranges lo hi (legs_beyond lo ls))
cut_are_legs lo hi ls lt high is =
    let b = begins_at lo 0 ls is.tiles is.differ (omega arith) (omega arith) in
    let e : cut_ranges lo hi (b.first ∷ b.rest) ≡ cut_range lo hi b.first ∷ cut_ranges lo hi b.rest = cut_of_first lo hi b.begin b.first b.rest lt b.tiles b.from in
    let are : AreLegs (owner_of ls) lo hi (cut_range lo hi b.first ∷ cut_ranges lo hi b.rest) = legs_with (owner_of (b.first ∷ b.rest)) (owner_of ls) lo hi (cut_range lo hi b.first ∷ cut_ranges lo hi b.rest) b.owners (legs_of_first lo hi b.begin b.first b.rest lt high b.tiles b.differ b.from b.below) in
    subst (λ (xs : List PlanRange). AreLegs (owner_of ls) lo hi xs) (sym e ∙ sym (ap (λ (xs : List PlanRange). cut_ranges lo hi xs) b.is)) are

pub cut_is_between : (lo hi : ℕ) (ls : List PlanRange) → lo < hi → hi ≤ top → IsCanonical ls → map c_leg (legs_between (owner_of ls) lo hi) ≡ cut_legs lo hi (legs_beyond lo ls)
cut_is_between lo hi ls lt high is =
    let e : cut_ranges lo hi (legs_beyond lo ls) ≡ legs_between (owner_of ls) lo hi = (key_by_key (owner_of ls) lo hi (cut_ranges lo hi (legs_beyond lo ls)) (omega arith)).0 (cut_are_legs lo hi ls lt high is) in
    sym (ap (λ (xs : List PlanRange). map c_leg xs) e) ∙ as_c_legs lo hi (legs_beyond lo ls)

-- ---- legs that are written into a room, one after another

-- a leg below the second rank, which all before it are, is the next that is written
pub cut_next : (lo hi i : ℕ) (ls : List PlanRange) (l : PlanRange) → i ≤ length (cut_legs lo hi ls) → i < length ls → l ≡ get_or ls i l → l.span.lo < hi → i < length (cut_legs lo hi ls)
cut_next lo hi i [] l in_cut within is below = absurd (omega arith)
cut_next lo hi zero (m ∷ ms) l in_cut within is below = rw (is_below m.span.lo hi (subst (λ (x : PlanRange). x.span.lo < hi) is below)) (omega arith)
cut_next lo hi (suc i) (m ∷ ms) l in_cut within is below = elim (cases_lt m.span.lo hi) [
  | inl lt ↦ let h : suc i ≤ suc (length (cut_legs lo hi ms)) = rw (is_below m.span.lo hi lt) at in_cut in
      rw (is_below m.span.lo hi lt) (let r = cut_next lo hi i ms l (omega (arith, h)) (omega (arith, within)) is below in omega (arith, r))
  | inr ge ↦ let h : suc i ≤ 0 = rw (is_not_below m.span.lo hi ge) at in_cut in absurd (omega (arith, h))
]

pub cut_at : (lo hi i : ℕ) (ls : List PlanRange) (l : PlanRange) (d : CLeg) → i < length (cut_legs lo hi ls) → l ≡ get_or ls i l → get_or (cut_legs lo hi ls) i d ≡ cut_leg lo hi l
cut_at lo hi i [] l d within is = absurd (omega arith)
cut_at lo hi zero (m ∷ ms) l d within is = elim (cases_lt m.span.lo hi) [
  | inl lt ↦ rw (is_below m.span.lo hi lt) (ap (cut_leg lo hi) (sym is))
  | inr ge ↦ let h : 0 < 0 = rw (is_not_below m.span.lo hi ge) at within in absurd (omega (arith, h))
]
cut_at lo hi (suc i) (m ∷ ms) l d within is = elim (cases_lt m.span.lo hi) [
  | inl lt ↦ let h : suc i < suc (length (cut_legs lo hi ms)) = rw (is_below m.span.lo hi lt) at within in
      rw (is_below m.span.lo hi lt) (cut_at lo hi i ms l d (omega (arith, h)) is)
  | inr ge ↦ let h : suc i < 0 = rw (is_not_below m.span.lo hi ge) at within in absurd (omega (arith, h))
]

-- a leg that is not below it, and the end of the list, come after all that are written
pub cut_ends : (lo hi i : ℕ) (ls : List PlanRange) (l : PlanRange) → l ≡ get_or ls i l → hi ≤ l.span.lo → length (cut_legs lo hi ls) ≤ i
cut_ends lo hi i [] l is beyond = omega arith
cut_ends lo hi zero (m ∷ ms) l is beyond = rw (is_not_below m.span.lo hi (subst (λ (x : PlanRange). hi ≤ x.span.lo) is beyond)) (omega arith)
cut_ends lo hi (suc i) (m ∷ ms) l is beyond = elim (cases_lt m.span.lo hi) [
  | inl lt ↦ rw (is_below m.span.lo hi lt) (let r = cut_ends lo hi i ms l is beyond in omega (arith, r))
  | inr ge ↦ rw (is_not_below m.span.lo hi ge) (omega arith)
]

pub cut_no_longer : (lo hi : ℕ) (ls : List PlanRange) → length (cut_legs lo hi ls) ≤ length ls
cut_no_longer lo hi [] = omega arith
cut_no_longer lo hi (m ∷ ms) = elim (cases_lt m.span.lo hi) [
  | inl lt ↦ rw (is_below m.span.lo hi lt) (let r = cut_no_longer lo hi ms in omega (arith, r))
  | inr ge ↦ rw (is_not_below m.span.lo hi ge) (omega arith)
]

-- the items of one list up to a place, and of another from it on
pub set_next : (xs ys : List CLeg) (i : ℕ) (x : CLeg) → i < length xs → i < length ys → get_or xs i x ≡ x → set (take i xs ++ drop i ys) i x ≡ take (suc i) xs ++ drop (suc i) ys
set_next [] ys i x in_x in_y is = absurd (omega arith)
set_next (a ∷ xs) [] i x in_x in_y is = absurd (omega arith)
set_next (a ∷ xs) (b ∷ ys) zero x in_x in_y is = ap (λ (z : CLeg). z ∷ ys) (sym is)
set_next (a ∷ xs) (b ∷ ys) (suc i) x in_x in_y is = ap (λ (zs : List CLeg). a ∷ zs) (set_next xs ys i x (omega arith) (omega arith) is)

take_past : (xs : List CLeg) (n : ℕ) → length xs ≤ n → take n xs ≡ xs
take_past [] zero h = refl
take_past [] (suc n) h = refl
take_past (x ∷ xs) zero h = absurd (omega arith)
take_past (x ∷ xs) (suc n) h = ap (λ (zs : List CLeg). x ∷ zs) (take_past xs n (omega arith))

pub length_taken : (xs : List CLeg) (n : ℕ) → n ≤ length xs → length (take n xs) ≡ n
length_taken xs zero h = refl
length_taken [] (suc n) h = absurd (omega arith)
length_taken (x ∷ xs) (suc n) h = ap suc (length_taken xs n (omega arith))

-- so many of the list are all that the room holds, or all that there are
pub taken_all : (xs : List CLeg) (n i : ℕ) → i ≤ length xs → i ≤ n → ((n ≤ i) ⊎ (length xs ≤ i)) → take n xs ≡ take i xs
taken_all xs n i in_x in_n (inl full) = ap (λ (m : ℕ). take m xs) (antisym n i full in_n)
  where
    antisym : (a b : ℕ) → a ≤ b → b ≤ a → a ≡ b
    antisym a b h k = omega arith
taken_all xs n i in_x in_n (inr all) = take_past xs n (omega arith) ∙ sym (take_past xs i all)

-- legs that are walked: the next of those from a place on
pub next_leg : (ls : List PlanRange) (i : ℕ) (x : PlanRange) (xs : List PlanRange) → drop i ls ≡ x ∷ xs → (i < length ls) × (x ≡ get_or ls i x) × (drop (suc i) ls ≡ xs)
next_leg [] zero x xs e = absurd (let n = ap length e in omega (arith, n))
next_leg [] (suc i) x xs e = absurd (let n = ap length e in omega (arith, n))
next_leg (l ∷ ls) zero x xs e = (omega arith, same_Some x l (sym (ap (λ (ys : List PlanRange). slice_get ys 0) e)), ap (λ (ys : List PlanRange). drop 1 ys) e)
next_leg (l ∷ ls) (suc i) x xs e = let r = next_leg ls i x xs e in (omega (arith, r.0), r.1, r.2)

pub no_leg : (ls : List PlanRange) (i : ℕ) → drop i ls ≡ [] → length ls ≤ i
no_leg [] i e = omega arith
no_leg (l ∷ ls) zero e = absurd (let n = ap length e in omega (arith, n))
no_leg (l ∷ ls) (suc i) e = let r = no_leg ls i e in omega (arith, r)

-- so many legs are written: they stand at the front of the room, and behind them what stood there
pub record Written (lo hi : ℕ) (ls : List PlanRange) (room : List CLeg) (i : ℕ) (now : List CLeg) : Type 0 where
  pub in_room : i ≤ length room
  pub in_cut : i ≤ length (cut_legs lo hi ls)
  pub is : now ≡ take i (cut_legs lo hi ls) ++ drop i room

pub written_none : (lo hi : ℕ) (ls : List PlanRange) (room : List CLeg) → Written lo hi ls room 0 room
written_none lo hi ls room = record { in_room = omega arith; in_cut = omega arith; is = refl }

pub written_next : (lo hi i : ℕ) (ls : List PlanRange) (l : PlanRange) (x : CLeg) (room now : List CLeg) → i < length ls → i < length room → l ≡ get_or ls i l → l.span.lo < hi → x ≡ cut_leg lo hi l → Written lo hi ls room i now → Written lo hi ls room (i + 1) (set now i x)
written_next lo hi i ls l x room now within in_room is below x-is w =
    let in_cut = cut_next lo hi i ls l w.in_cut within is below in
    let at : get_or (cut_legs lo hi ls) i x ≡ x = cut_at lo hi i ls l x in_cut is ∙ sym x-is in
    let next : set now i x ≡ take (suc i) (cut_legs lo hi ls) ++ drop (suc i) room = ap (λ (r : List CLeg). set r i x) w.is ∙ set_next (cut_legs lo hi ls) room i x in_cut in_room at in
    record { in_room = omega (arith, in_room); in_cut = omega (arith, in_cut); is = rw add-one next }

-- all are written that the room holds, or that there are
pub record AreWritten (lo hi : ℕ) (ls : List PlanRange) (room : List CLeg) (i : ℕ) (now : List CLeg) : Type 0 where
  pub legs : now ≡ over (take (length room) (cut_legs lo hi ls)) room
  pub count : i ≡ length (take (length room) (cut_legs lo hi ls))

pub written_all : (lo hi i : ℕ) (ls : List PlanRange) (room now : List CLeg) → Written lo hi ls room i now → ((length room ≤ i) ⊎ (length (cut_legs lo hi ls) ≤ i)) → AreWritten lo hi ls room i now
written_all lo hi i ls room now w end =
    let all = taken_all (cut_legs lo hi ls) (length room) i w.in_cut w.in_room end in
    let count : length (take (length room) (cut_legs lo hi ls)) ≡ i = ap length all ∙ length_taken (cut_legs lo hi ls) i w.in_cut in
    record {
      legs = w.is ∙ ap (λ (xs : List CLeg). xs ++ drop i room) (sym all) ∙ ap (λ (n : ℕ). take (length room) (cut_legs lo hi ls) ++ drop n room) (sym count);
      count = sym count;
    }

-- ---- what is put

-- where the ranks are bounds with a key between them
pub put_some : (lo hi from : ℕ) (ls es : List PlanRange) (room : List CLeg) → lo < hi → hi ≤ top → from ≡ lo → es ≡ legs_beyond from ls → IsCanonical ls → take (length room) (cut_legs lo hi es) ≡ that_fit (legs_by (owner_of ls) lo hi) room
put_some lo hi from ls es room lt high at same is =
    ap (λ (xs : List PlanRange). take (length room) (cut_legs lo hi xs)) (same ∙ ap (λ (k : ℕ). legs_beyond k ls) at)
    ∙ sym (rw (is_below lo hi lt) (rw (is_up_to hi top high) (ap (λ (xs : List CLeg). take (length room) xs) (cut_is_between lo hi ls lt high is))))

-- ---- the legs of a table are those of its router

same_between : (f g : ℕ → ℕ) (lo hi : ℕ) → lo ≤ hi → ((k : ℕ) → k < hi → f k ≡ g k) → legs_between f lo hi ≡ legs_between g lo hi
same_between f g lo hi le same =
    let are : AreLegs f lo hi (legs_between f lo hi) = (key_by_key f lo hi (legs_between f lo hi) le).1 refl in
    (key_by_key g lo hi (legs_between f lo hi) le).0 (record { tiles = are.tiles; differ = are.differ; routes = λ k from below. are.routes k from below ∙ same k below })

pub same_shown : (r : RouterValue) (table : List PlanRange) (lo hi : ℕ) → IsTableOf r table → legs_by (owner_of table) lo hi ≡ legs_by (route_of_router r) lo hi
same_shown r table lo hi is = elim (cases_lt lo hi) [
  | inl lt ↦ elim (cases_lt top hi) [
    | inl gt ↦ rw (is_below lo hi lt, is_not_up_to hi top gt) refl
    | inr le ↦ rw (is_below lo hi lt, is_up_to hi top le) (same_between (owner_of table) (route_of_router r) lo hi (omega arith) (λ k below. is.routes k (omega arith) (omega (arith, below, le))))
  ]
  | inr ge ↦ rw (is_not_below lo hi ge) refl
]

pub same_part : (r : RouterValue) (table : List PlanRange) (k : ℕ) → IsTableOf r table → part_at (owner_of table) k ≡ part_at (route_of_router r) k
same_part r table k is = elim (cases_lt k top) [
  | inl lt ↦ rw (is_below k top lt) (is.routes k (omega arith) lt)
  | inr ge ↦ rw (is_not_below k top ge) refl
]
