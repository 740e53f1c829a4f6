-- The JSON of a plan reads as the plan.
use Rattle.std.proofs.Common.{◌≡◌, ℕ, ◌^◌, ◌<◌, ◌≤◌, List, [], ◌∷◌, length, Bool, true, false, map, refl, sym, ap, subst, ◌∙◌, arith}
use Rattle.std.specs.Prelude.{◌≢◌, ◌==◌, nat_lt, nat_le, codes, Option, None, Some, is_none, Result, Ok, Err, if◌then◌else◌}
use Rattle.std.specs.List.{filter_map, position_or_len, AllByRecursion}
use Rattle.std.specs.Str.{is_utf8}
use Rattle.std.proofs.lemmas.Bool.{eqb-true, lt-ltb, le-ltb, le-leb}
use Rattle.std.proofs.lemmas.Nat.{div-add-mod', div_below, mod_below}
use Rattle.serde_json.specs.Data.{Data, string}
use Rattle.serde_json.specs.Read.{read}
use Rattle.serde_json.specs.View.{items_of}
use Rattle.serde_json.proofs.OnLiterals.{serde_json_on_literals}
use Rattle.squall_key.specs.Keys.{top, part_limit, root_of, second_of, rank_of}
use Rattle.squall_span.specs.Spans.{span_at}
use Rattle.squall_plan.specs.declared.range.PlanRange.{PlanRange}
use Rattle.squall_plan.specs.declared.fault.PlanFault.{PlanFault}
use Rattle.squall_plan.specs.declared.fault.PlanFault.TheVariants.{Json, Shape, NoMemory}
use Rattle.squall_plan.specs.Ranges.{IsRange, AreRanges, IsCanonical, ArePlan, owner_of}
use Rattle.squall_plan.specs.Arranged.{IsArranged, plan_of_ranges, range_limit}
use Rattle.squall_plan.specs.Form.{data_of, list_of, listed_in, to_of, entry_of, part_of, bound_in, bounds_of, range_of, lacking, entries_of, ranges_in, then_with, or_fault, ranges_of_data, plan_of_text}
use Rattle.squall_plan.specs.PlanText.{json_of_bound, json_of_range, json_of_plan}

-- ---- lists of which each item is there

none_before : {X Y Z : Type 0} (f : X → Option Y) (g : Z → X) (h : Z → Y) (zs : List Z) → AllByRecursion (λ z. f (g z) ≡ Some (h z)) zs
    → position_or_len (λ x. is_none (f x)) (map g zs) ≡ length (map g zs)
none_before f g h [] all = refl
none_before f g h (z ∷ zs) all = rw all.0 (omega (arith, none_before f g h zs all.1))

none_lacks : {X Y Z : Type 0} (f : X → Option Y) (g : Z → X) (h : Z → Y) (zs : List Z) → AllByRecursion (λ z. f (g z) ≡ Some (h z)) zs
    → lacking f (map g zs) ≡ None
none_lacks f g h zs all =
    let first = position_or_len (λ x. is_none (f x)) (map g zs) in
    let last : nat_lt first (length (map g zs)) ≡ false = le-ltb first (length (map g zs)) (omega (arith, none_before f g h zs all)) in
    ap (λ b. if b then Some first else None) last

all_kept : {X Y Z : Type 0} (f : X → Option Y) (g : Z → X) (h : Z → Y) (zs : List Z) → AllByRecursion (λ z. f (g z) ≡ Some (h z)) zs
    → filter_map f (map g zs) ≡ map h zs
all_kept f g h [] all = refl
all_kept f g h (z ∷ zs) all = rw all.0 (ap (λ ys. h z ∷ ys) (all_kept f g h zs all.1))

each : {X : Type 0} (P Q : X → Type 0) (xs : List X) → ((x : X) → P x → Q x) → AllByRecursion P xs → AllByRecursion Q xs
each P Q [] step all = tt
each P Q (x ∷ xs) step all = (step x all.0, each P Q xs step all.1)

list_of_items : (ds : List Data) → list_of (items_of ds) ≡ ds
list_of_items [] = refl
list_of_items (d ∷ ds) = ap (λ es. d ∷ es) (list_of_items ds)

same_list : {X : Type 0} (xs : List X) → map (λ x. x) xs ≡ xs
same_list [] = refl
same_list (x ∷ xs) = ap (λ ys. x ∷ ys) (same_list xs)

-- ---- a range

bound_back : (b : ℕ) → b ≤ top → bound_in (root_of b, second_of b) ≡ Some b
bound_back b high =
    let whole : rank_of (root_of b) (second_of b) ≡ b = div-add-mod' b (2 ^ 32) in
    let root : nat_lt (root_of b) (2 ^ 32) ≡ true = lt-ltb (root_of b) (2 ^ 32) (div_below b (2 ^ 32) (2 ^ 32) (omega arith) (omega (arith, high))) in
    let second : nat_lt (second_of b) (2 ^ 32) ≡ true = lt-ltb (second_of b) (2 ^ 32) (mod_below b (2 ^ 32) (omega arith)) in
    let fits : nat_le (rank_of (root_of b) (second_of b)) top ≡ true = le-leb (rank_of (root_of b) (second_of b)) top (subst (λ n. n ≤ top) (sym whole) high) in
    rw root (rw second (rw fits (ap Some whole)))

end_back : (b : ℕ) (is_top : Bool) → (b == top) ≡ is_top → to_of (if is_top then string (codes "end") else json_of_bound b) ≡ Some (root_of b, second_of b)
unfolding serde_json_on_literals
end_back b true is = subst (λ n. to_of (string (codes "end")) ≡ Some (root_of n, second_of n)) (sym (eqb-true b top is)) refl
end_back b false is = refl

entry_back : (r : PlanRange) → entry_of (json_of_range r) ≡ Some (record { part = r.part; from = (root_of r.span.lo, second_of r.span.lo); to = (root_of r.span.hi, second_of r.span.hi) })
unfolding serde_json_on_literals
entry_back r = rw (end_back r.span.hi (r.span.hi == top) refl) refl

part_back : (r : PlanRange) → IsRange r → part_of (record { part = r.part; from = (root_of r.span.lo, second_of r.span.lo); to = (root_of r.span.hi, second_of r.span.hi) }) ≡ Some r.part
part_back r is = rw (lt-ltb r.part part_limit is.2) refl

bounds_back : (r : PlanRange) → IsRange r → bounds_of (record { part = r.part; from = (root_of r.span.lo, second_of r.span.lo); to = (root_of r.span.hi, second_of r.span.hi) }) ≡ Some (r.span.lo, r.span.hi)
bounds_back r is = rw (bound_back r.span.lo (omega (arith, is.0, is.1))) (rw (bound_back r.span.hi is.1) refl)

span_back : (r : PlanRange) → IsRange r → span_at r.span.lo r.span.hi ≡ Some r.span
span_back r is = rw (lt-ltb r.span.lo r.span.hi is.0) refl

range_back : (r : PlanRange) → IsRange r → range_of (record { part = r.part; from = (root_of r.span.lo, second_of r.span.lo); to = (root_of r.span.hi, second_of r.span.hi) }) ≡ Some r
range_back r is = rw (part_back r is) (rw (bounds_back r is) (rw (span_back r is) refl))

-- ---- the plan

listed_back : (rs : List PlanRange) → listed_in (json_of_plan rs) ≡ Some (map json_of_range rs)
unfolding serde_json_on_literals
listed_back rs = ap (λ ds. Some ds) (list_of_items (map json_of_range rs))

entries_back : (rs : List PlanRange) → AreRanges rs → entries_of (map json_of_range rs) ≡ Ok (map (λ (r : PlanRange). record { part = r.part; from = (root_of r.span.lo, second_of r.span.lo); to = (root_of r.span.hi, second_of r.span.hi) }) rs)
entries_back rs full =
    let all = each IsRange (λ r. entry_of (json_of_range r) ≡ Some (record { part = r.part; from = (root_of r.span.lo, second_of r.span.lo); to = (root_of r.span.hi, second_of r.span.hi) })) rs (λ r is. entry_back r) full in
    rw (none_lacks entry_of json_of_range (λ (r : PlanRange). record { part = r.part; from = (root_of r.span.lo, second_of r.span.lo); to = (root_of r.span.hi, second_of r.span.hi) }) rs all) (ap (λ es. Ok es) (all_kept entry_of json_of_range (λ (r : PlanRange). record { part = r.part; from = (root_of r.span.lo, second_of r.span.lo); to = (root_of r.span.hi, second_of r.span.hi) }) rs all))

ranges_back : (rs : List PlanRange) → AreRanges rs → ranges_in (map (λ (r : PlanRange). record { part = r.part; from = (root_of r.span.lo, second_of r.span.lo); to = (root_of r.span.hi, second_of r.span.hi) }) rs) ≡ Ok rs
ranges_back rs full =
    let all = each IsRange (λ r. range_of (record { part = r.part; from = (root_of r.span.lo, second_of r.span.lo); to = (root_of r.span.hi, second_of r.span.hi) }) ≡ Some r) rs range_back full in
    rw (none_lacks part_of (λ (r : PlanRange). record { part = r.part; from = (root_of r.span.lo, second_of r.span.lo); to = (root_of r.span.hi, second_of r.span.hi) }) (λ r. r.part) rs (each IsRange (λ r. part_of (record { part = r.part; from = (root_of r.span.lo, second_of r.span.lo); to = (root_of r.span.hi, second_of r.span.hi) }) ≡ Some r.part) rs part_back full))
    (rw (none_lacks bounds_of (λ (r : PlanRange). record { part = r.part; from = (root_of r.span.lo, second_of r.span.lo); to = (root_of r.span.hi, second_of r.span.hi) }) (λ r. (r.span.lo, r.span.hi)) rs (each IsRange (λ r. bounds_of (record { part = r.part; from = (root_of r.span.lo, second_of r.span.lo); to = (root_of r.span.hi, second_of r.span.hi) }) ≡ Some (r.span.lo, r.span.hi)) rs bounds_back full))
    (rw (none_lacks range_of (λ (r : PlanRange). record { part = r.part; from = (root_of r.span.lo, second_of r.span.lo); to = (root_of r.span.hi, second_of r.span.hi) }) (λ r. r) rs all) (ap (λ es. Ok es) (all_kept range_of (λ (r : PlanRange). record { part = r.part; from = (root_of r.span.lo, second_of r.span.lo); to = (root_of r.span.hi, second_of r.span.hi) }) (λ r. r) rs all ∙ same_list rs))))

data_back : (rs : List PlanRange) → AreRanges rs → ranges_of_data (json_of_plan rs) ≡ Ok rs
unfolding ranges_of_data
data_back rs full =
    ap (λ o. then_with ranges_in (then_with entries_of (or_fault (Shape None) o))) (listed_back rs) ∙ ap (λ es. then_with ranges_in es) (entries_back rs full) ∙ ranges_back rs full

pub text_back : (rs : List PlanRange) (text : List ℕ) → is_utf8 text ≡ true → read text ≡ Some (json_of_plan rs) → AreRanges rs → plan_of_ranges rs ≡ Ok rs → plan_of_text text ≡ Ok rs
unfolding plan_of_text
text_back rs text utf8 says full own =
    let spelled : data_of text ≡ Some (json_of_plan rs) = ap (λ b. if b then read text else None) utf8 ∙ says in
    ap (λ o. then_with plan_of_ranges (then_with ranges_of_data (or_fault Json o))) spelled ∙ ap (λ r. then_with plan_of_ranges r) (data_back rs full) ∙ own

-- ---- the plan of a plan's own ranges

settled : (rs : List PlanRange) (r : Result (List PlanRange) PlanFault) → IsArranged rs r → r ≢ Err NoMemory → IsCanonical rs
    → ((ps qs : List PlanRange) → IsCanonical ps → IsCanonical qs → ((k : ℕ) → k < top → owner_of ps k ≡ owner_of qs k) → ps ≡ qs)
    → ((e : PlanFault) → IsArranged rs (Err e) → e ≡ NoMemory) → r ≡ Ok rs
settled rs (Ok ps) is memory canonical one refused = ap (λ qs. Ok qs) (one ps rs is.1.canonical canonical is.1.owners)
settled rs (Err e) is memory canonical one refused = absurd (memory (ap (λ f. Err f) (refused e is)))

pub own_plan : (rs : List PlanRange) → IsCanonical rs → AreRanges rs → length rs ≤ range_limit
    → ((ps qs : List PlanRange) → IsCanonical ps → IsCanonical qs → ((k : ℕ) → k < top → owner_of ps k ≡ owner_of qs k) → ps ≡ qs)
    → ((ss : List PlanRange) (e : PlanFault) → AreRanges ss → ArePlan ss → length ss ≤ range_limit → IsArranged ss (Err e) → e ≡ NoMemory)
    → ((ps : List PlanRange) → IsCanonical ps → ArePlan ps)
    → ((ss : List PlanRange) → AreRanges ss → IsArranged ss (plan_of_ranges ss))
    → ((ss : List PlanRange) → AreRanges ss → plan_of_ranges ss ≢ Err NoMemory) → plan_of_ranges rs ≡ Ok rs
own_plan rs canonical full few one answer plan meaning memory =
    settled rs (plan_of_ranges rs) (meaning rs full) (memory rs full) canonical one (λ e is. answer rs e full (plan rs canonical) few is)
