-- What is left of a set when the keys of a span go.
use Rattle.std.proofs.Common.{◌≡◌, ℕ, ◌+◌, ◌<◌, ◌≤◌, true, false, cond, List, [], ◌∷◌, ◌++◌, length, get_or, set, take, drop, option_to_list, Option, None, Some, Result, Ok, Err, OnOk, OnErr, not, ◌&&◌, nat_lt, refl, sym, ap, subst, ◌∙◌, arith, inl, inr}
use Rattle.std.proofs.Math.Bool.{or-false}
use Rattle.std.proofs.lemmas.Bool.{cases_lt}
use Rattle.std.proofs.lemmas.Bool.Decides.{nat_tests}
use Rattle.std.proofs.lemmas.List.{append-nil, append_assoc, take-take, drop-set, get_or_read}
use Rattle.squall_key.specs.Keys.{top}
use Rattle.squall_span.specs.Spans.{Interval, interval, span_at, span_has, has, IsSet, keys_below, keys_from, without_span}
use Rattle.squall_span.specs.SpanLaws.{set-minus, has-minus}
use Rattle.squall_span.specs.Places.{Ended, IsCut}
use Rattle.squall_span.proofs.Cutting.{cut_past, cut_before, cut_within}
use Rattle.squall_span.proofs.Made.{made_below, made_from}
use Rattle.squall_span.proofs.Places.{from_place}

below_of : (xs below others : List Interval) (bound : ℕ) → IsSet xs → IsCut xs bound below others → below ≡ keys_below bound xs
below_of xs below others bound c p = made_below bound xs below c p.below_canonical p.below_keys

from_of : (xs below others : List Interval) (bound : ℕ) → IsSet xs → IsCut xs bound below others → others ≡ keys_from bound xs
from_of xs below others bound c p = made_from bound xs others c p.others_canonical p.others_keys

-- ---- what is kept below a bound

pub head_past : (xs : List Interval) (bound i : ℕ) → IsSet xs → Ended xs bound i → length xs ≤ i → take i xs ++ [] ≡ keys_below bound xs
head_past xs bound i c e le = append-nil (take i xs) ∙ below_of xs _ _ bound c (cut_past xs bound i (take i xs) (drop i xs) c.0 e le refl refl)

span_some : (lo hi : ℕ) → lo < hi → span_at lo hi ≡ Some (interval lo hi)
span_some lo hi lt = let e : nat_lt lo hi ≡ true = grind (arith, nat_tests) in ap (λ b. cond b (Some (interval lo hi)) None) e

span_none : (lo hi : ℕ) → hi ≤ lo → span_at lo hi ≡ None
span_none lo hi le = let e : nat_lt lo hi ≡ false = grind (arith, nat_tests) in ap (λ b. cond b (Some (interval lo hi)) None) e

pub head_at : (xs : List Interval) (bound i lo : ℕ) (x : Interval) (h : Option Interval) → IsSet xs → Ended xs bound i → i < length xs → x ≡ get_or xs i x → lo ≡ x.lo → h ≡ span_at lo bound → take i xs ++ option_to_list h ≡ keys_below bound xs
head_at xs bound i lo x h c e lt is low h_is =
    let head : h ≡ span_at x.lo bound = h_is ∙ ap (λ n. span_at n bound) low in
    elim (cases_lt x.lo bound) [
      | inl below ↦
          ap (λ o. take i xs ++ option_to_list o) (head ∙ span_some x.lo bound below)
          ∙ below_of xs _ _ bound c (cut_within xs bound i x (drop (i + 1) xs) c.0 e (from_place xs i x lt is) below)
      | inr from ↦
          ap (λ o. take i xs ++ option_to_list o) (head ∙ span_none x.lo bound from)
          ∙ append-nil (take i xs)
          ∙ below_of xs _ _ bound c (cut_before xs bound i (take i xs) (drop i xs) x c.0 e lt is from refl refl)
    ]

-- ---- what is kept from a bound on

pub tail_past : (xs : List Interval) (bound i : ℕ) → IsSet xs → Ended xs bound i → length xs ≤ i → drop i xs ≡ keys_from bound xs
tail_past xs bound i c e le = from_of xs _ _ bound c (cut_past xs bound i (take i xs) (drop i xs) c.0 e le refl refl)

pub tail_whole : (xs : List Interval) (bound i : ℕ) (x : Interval) → IsSet xs → Ended xs bound i → i < length xs → x ≡ get_or xs i x → bound ≤ x.lo → drop i xs ≡ keys_from bound xs
tail_whole xs bound i x c e lt is from = from_of xs _ _ bound c (cut_before xs bound i (take i xs) (drop i xs) x c.0 e lt is from refl refl)

pub tail_cut : (xs : List Interval) (bound i hi : ℕ) (x z v : Interval) → IsSet xs → Ended xs bound i → i < length xs → x ≡ get_or xs i x → z ≡ get_or xs i z → x.lo < bound → hi ≡ z.hi → v ≡ interval bound hi → drop i (set xs i v) ≡ keys_from bound xs
tail_cut xs bound i hi x z v c e lt is is_z below high v_is =
    let same : z ≡ x = get_or_read xs i z lt is_z x ∙ sym is in
    let cut : v ≡ interval bound x.hi = v_is ∙ ap (λ n. interval bound n) (high ∙ ap (λ (t : Interval). t.hi) same) in
    drop-set xs i v lt ∙ ap (λ t. t ∷ drop (i + 1) xs) cut ∙ from_of xs _ _ bound c (cut_within xs bound i x (drop (i + 1) xs) c.0 e (from_place xs i x lt is) below)

-- ---- the whole

-- the higher the bound, the more spans end by it
pub ends_in_order : (xs ys zs : List Interval) (lo hi i j : ℕ) → xs ≡ zs → ys ≡ zs → lo < hi → Ended xs lo i → Ended ys hi j → i ≤ j
ends_in_order xs ys zs lo hi i j p q lt e f =
    let f2 : Ended xs hi j = subst (λ l. Ended l hi j) (q ∙ sym p) f in
    elim (cases_lt j i) [
      | inl early ↦
          let d = interval 0 0 in
          absurd (omega (arith, e.before j d early, f2.from j d (omega arith) (omega (arith, e.within))))
      | inr le ↦ le
    ]

-- the list up to one place, and the rest from another
pub removed : (s : Interval) (xs ys made : List Interval) (i j : ℕ) (h : Option Interval) → i ≤ j → take i xs ++ option_to_list h ≡ keys_below s.lo xs → take j ys ≡ take j xs → drop j ys ≡ keys_from s.hi xs → made ≡ take i ys ++ (option_to_list h ++ drop j ys) → made ≡ without_span s xs
removed s xs ys made i j h le head front rest e =
    let first : take i ys ≡ take i xs = sym (take-take i j ys le) ∙ ap (take i) front ∙ take-take i j xs le in
    e ∙ sym (append_assoc (take i ys) (option_to_list h) (drop j ys)) ∙ (λ k. (first k ++ option_to_list h) ++ rest k) ∙ ap (λ l. l ++ keys_from s.hi xs) head

-- the same, of bounds and a list that were read
pub removed_by : (s : Interval) (xs zs ys made : List Interval) (i j lo hi : ℕ) (h : Option Interval) → i ≤ j → zs ≡ xs → lo ≡ s.lo → hi ≡ s.hi → take i zs ++ option_to_list h ≡ keys_below lo zs → take j ys ≡ take j xs → drop j ys ≡ keys_from hi xs → made ≡ take i ys ++ (option_to_list h ++ drop j ys) → made ≡ without_span s xs
removed_by s xs zs ys made i j lo hi h le is low high head front rest e =
    removed s xs ys made i j h le
    (subst (λ n. take i xs ++ option_to_list h ≡ keys_below n xs) low (subst (λ l. take i l ++ option_to_list h ≡ keys_below lo l) is head))
    front
    (rest ∙ ap (λ n. keys_from n xs) high)
    e

pub set_without : (s : Interval) (xs : List Interval) → s.lo < s.hi → s.hi ≤ top → IsSet xs → IsSet (without_span s xs)
set_without s xs p le c = set-minus xs (s ∷ []) c ((p, tt, tt), (le, tt))

pub keys_without : (s : Interval) (xs : List Interval) (k : ℕ) → has (without_span s xs) k ≡ (has xs k && not (span_has s k))
keys_without s xs k = has-minus xs (s ∷ []) k ∙ ap (λ b. has xs k && not b) (or-false (span_has s k))

-- what the answer of a removal says of the set
pub kept_set : {T E : Type 0} (s : Interval) (old new : List Interval) (r : Result T E) → s.lo < s.hi → s.hi ≤ top → IsSet old → OnOk r (new ≡ without_span s old) → OnErr r (new ≡ old) → IsSet new
kept_set s old new (Ok x) p le c ok err = subst IsSet (sym ok) (set_without s old p le c)
kept_set s old new (Err e) p le c ok err = subst IsSet (sym err) c

pub removed_keys : {T E : Type 0} (s : Interval) (old new view : List Interval) (r : Result T E) → old ≡ view → OnOk r (new ≡ without_span s old) → OnOk r ((k : ℕ) → has new k ≡ (has view k && not (span_has s k)))
removed_keys s old new view (Ok x) is ok = λ k. ap (λ l. has l k) ok ∙ keys_without s old k ∙ ap (λ l. has l k && not (span_has s k)) is
removed_keys s old new view (Err e) is ok = tt
