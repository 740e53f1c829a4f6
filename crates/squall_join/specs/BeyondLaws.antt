-- The laws of what a number, a flag, a set, at most one value and a pair have beyond another (this project).
use Rattle.std.specs.Prelude.{◌≡◌, ◌≢◌, ℕ, ◌+◌, ◌<◌, ◌≤◌, max, Bool, true, false, not, ◌&&◌, ◌||◌, nat_lt, nat_le, cond, List, [], ◌∷◌, ◌↔◌, refl}
use Rattle.std.proofs.Common.{sym, ap, subst, ◌∙◌, arith, inl, inr}
use Rattle.std.proofs.lemmas.Bool.{cases_lt, true≢false, false≢true, and_parts}
use Rattle.std.proofs.lemmas.Bool.Decides.{nat_tests}
use Rattle.std.proofs.Math.Bool.{and-true, and-false}
use Rattle.squall_key.specs.Keys.{top}
use Rattle.squall_span.specs.Spans.{Interval, interval, has, IsSet, union, minus}
use Rattle.squall_span.specs.SpanLaws.{set-union, has-union, set-minus, has-minus, has_ended, same_spans}
use Rattle.squall_join.specs.declared.flat.Flat.{Flat}
use Rattle.squall_join.specs.declared.flat.Flat.TheVariants.{Unknown, One, Clash}
use Rattle.squall_join.specs.declared.pair.Pair.{Pair}
use Rattle.squall_join.specs.Laws.{JoinLaws, Covers}
use Rattle.squall_join.specs.Basic.{is_max}
use Rattle.squall_join.specs.BasicLaws.{max_laws, flag_laws}
use Rattle.squall_join.specs.FlatLaws.{flat_laws}
use Rattle.squall_join.specs.Units.{whole_unit, key_unit, pair_unit}
use Rattle.squall_join.specs.SetLaws.{covers_by_keys}
use Rattle.squall_join.specs.Flats.{IsExactEq, flat_is, flat_join}
use Rattle.squall_join.specs.Pairs.{pair_of, pair_is, pair_join}
use Rattle.squall_join.specs.PairLaws.{same_pair}
use Rattle.squall_join.specs.Rests.{BeyondLaws, max_beyond, flag_covered, flag_beyond, no_span, set_covered, flat_covered, flat_beyond, pair_covered, pair_beyond}

-- ---- one unit

-- a value that is one unit of its own is whole beyond what does not cover it
module _ {X : Type 0} {is_value : X → Type 0} {bottom : X} {join : X → X → X} (covered : X → X → Bool) (beyond : X → X → X) (l : JoinLaws is_value bottom join) (x y : X) (a : is_value x) (whole : covered x y ≡ false → beyond x y ≡ x) where
  whole_has : (u : X) → u ≡ x → covered u y ≡ false → join (beyond x y) u ≡ beyond x y
  whole_has u e t = let is = whole (ap (λ v. covered v y) (sym e) ∙ t) in (λ i. join (is i) (e i)) ∙ l.idem x a ∙ sym is

  whole_least : (z : X) → is_value z → (covered x y ≡ true → beyond x y ≡ bottom) → ((u : X) → u ≡ x → covered u y ≡ false → join z u ≡ z) → join z (beyond x y) ≡ z
  whole_least z b nothing h = elim (covered x y) as (λ t. covered x y ≡ t → join z (beyond x y) ≡ z) [
    | true ↦ λ t. ap (join z) (nothing t) ∙ l.neutral z b
    | false ↦ λ t. ap (join z) (whole t) ∙ h x refl t
  ] refl

-- ---- numbers and flags

max_cases : (P : ℕ → Type 0) (x y : ℕ) → (y < x → P x) → (x ≤ y → P 0) → P (max_beyond x y)
max_cases P x y f g = elim (nat_lt y x) as (λ b. nat_lt y x ≡ b → P (cond b x 0)) [
  | true ↦ λ e. f (grind (arith, nat_tests))
  | false ↦ λ e. g (grind (arith, nat_tests))
] refl

max_tested : (x y : ℕ) → (nat_le x y ≡ true) ↔ (max y x ≡ y)
max_tested x y = (λ e. let le : x ≤ y = grind (arith, nat_tests) in omega arith, λ e. let le : x ≤ y = omega arith in grind (arith, nat_tests))

max_nothing : (x y : ℕ) → nat_le x y ≡ true → max_beyond x y ≡ 0
max_nothing x y e = let le : x ≤ y = grind (arith, nat_tests) in max_cases (λ r. r ≡ 0) x y (λ lt. absurd (omega arith)) (λ _. refl)

max_whole : (x y : ℕ) → nat_le x y ≡ false → max_beyond x y ≡ x
max_whole x y e = let lt : y < x = grind (arith, nat_tests) in max_cases (λ r. r ≡ x) x y (λ _. refl) (λ le. omega arith)

pub max_beyond_laws : BeyondLaws is_max 0 max nat_le whole_unit max_beyond
max_beyond_laws = record {
  closed = λ x y a b. max_cases is_max x y (λ _. a) (λ _. omega arith);
  tested = λ x y a b. max_tested x y;
  nothing = λ x y a b. max_nothing x y;
  some = λ x y a b e. let lt : y < x = grind (arith, nat_tests) in max_cases (λ r. r ≢ 0) x y (λ _ is. omega arith) (λ le is. omega arith);
  joined = λ x y a b. max_cases (λ r. max r y ≡ max x y) x y (λ _. refl) (λ le. omega arith);
  at_most = λ x y a b. max_cases (λ r. max x r ≡ x) x y (λ _. omega arith) (λ _. omega arith);
  unit_is = λ x u a e. subst is_max (sym e) a;
  unit_in = λ x u a e. ap (max x) e ∙ max_laws.idem x a;
  has = λ x y u a b. whole_has nat_le max_beyond max_laws x y a (max_whole x y) u;
  least = λ x y z a b c. whole_least nat_le max_beyond max_laws x y a (max_whole x y) z c (max_nothing x y);
}

flag_tested : (x y : Bool) → (flag_covered x y ≡ true) ↔ ((y || x) ≡ y)
flag_tested true true = (λ e. refl, λ e. refl)
flag_tested true false = (λ e. sym e, λ e. sym e)
flag_tested false true = (λ e. refl, λ e. refl)
flag_tested false false = (λ e. refl, λ e. refl)

flag_nothing : (x y : Bool) → flag_covered x y ≡ true → flag_beyond x y ≡ false
flag_nothing true true e = refl
flag_nothing true false e = sym e
flag_nothing false y e = refl

flag_some : (x y : Bool) → flag_covered x y ≡ false → flag_beyond x y ≢ false
flag_some true true e is = true≢false e
flag_some true false e is = true≢false is
flag_some false y e is = true≢false e

flag_joined : (x y : Bool) → (flag_beyond x y || y) ≡ (x || y)
flag_joined true true = refl
flag_joined true false = refl
flag_joined false y = refl

flag_at_most : (x y : Bool) → (x || flag_beyond x y) ≡ x
flag_at_most true y = refl
flag_at_most false y = refl

flag_whole : (x y : Bool) → flag_covered x y ≡ false → flag_beyond x y ≡ x
flag_whole true true e = sym e
flag_whole true false e = refl
flag_whole false y e = refl

pub flag_beyond_laws : BeyondLaws (λ _. Unit {0}) false ◌||◌ flag_covered whole_unit flag_beyond
flag_beyond_laws = record {
  closed = λ x y a b. tt;
  tested = λ x y a b. flag_tested x y;
  nothing = λ x y a b. flag_nothing x y;
  some = λ x y a b. flag_some x y;
  joined = λ x y a b. flag_joined x y;
  at_most = λ x y a b. flag_at_most x y;
  unit_is = λ x u a e. tt;
  unit_in = λ x u a e. ap (λ v. x || v) e ∙ flag_laws.idem x a;
  has = λ x y u a b. whole_has flag_covered flag_beyond flag_laws x y a (flag_whole x y) u;
  least = λ x y z a b c. whole_least flag_covered flag_beyond flag_laws x y a (flag_whole x y) z c (flag_nothing x y);
}

-- ---- sets of keys

no_span_is : (ss : List Interval) → (no_span ss ≡ true) ↔ (ss ≡ [])
no_span_is [] = (λ e. refl, λ e. refl)
no_span_is (s ∷ ss) = (λ e. absurd (false≢true e), λ e. absurd (let bad : ⊥ = cc in bad))

-- no key is left if the second set has each key of the first
left_none : (x y : Bool) → (x ≡ true → y ≡ true) → (x && not y) ≡ false
left_none true y f = ap not (f refl)
left_none false y f = refl

left_all : (x y : Bool) → (x && not y) ≡ false → x ≡ true → y ≡ true
left_all true true e h = refl
left_all true false e h = sym e
left_all false y e h = absurd (false≢true h)

set_tested : (x y : List Interval) → IsSet x → IsSet y → (set_covered x y ≡ true) ↔ Covers union y x
set_tested x y a b = (
  λ e. let none : minus x y ≡ [] = (no_span_is (minus x y)).0 e in (covers_by_keys y x b a).1 (λ k. left_all (has x k) (has y k) (sym (has-minus x y k) ∙ ap (λ ss. has ss k) none)),
  λ e. (no_span_is (minus x y)).1 (same_spans (minus x y) [] (set-minus x y a b) (tt, tt) (λ k _. has-minus x y k ∙ left_none (has x k) (has y k) ((covers_by_keys y x b a).0 e k))),
)

left_joined : (x y : Bool) → ((x && not y) || y) ≡ (x || y)
left_joined true true = refl
left_joined true false = refl
left_joined false y = refl

left_at_most : (x y : Bool) → (x && not y) ≡ true → x ≡ true
left_at_most true y e = refl
left_at_most false y e = e

one_key : (k j : ℕ) → has (interval k (k + 1) ∷ []) j ≡ true → j ≡ k
one_key k j h = grind (arith, nat_tests)

has_one_key : (k : ℕ) → has (interval k (k + 1) ∷ []) k ≡ true
has_one_key k = grind (arith, nat_tests)

key_is : (x : List Interval) (k : ℕ) → IsSet x → has x k ≡ true → IsSet (interval k (k + 1) ∷ [])
key_is x k a h = elim (cases_lt k top) [
  | inl lt ↦ ((omega arith, tt, tt), (omega arith, tt))
  | inr ge ↦ absurd (true≢false (sym h ∙ has_ended top k x a.1 ge))
]

-- a set has a key if it covers the set of that key alone
key_covered : (x : List Interval) (k : ℕ) → IsSet x → IsSet (interval k (k + 1) ∷ []) → Covers union x (interval k (k + 1) ∷ []) ↔ (has x k ≡ true)
key_covered x k a b = (
  λ e. (covers_by_keys x (interval k (k + 1) ∷ []) a b).0 e k (has_one_key k),
  λ h. (covers_by_keys x (interval k (k + 1) ∷ []) a b).1 (λ j g. subst (λ i. has x i ≡ true) (sym (one_key k j g)) h),
)

-- the keys that are left
left_here : (x y : Bool) → x ≡ true → (y ≡ true → ⊥) → (x && not y) ≡ true
left_here x true p q = absurd (q refl)
left_here x false p q = ap (λ v. v && true) p

left_not : (x y : Bool) → (x && not y) ≡ true → y ≡ true → ⊥
left_not x true e h = false≢true (sym (and-false x) ∙ e)
left_not x false e h = false≢true h

lacks : (t : Bool) → (t ≡ true → ⊥) → t ≡ false
lacks true f = absurd (f refl)
lacks false f = refl

key_has : (x y : List Interval) (k : ℕ) → IsSet x → IsSet y → has x k ≡ true → set_covered (interval k (k + 1) ∷ []) y ≡ false → Covers union (minus x y) (interval k (k + 1) ∷ [])
key_has x y k a b h t =
    let u = key_is x k a h in
    (key_covered (minus x y) k (set-minus x y a b) u).1 (has-minus x y k ∙ left_here (has x k) (has y k) h (λ g. true≢false (sym ((set_tested _ y u b).1 ((key_covered y k b u).1 g)) ∙ t)))

key_least : (x y z : List Interval) → IsSet x → IsSet y → IsSet z → ((u : List Interval) → key_unit x u → set_covered u y ≡ false → Covers union z u) → Covers union z (minus x y)
key_least x y z a b c h = (covers_by_keys z (minus x y) c (set-minus x y a b)).1 (λ k g.
    let left = sym (has-minus x y k) ∙ g in
    let mine = left_at_most (has x k) (has y k) left in
    let u = key_is x k a mine in
    (key_covered z k c u).0 (h (interval k (k + 1) ∷ []) (k, mine, refl) (lacks _ (λ t. left_not (has x k) (has y k) left ((key_covered y k b u).0 ((set_tested _ y u b).0 t))))))

pub set_beyond_laws : BeyondLaws IsSet [] union set_covered key_unit minus
set_beyond_laws = record {
  closed = λ x y a b. set-minus x y a b;
  tested = set_tested;
  nothing = λ x y a b. (no_span_is (minus x y)).0;
  some = λ x y a b e is. false≢true (sym e ∙ (no_span_is (minus x y)).1 is);
  joined = λ x y a b. same_spans (union (minus x y) y) (union x y) (set-union (minus x y) y (set-minus x y a b) b) (set-union x y a b) (λ k _.
      has-union (minus x y) y k (set-minus x y a b).0 b.0 ∙ ap (λ h. h || has y k) (has-minus x y k) ∙ left_joined (has x k) (has y k) ∙ sym (has-union x y k a.0 b.0));
  at_most = λ x y a b. (covers_by_keys x (minus x y) a (set-minus x y a b)).1 (λ k h. left_at_most (has x k) (has y k) (sym (has-minus x y k) ∙ h));
  unit_is = λ x u a e. subst IsSet (sym e.2) (key_is x e.0 a e.1);
  unit_in = λ x u a e. subst (Covers union x) (sym e.2) ((key_covered x e.0 a (key_is x e.0 a e.1)).1 e.1);
  has = λ x y u a b e t. subst (Covers union (minus x y)) (sym e.2) (key_has x y e.0 a b e.1 (ap (λ v. set_covered v y) (sym e.2) ∙ t));
  least = key_least;
}

-- ---- at most one value

abbrev kind_of : {T : Type 0} → Flat T → ℕ
kind_of Unknown = 0
kind_of (One x) = 1
kind_of Clash = 2

unlike : {T : Type 0} (x y : Flat T) → (kind_of x ≡ kind_of y → ⊥) → x ≢ y
unlike x y differ is = differ (ap kind_of is)

module _ {T : Type 0} {P : T → Type 0} {eq : T → T → Bool} (e : IsExactEq P eq) where
  flat_tested : (x y : Flat T) → flat_is P x → flat_is P y → (flat_covered eq x y ≡ true) ↔ (flat_join eq y x ≡ y)
  flat_tested Unknown Unknown a b = (λ _. refl, λ _. refl)
  flat_tested Unknown (One y) a b = (λ _. refl, λ _. refl)
  flat_tested Unknown Clash a b = (λ _. refl, λ _. refl)
  flat_tested (One x) Unknown a b = (λ t. absurd (false≢true t), λ t. let bad : 1 ≡ 0 = ap kind_of t in absurd (omega arith))
  flat_tested (One x) (One y) a b = (
    λ t. ap (λ u. cond u (One y) Clash) (subst (λ z. eq z x ≡ true) (e.same x y a b t) (e.itself x a)),
    λ t. elim (eq y x) as (λ u. eq y x ≡ u → cond u (One y) Clash ≡ One y → eq x y ≡ true) [
      | true ↦ λ u _. subst (λ z. eq z y ≡ true) (e.same y x b a u) (e.itself y b)
      | false ↦ λ _ v. let bad : 2 ≡ 1 = ap kind_of v in absurd (omega arith)
    ] refl t,
  )
  flat_tested (One x) Clash a b = (λ _. refl, λ _. refl)
  flat_tested Clash Unknown a b = (λ t. absurd (false≢true t), λ t. let bad : 2 ≡ 0 = ap kind_of t in absurd (omega arith))
  flat_tested Clash (One y) a b = (λ t. absurd (false≢true t), λ t. let bad : 2 ≡ 1 = ap kind_of t in absurd (omega arith))
  flat_tested Clash Clash a b = (λ _. refl, λ _. refl)

  flat_closed : (x y : Flat T) → flat_is P x → flat_is P y → flat_is P (flat_beyond eq x y)
  flat_closed Unknown y a b = tt
  flat_closed (One x) Unknown a b = a
  flat_closed (One x) (One y) a b = elim (eq x y) as (λ t. flat_is P (cond t Unknown (One x))) [ true ↦ tt | false ↦ a ]
  flat_closed (One x) Clash a b = tt
  flat_closed Clash Unknown a b = tt
  flat_closed Clash (One y) a b = tt
  flat_closed Clash Clash a b = tt

  flat_nothing : (x y : Flat T) → flat_covered eq x y ≡ true → flat_beyond eq x y ≡ Unknown
  flat_nothing Unknown y t = refl
  flat_nothing (One x) Unknown t = absurd (false≢true t)
  flat_nothing (One x) (One y) t = ap (λ u. cond u Unknown (One x)) t
  flat_nothing (One x) Clash t = refl
  flat_nothing Clash Unknown t = absurd (false≢true t)
  flat_nothing Clash (One y) t = absurd (false≢true t)
  flat_nothing Clash Clash t = refl

  flat_some : (x y : Flat T) → flat_covered eq x y ≡ false → flat_beyond eq x y ≢ Unknown
  flat_some Unknown y t is = true≢false t
  flat_some (One x) Unknown t is = unlike (One x) Unknown (λ k. omega (arith, k)) is
  flat_some (One x) (One y) t is = unlike (One x) Unknown (λ k. omega (arith, k)) (sym (ap (λ u. cond u Unknown (One x)) t) ∙ is)
  flat_some (One x) Clash t is = true≢false t
  flat_some Clash Unknown t is = unlike Clash Unknown (λ k. omega (arith, k)) is
  flat_some Clash (One y) t is = unlike Clash Unknown (λ k. omega (arith, k)) is
  flat_some Clash Clash t is = true≢false t

  flat_joined : (x y : Flat T) → flat_is P x → flat_is P y → flat_join eq (flat_beyond eq x y) y ≡ flat_join eq x y
  flat_joined Unknown y a b = refl
  flat_joined (One x) Unknown a b = refl
  flat_joined (One x) (One y) a b = elim (eq x y) as (λ t. eq x y ≡ t → flat_join eq (cond t Unknown (One x)) (One y) ≡ cond t (One x) Clash) [
    | true ↦ λ t. ap One (sym (e.same x y a b t))
    | false ↦ λ t. ap (λ u. cond u (One x) Clash) t
  ] refl
  flat_joined (One x) Clash a b = refl
  flat_joined Clash Unknown a b = refl
  flat_joined Clash (One y) a b = refl
  flat_joined Clash Clash a b = refl

  flat_at_most : (x y : Flat T) → flat_is P x → flat_join eq x (flat_beyond eq x y) ≡ x
  flat_at_most Unknown y a = refl
  flat_at_most (One x) Unknown a = ap (λ t. cond t (One x) Clash) (e.itself x a)
  flat_at_most (One x) (One y) a = elim (eq x y) as (λ t. flat_join eq (One x) (cond t Unknown (One x)) ≡ One x) [
    | true ↦ refl
    | false ↦ ap (λ t. cond t (One x) Clash) (e.itself x a)
  ]
  flat_at_most (One x) Clash a = refl
  flat_at_most Clash y a = refl

  flat_whole : (x y : Flat T) → flat_covered eq x y ≡ false → flat_beyond eq x y ≡ x
  flat_whole Unknown y t = refl
  flat_whole (One x) Unknown t = refl
  flat_whole (One x) (One y) t = ap (λ u. cond u Unknown (One x)) t
  flat_whole (One x) Clash t = absurd (true≢false t)
  flat_whole Clash Unknown t = refl
  flat_whole Clash (One y) t = refl
  flat_whole Clash Clash t = absurd (true≢false t)

  pub flat_beyond_laws : BeyondLaws (flat_is P) Unknown (flat_join eq) (flat_covered eq) whole_unit (flat_beyond eq)
  flat_beyond_laws = record {
    closed = flat_closed;
    tested = flat_tested;
    nothing = λ x y a b. flat_nothing x y;
    some = λ x y a b. flat_some x y;
    joined = flat_joined;
    at_most = λ x y a b. flat_at_most x y a;
    unit_is = λ x u a t. subst (flat_is P) (sym t) a;
    unit_in = λ x u a t. ap (flat_join eq x) t ∙ (flat_laws e).idem x a;
    has = λ x y u a b. whole_has (flat_covered eq) (flat_beyond eq) (flat_laws e) x y a (flat_whole x y) u;
    least = λ x y z a b c. whole_least (flat_covered eq) (flat_beyond eq) (flat_laws e) x y a (flat_whole x y) z c (flat_nothing x y);
  }

-- ---- pairs

and_true : (a b : Bool) → a ≡ true → b ≡ true → (a && b) ≡ true
and_true a b p q = ap (λ x. x && b) p ∙ q

-- the least value is covered by all
pub bottom_covered : {X : Type 0} {is_value : X → Type 0} {bottom : X} {join : X → X → X} {covered : X → X → Bool} {unit : X → X → Type 0} {beyond : X → X → X} → JoinLaws is_value bottom join → BeyondLaws is_value bottom join covered unit beyond → (x : X) → is_value x → covered bottom x ≡ true
bottom_covered l m x a = (m.tested _ x l.bottom_is a).1 (l.neutral x a)

-- one half is not covered if the other is, and the pair is not
not_first : (a b : Bool) → b ≡ true → (a && b) ≡ false → a ≡ false
not_first a b p e = sym (and-true a) ∙ ap (λ x. a && x) (sym p) ∙ e

not_second : (a b : Bool) → a ≡ true → (a && b) ≡ false → b ≡ false
not_second a b p e = ap (λ x. x && b) (sym p) ∙ e

and_not : (a b : Bool) → b ≡ false → (a && b) ≡ false
and_not a b e = ap (λ x. a && x) e ∙ and-false a

module _ {A B : Type 0} {P : A → Type 0} {Q : B → Type 0} {a : A} {b : B} {f : A → A → A} {g : B → B → B} {s : A → A → Bool} {t : B → B → Bool} {v : A → A → Type 0} {w : B → B → Type 0} {h : A → A → A} {k : B → B → B} (i : JoinLaws P a f) (j : JoinLaws Q b g) (l : BeyondLaws P a f s v h) (m : BeyondLaws Q b g t w k) where
  pair_tested : (x y : Pair A B) → pair_is P Q x → pair_is P Q y → (pair_covered s t x y ≡ true) ↔ Covers (pair_join f g) y x
  pair_tested x y p q = (
    λ e. let parts = and_parts (s x.first y.first) (t x.second y.second) e in same_pair _ _ _ _ ((l.tested _ _ p.0 q.0).0 parts.0) ((m.tested _ _ p.1 q.1).0 parts.1),
    λ e. and_true _ _ ((l.tested _ _ p.0 q.0).1 (ap (λ z. z.first) e)) ((m.tested _ _ p.1 q.1).1 (ap (λ z. z.second) e)),
  )

  pair_some : (x y : Pair A B) → pair_is P Q x → pair_is P Q y → pair_covered s t x y ≡ false → pair_beyond h k x y ≢ pair_of a b
  pair_some x y p q e is = elim (s x.first y.first) as (λ u. s x.first y.first ≡ u → (u && t x.second y.second) ≡ false → ⊥) [
    | true ↦ λ _ u. m.some _ _ p.1 q.1 u (ap (λ (z : Pair A B). z.second) is)
    | false ↦ λ u _. l.some _ _ p.0 q.0 u (ap (λ (z : Pair A B). z.first) is)
  ] refl e

  pair_unit_is : (x u : Pair A B) → pair_is P Q x → pair_unit v w a b x u → pair_is P Q u
  pair_unit_is x u p (inl e) = (l.unit_is _ _ p.0 e.0, subst Q (sym e.1) j.bottom_is)
  pair_unit_is x u p (inr e) = (subst P (sym e.0) i.bottom_is, m.unit_is _ _ p.1 e.1)

  pair_unit_in : (x u : Pair A B) → pair_is P Q x → pair_unit v w a b x u → Covers (pair_join f g) x u
  pair_unit_in x u p (inl e) = same_pair _ _ _ _ (l.unit_in _ _ p.0 e.0) (ap (g x.second) e.1 ∙ j.neutral _ p.1)
  pair_unit_in x u p (inr e) = same_pair _ _ _ _ (ap (f x.first) e.0 ∙ i.neutral _ p.0) (m.unit_in _ _ p.1 e.1)

  pair_has : (x y u : Pair A B) → pair_is P Q x → pair_is P Q y → pair_unit v w a b x u → pair_covered s t u y ≡ false → Covers (pair_join f g) (pair_beyond h k x y) u
  pair_has x y u p q (inl e) c = same_pair _ _ _ _
      (l.has _ _ _ p.0 q.0 e.0 (not_first _ _ (ap (λ z. t z y.second) e.1 ∙ bottom_covered j m y.second q.1) c))
      (ap (g (k x.second y.second)) e.1 ∙ j.neutral _ (m.closed _ _ p.1 q.1))
  pair_has x y u p q (inr e) c = same_pair _ _ _ _
      (ap (f (h x.first y.first)) e.0 ∙ i.neutral _ (l.closed _ _ p.0 q.0))
      (m.has _ _ _ p.1 q.1 e.1 (not_second _ _ (ap (λ z. s z y.first) e.0 ∙ bottom_covered i l y.first q.0) c))

  pair_least : (x y z : Pair A B) → pair_is P Q x → pair_is P Q y → pair_is P Q z → ((u : Pair A B) → pair_unit v w a b x u → pair_covered s t u y ≡ false → Covers (pair_join f g) z u) → Covers (pair_join f g) z (pair_beyond h k x y)
  pair_least x y z p q r all = same_pair _ _ _ _
      (l.least _ _ _ p.0 q.0 r.0 (λ u e c. ap (λ (n : Pair A B). n.first) (all (pair_of u b) (inl (e, refl)) (ap (λ n. n && t b y.second) c))))
      (m.least _ _ _ p.1 q.1 r.1 (λ u e c. ap (λ (n : Pair A B). n.second) (all (pair_of a u) (inr (refl, e)) (and_not _ _ c))))

  pub pair_beyond_laws : BeyondLaws (pair_is P Q) (pair_of a b) (pair_join f g) (pair_covered s t) (pair_unit v w a b) (pair_beyond h k)
  pair_beyond_laws = record {
    closed = λ x y p q. (l.closed _ _ p.0 q.0, m.closed _ _ p.1 q.1);
    tested = pair_tested;
    nothing = λ x y p q e. let parts = and_parts (s x.first y.first) (t x.second y.second) e in same_pair _ _ _ _ (l.nothing _ _ p.0 q.0 parts.0) (m.nothing _ _ p.1 q.1 parts.1);
    some = pair_some;
    joined = λ x y p q. same_pair _ _ _ _ (l.joined _ _ p.0 q.0) (m.joined _ _ p.1 q.1);
    at_most = λ x y p q. same_pair _ _ _ _ (l.at_most _ _ p.0 q.0) (m.at_most _ _ p.1 q.1);
    unit_is = pair_unit_is;
    unit_in = pair_unit_in;
    has = pair_has;
    least = pair_least;
  }
