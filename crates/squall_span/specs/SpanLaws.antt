-- Laws of sets of keys: a set has one list of spans, and the keys of each operation (this project).
use Rattle.std.specs.Prelude.{◌≡◌, ◌↔◌, ℕ, ◌+◌, ◌<◌, ◌≤◌, min, max, Bool, true, false, ◌||◌, ◌&&◌, not, nat_lt, nat_le, List, [], ◌∷◌, ◌++◌, cond, Some, refl}
use Rattle.std.proofs.Common.{sym, ap, subst, ◌∙◌, arith, inl, inr}
use Rattle.std.proofs.Math.Bool.{or_assoc, or_comm, or_self, or-false, and_comm, and-true, and-false}
use Rattle.std.proofs.lemmas.Bool.{cases_lt, false≢true, and_parts, and_left, and_right}
use Rattle.std.proofs.lemmas.Option.{same_Some}
use Rattle.std.proofs.lemmas.Bool.Decides.{nat_tests}
use Rattle.std.proofs.Common.{rules}
use Rattle.std.specs.Cmp.{IsEquivalence, IsPartialEquivalence, partial_equiv_from_equiv}
use Rattle.std.specs.Cmp.Lexicographic.{lists_equiv}
use Rattle.std.specs.Cmp.Rules.{comparing}
use Rattle.squall_key.specs.Keys.{top}
use Rattle.squall_span.specs.Spans.{interval_eq, spans_eq, Interval, interval, span_has, has, Beyond, IsCanonical, EndsBy, IsSet, hull, insert_span, union, spans_between, keys_below, keys_from, without_span, minus, meet, first_span, IsFirstRun}

pub outside_below : (s : Interval) (k : ℕ) → k < s.lo → span_has s k ≡ false
outside_below s k lt = grind (arith, nat_tests)

pub outside_above : (s : Interval) (k : ℕ) → s.hi ≤ k → span_has s k ≡ false
outside_above s k le = grind (arith, nat_tests)

pub inside : (s : Interval) (k : ℕ) → s.lo ≤ k → k < s.hi → span_has s k ≡ true
inside s k le lt = grind (arith, nat_tests)

beyond_weaker : (g h : ℕ) (ss : List Interval) → g ≤ h → Beyond h ss → Beyond g ss
beyond_weaker g h [] le b = tt
beyond_weaker g h (s ∷ ss) le b = omega (arith, b)

-- no key up to h
pub has_below : (h k : ℕ) (ss : List Interval) → Beyond h ss → IsCanonical ss → k ≤ h → has ss k ≡ false
has_below h k [] b c le = refl
has_below h k (s ∷ ss) b c le =
    ap (λ x. x || has ss k) (outside_below s k (omega (arith, b))) ∙ has_below s.hi k ss c.1 c.2 (omega (arith, b, c.0))

pub has_hull : (s t : Interval) (k : ℕ) → s.lo < s.hi → t.lo < t.hi → t.lo ≤ s.hi → s.lo ≤ t.hi → span_has (hull s t) k ≡ (span_has s k || span_has t k)
has_hull s t k p q f g =
    elim (cases_lt k (min s.lo t.lo)) [
      | inl below ↦ outside_below (hull s t) k below ∙ sym (ap (λ x. x || span_has t k) (outside_below s k (omega arith)) ∙ outside_below t k (omega arith))
      | inr from ↦ elim (cases_lt k (max s.hi t.hi)) [
        | inr above ↦ outside_above (hull s t) k above ∙ sym (ap (λ x. x || span_has t k) (outside_above s k (omega arith)) ∙ outside_above t k (omega arith))
        | inl upto ↦ inside (hull s t) k from upto ∙ sym (grind (arith, nat_tests))
      ]
    ]

pub insert_cases : (P : List Interval → Type 0) (s t : Interval) (ts : List Interval) → (s.hi < t.lo → P (s ∷ t ∷ ts)) → (t.lo ≤ s.hi → t.hi < s.lo → P (t ∷ insert_span s ts)) → (t.lo ≤ s.hi → s.lo ≤ t.hi → P (insert_span (hull s t) ts)) → P (insert_span s (t ∷ ts))
insert_cases P s t ts before after touching =
    elim (nat_lt s.hi t.lo) as (λ b. nat_lt s.hi t.lo ≡ b → P (cond b (s ∷ t ∷ ts) (cond (nat_lt t.hi s.lo) (t ∷ insert_span s ts) (insert_span (hull s t) ts)))) [
      | true ↦ λ e. before (grind (arith, nat_tests))
      | false ↦ λ e. elim (nat_lt t.hi s.lo) as (λ b. nat_lt t.hi s.lo ≡ b → P (cond b (t ∷ insert_span s ts) (insert_span (hull s t) ts))) [
        | true ↦ λ f. after (grind (arith, nat_tests)) (grind (arith, nat_tests))
        | false ↦ λ f. touching (grind (arith, nat_tests)) (grind (arith, nat_tests))
      ] refl
    ] refl

pub beyond-insert : (h : ℕ) (s : Interval) (ss : List Interval) → h < s.lo → Beyond h ss → IsCanonical ss → Beyond h (insert_span s ss)
beyond-insert h s [] p b c = p
beyond-insert h s (t ∷ ts) p b c = insert_cases (Beyond h) s t ts (λ _. p) (λ _ _. b) (λ f g. beyond-insert h (hull s t) ts (omega arith) (beyond_weaker h t.hi ts (omega (arith, c.0)) c.1) c.2)

pub canonical-insert : (s : Interval) (ss : List Interval) → s.lo < s.hi → IsCanonical ss → IsCanonical (insert_span s ss)
canonical-insert s [] p c = (p, tt, tt)
canonical-insert s (t ∷ ts) p c = insert_cases IsCanonical s t ts
    (λ before. (p, before, c))
    (λ f after. (c.0, beyond-insert t.hi s ts after c.1 c.2, canonical-insert s ts p c.2))
    (λ f g. canonical-insert (hull s t) ts (omega (arith, c.0)) c.2)

pub has-insert : (s : Interval) (ss : List Interval) (k : ℕ) → s.lo < s.hi → IsCanonical ss → has (insert_span s ss) k ≡ (span_has s k || has ss k)
has-insert s [] k p c = refl
has-insert s (t ∷ ts) k p c = insert_cases (λ l. has l k ≡ (span_has s k || has (t ∷ ts) k)) s t ts
    (λ before. refl)
    (λ f after. ap (λ x. span_has t k || x) (has-insert s ts k p c.2) ∙ swap (span_has t k) (span_has s k) (has ts k))
    (λ f g. has-insert (hull s t) ts k (omega (arith, c.0)) c.2 ∙ ap (λ x. x || has ts k) (has_hull s t k p c.0 f g) ∙ or_assoc (span_has s k) (span_has t k) (has ts k))
  where
    swap : (a b d : Bool) → (a || (b || d)) ≡ (b || (a || d))
    swap a b d = sym (or_assoc a b d) ∙ ap (λ x. x || d) (or_comm a b) ∙ or_assoc b a d

pub canonical-union : (a b : List Interval) → IsCanonical a → IsCanonical b → IsCanonical (union a b)
canonical-union a [] c d = c
canonical-union a (t ∷ ts) c d = canonical-insert t (union a ts) d.0 (canonical-union a ts c d.2)

-- exactly the keys of either
pub has-union : (a b : List Interval) (k : ℕ) → IsCanonical a → IsCanonical b → has (union a b) k ≡ (has a k || has b k)
has-union a [] k c d = sym (or-false (has a k))
has-union a (t ∷ ts) k c d =
    has-insert t (union a ts) k d.0 (canonical-union a ts c d.2)
    ∙ ap (λ x. span_has t k || x) (has-union a ts k c d.2)
    ∙ sym (or_assoc (span_has t k) (has a k) (has ts k)) ∙ ap (λ x. x || has ts k) (or_comm (span_has t k) (has a k)) ∙ or_assoc (has a k) (span_has t k) (has ts k)

pub has_first : (s : Interval) (ss : List Interval) → s.lo < s.hi → has (s ∷ ss) s.lo ≡ true
has_first s ss p = ap (λ x. x || has ss s.lo) (inside s s.lo (omega arith) p)

pub has_in : (s : Interval) (ss : List Interval) (k : ℕ) → s.lo ≤ k → k < s.hi → has (s ∷ ss) k ≡ true
has_in s ss k p q = ap (λ x. x || has ss k) (inside s k p q)

pub has_after : (s : Interval) (ss : List Interval) (k : ℕ) → s.hi ≤ k → has (s ∷ ss) k ≡ has ss k
has_after s ss k p = ap (λ x. x || has ss k) (outside_above s k p)

-- a list that starts later differs
starts_later : (s t : Interval) (ss ts : List Interval) → IsCanonical (s ∷ ss) → IsCanonical (t ∷ ts) → s.lo < t.lo → has (s ∷ ss) s.lo ≡ has (t ∷ ts) s.lo → ⊥
starts_later s t ss ts c d lt is =
    let yes = has_first s ss c.0 in
    let no = has_below s.lo s.lo (t ∷ ts) lt d (omega arith) in
    let h : true ≡ false = sym yes ∙ is ∙ no in
    cc

ends_later : (s t : Interval) (ss ts : List Interval) → IsCanonical (s ∷ ss) → IsCanonical (t ∷ ts) → s.lo ≡ t.lo → s.hi < t.hi → has (s ∷ ss) s.hi ≡ has (t ∷ ts) s.hi → ⊥
ends_later s t ss ts c d same lt is =
    let no : has (s ∷ ss) s.hi ≡ false = has_after s ss s.hi (omega arith) ∙ has_below s.hi s.hi ss c.1 c.2 (omega arith) in
    let yes : has (t ∷ ts) s.hi ≡ true = has_in t ts s.hi (omega (arith, c.0)) lt in
    let h : true ≡ false = sym yes ∙ sym is ∙ no in
    cc

same_span : (s t : Interval) → s.lo ≡ t.lo → s.hi ≡ t.hi → s ≡ t
same_span s t p q = λ i. interval (p i) (q i)

-- the same keys make the same list, of keys and of greater numbers
pub same_lists : (a b : List Interval) → IsCanonical a → IsCanonical b → ((k : ℕ) → has a k ≡ has b k) → a ≡ b
same_lists [] [] c d is = refl
same_lists [] (t ∷ ts) c d is = let h : false ≡ true = is t.lo ∙ has_first t ts d.0 in absurd (let bad : ⊥ = cc in bad)
same_lists (s ∷ ss) [] c d is = let h : true ≡ false = sym (has_first s ss c.0) ∙ is s.lo in absurd (let bad : ⊥ = cc in bad)
same_lists (s ∷ ss) (t ∷ ts) c d is =
    elim (cases_lt s.lo t.lo) [
      | inl lt ↦ absurd (starts_later s t ss ts c d lt (is s.lo))
      | inr ge ↦ elim (cases_lt t.lo s.lo) [
        | inl lt ↦ absurd (starts_later t s ts ss d c lt (sym (is t.lo)))
        | inr ge' ↦ elim (cases_lt s.hi t.hi) [
          | inl lt ↦ absurd (ends_later s t ss ts c d (omega arith) lt (is s.hi))
          | inr le ↦ elim (cases_lt t.hi s.hi) [
            | inl lt ↦ absurd (ends_later t s ts ss d c (omega arith) lt (sym (is t.hi)))
            | inr le' ↦
                let los : s.lo ≡ t.lo = omega arith in
                let his : s.hi ≡ t.hi = omega arith in
                let rest = same_lists ss ts c.2 d.2 (λ k. elim (cases_lt k (s.hi + 1)) [
                  | inl upto ↦ has_below s.hi k ss c.1 c.2 (omega arith) ∙ sym (has_below t.hi k ts d.1 d.2 (omega arith))
                  | inr above ↦ sym (has_after s ss k (omega arith)) ∙ is k ∙ has_after t ts k (omega arith)
                ]) in
                λ i. same_span s t los his i ∷ rest i
          ]
        ]
      ]
    ]

-- no number from the bound on
pub has_ended : (h k : ℕ) (ss : List Interval) → EndsBy h ss → h ≤ k → has ss k ≡ false
has_ended h k [] b le = refl
has_ended h k (s ∷ ss) b le = ap (λ t. t || has ss k) (outside_above s k (omega (arith, b.0))) ∙ has_ended h k ss b.1 le

-- sets with the same keys are equal
pub same_spans : (a b : List Interval) → IsSet a → IsSet b → ((k : ℕ) → k < top → has a k ≡ has b k) → a ≡ b
same_spans a b c d is = same_lists a b c.0 d.0 (λ k. elim (cases_lt k top) [
  | inl lt ↦ is k lt
  | inr ge ↦ has_ended top k a c.1 ge ∙ sym (has_ended top k b d.1 ge)
])

-- spans that hold no number from the bound on end by it
pub ends_by_keys : (h : ℕ) (ss : List Interval) → IsCanonical ss → ((k : ℕ) → h ≤ k → has ss k ≡ false) → EndsBy h ss
ends_by_keys h [] c none = tt
ends_by_keys h (s ∷ ss) c none = (
  elim (cases_lt h s.hi) [
    | inl lt ↦ let is : true ≡ false = sym (has_in s ss (max h s.lo) (omega arith) (omega (arith, c.0))) ∙ none (max h s.lo) (omega arith) in absurd (let bad : ⊥ = cc in bad)
    | inr ge ↦ ge
  ],
  ends_by_keys h ss c.2 (λ k le. tail_none (span_has s k) (has ss k) (none k le)),
)
  where
    tail_none : (a b : Bool) → (a || b) ≡ false → b ≡ false
    tail_none true b e = absurd (let bad : ⊥ = cc in bad)
    tail_none false b e = e

-- spans whose keys are all in a set are a set
pub set_within : (a b : List Interval) → IsCanonical a → IsSet b → ((k : ℕ) → has a k ≡ true → has b k ≡ true) → IsSet a
set_within a b c d all = (c, ends_by_keys top a c (λ k le. no_key (has a k) (has b k) (all k) (has_ended top k b d.1 le)))
  where
    no_key : (x y : Bool) → (x ≡ true → y ≡ true) → y ≡ false → x ≡ false
    no_key true y f e = sym (f refl) ∙ e
    no_key false y f e = refl

pub ends-insert : (h : ℕ) (s : Interval) (ss : List Interval) → s.hi ≤ h → EndsBy h ss → EndsBy h (insert_span s ss)
ends-insert h s [] le b = (le, tt)
ends-insert h s (t ∷ ts) le b = insert_cases (EndsBy h) s t ts (λ _. (le, b)) (λ _ _. (b.0, ends-insert h s ts le b.1)) (λ _ _. ends-insert h (hull s t) ts (omega (arith, b.0)) b.1)

ends-union : (h : ℕ) (a b : List Interval) → EndsBy h a → EndsBy h b → EndsBy h (union a b)
ends-union h a [] c d = c
ends-union h a (t ∷ ts) c d = ends-insert h t (union a ts) d.0 (ends-union h a ts c d.1)

-- a set with one span added is a set again, and so is a union
pub set-insert : (s : Interval) (ss : List Interval) → s.lo < s.hi → s.hi ≤ top → IsSet ss → IsSet (insert_span s ss)
set-insert s ss p le c = (canonical-insert s ss p c.0, ends-insert top s ss le c.1)

pub set-union : (a b : List Interval) → IsSet a → IsSet b → IsSet (union a b)
set-union a b c d = (canonical-union a b c.0 d.0, ends-union top a b c.1 d.1)

-- the union is associative, commutative and idempotent, and the empty set is neutral
pub union_assoc : (x y z : List Interval) → IsCanonical x → IsCanonical y → IsCanonical z → union (union x y) z ≡ union x (union y z)
union_assoc x y z a b c = same_lists _ _ (canonical-union (union x y) z (canonical-union x y a b) c) (canonical-union x (union y z) a (canonical-union y z b c)) (λ k.
    has-union (union x y) z k (canonical-union x y a b) c ∙ ap (λ u. u || has z k) (has-union x y k a b) ∙ or_assoc (has x k) (has y k) (has z k)
    ∙ sym (has-union x (union y z) k a (canonical-union y z b c) ∙ ap (λ u. has x k || u) (has-union y z k b c)))

pub union_comm : (x y : List Interval) → IsCanonical x → IsCanonical y → union x y ≡ union y x
union_comm x y a b = same_lists _ _ (canonical-union x y a b) (canonical-union y x b a) (λ k. has-union x y k a b ∙ or_comm (has x k) (has y k) ∙ sym (has-union y x k b a))

pub union_idem : (x : List Interval) → IsCanonical x → union x x ≡ x
union_idem x a = same_lists _ _ (canonical-union x x a a) a (λ k. has-union x x k a a ∙ or_self (has x k))

pub has-append : (xs ys : List Interval) (k : ℕ) → has (xs ++ ys) k ≡ (has xs k || has ys k)
has-append [] ys k = refl
has-append (x ∷ xs) ys k = ap (λ b. span_has x k || b) (has-append xs ys k) ∙ sym (or_assoc (span_has x k) (has xs k) (has ys k))

-- ---- the other operations, by their keys

-- spans that hold no number up to the bound start beyond it
pub beyond_by_keys : (h : ℕ) (ss : List Interval) → IsCanonical ss → ((k : ℕ) → k ≤ h → has ss k ≡ false) → Beyond h ss
beyond_by_keys h [] c none = tt
beyond_by_keys h (s ∷ ss) c none = elim (cases_lt h s.lo) [
  | inl lt ↦ lt
  | inr ge ↦ let is : true ≡ false = sym (has_first s ss c.0) ∙ none s.lo ge in absurd (let bad : ⊥ = cc in bad)
]

beyond_append : (g h : ℕ) (xs ys : List Interval) → Beyond g xs → g ≤ h → Beyond h ys → Beyond g (xs ++ ys)
beyond_append g h [] ys b le e = beyond_weaker g h ys le e
beyond_append g h (x ∷ xs) ys b le e = b

pub canonical-append : (h : ℕ) (xs ys : List Interval) → IsCanonical xs → IsCanonical ys → EndsBy h xs → Beyond h ys → IsCanonical (xs ++ ys)
canonical-append h [] ys c d e b = d
canonical-append h (x ∷ xs) ys c d e b = (c.0, beyond_append x.hi h xs ys c.1 e.0 b, canonical-append h xs ys c.2 d e.1 b)

has_between : (lo hi k : ℕ) → has (spans_between lo hi) k ≡ span_has (interval lo hi) k
has_between lo hi k = elim (nat_lt lo hi) as (λ b. nat_lt lo hi ≡ b → has (cond b (interval lo hi ∷ []) []) k ≡ span_has (interval lo hi) k) [
  | true ↦ λ e. or-false (span_has (interval lo hi) k)
  | false ↦ λ e. grind (arith, nat_tests)
] refl

canonical_between : (lo hi : ℕ) → IsCanonical (spans_between lo hi)
canonical_between lo hi = elim (nat_lt lo hi) as (λ b. nat_lt lo hi ≡ b → IsCanonical (cond b (interval lo hi ∷ []) [])) [
  | true ↦ λ e. (grind (arith, nat_tests), tt, tt)
  | false ↦ λ e. tt
] refl

ends_between : (lo hi h : ℕ) → hi ≤ h → EndsBy h (spans_between lo hi)
ends_between lo hi h le = elim (nat_lt lo hi) as (λ b. EndsBy h (cond b (interval lo hi ∷ []) [])) [ true ↦ (le, tt) | false ↦ tt ]

both_and : (a b c : Bool) → ((a && c) || (b && c)) ≡ ((a || b) && c)
both_and true true c = or_self c
both_and true false c = or-false c
both_and false b c = refl

pub has-below : (bound : ℕ) (ss : List Interval) (k : ℕ) → has (keys_below bound ss) k ≡ (has ss k && nat_lt k bound)
has-below bound [] k = refl
has-below bound (s ∷ ss) k =
    let here : span_has (interval s.lo (min s.hi bound)) k ≡ (span_has s k && nat_lt k bound) = grind (arith, nat_tests) in
    has-append (spans_between s.lo (min s.hi bound)) (keys_below bound ss) k
    ∙ (λ i. (has_between s.lo (min s.hi bound) k ∙ here) i || has-below bound ss k i)
    ∙ both_and (span_has s k) (has ss k) (nat_lt k bound)

pub has-from : (bound : ℕ) (ss : List Interval) (k : ℕ) → has (keys_from bound ss) k ≡ (has ss k && nat_le bound k)
has-from bound [] k = refl
has-from bound (s ∷ ss) k =
    let here : span_has (interval (max s.lo bound) s.hi) k ≡ (span_has s k && nat_le bound k) = grind (arith, nat_tests) in
    has-append (spans_between (max s.lo bound) s.hi) (keys_from bound ss) k
    ∙ (λ i. (has_between (max s.lo bound) s.hi k ∙ here) i || has-from bound ss k i)
    ∙ both_and (span_has s k) (has ss k) (nat_le bound k)

no_key : (x y z : Bool) → z ≡ (x && y) → x ≡ false → z ≡ false
no_key x y z e f = e ∙ and_left x y f

no_place : (x y z : Bool) → z ≡ (x && y) → y ≡ false → z ≡ false
no_place x y z e f = e ∙ and_right x y f

pub canonical-below : (bound : ℕ) (ss : List Interval) → IsCanonical ss → IsCanonical (keys_below bound ss)
canonical-below bound [] c = tt
canonical-below bound (s ∷ ss) c =
    let rest = canonical-below bound ss c.2 in
    canonical-append s.hi (spans_between s.lo (min s.hi bound)) (keys_below bound ss) (canonical_between s.lo (min s.hi bound)) rest (ends_between s.lo (min s.hi bound) s.hi (omega arith))
    (beyond_by_keys s.hi (keys_below bound ss) rest (λ k le. no_key _ _ _ (has-below bound ss k) (has_below s.hi k ss c.1 c.2 le)))

pub canonical-from : (bound : ℕ) (ss : List Interval) → IsCanonical ss → IsCanonical (keys_from bound ss)
canonical-from bound [] c = tt
canonical-from bound (s ∷ ss) c =
    let rest = canonical-from bound ss c.2 in
    canonical-append s.hi (spans_between (max s.lo bound) s.hi) (keys_from bound ss) (canonical_between (max s.lo bound) s.hi) rest (ends_between (max s.lo bound) s.hi s.hi (omega arith))
    (beyond_by_keys s.hi (keys_from bound ss) rest (λ k le. no_key _ _ _ (has-from bound ss k) (has_below s.hi k ss c.1 c.2 le)))

has_without : (t : Interval) (ss : List Interval) (k : ℕ) → has (without_span t ss) k ≡ (has ss k && not (span_has t k))
has_without t ss k = has-append (keys_below t.lo ss) (keys_from t.hi ss) k ∙ (λ i. has-below t.lo ss k i || has-from t.hi ss k i) ∙ sides (has ss k)
  where
    outside : (nat_lt k t.lo || nat_le t.hi k) ≡ not (span_has t k)
    outside = grind (arith, nat_tests)

    sides : (a : Bool) → ((a && nat_lt k t.lo) || (a && nat_le t.hi k)) ≡ (a && not (span_has t k))
    sides true = outside
    sides false = refl

canonical_without : (t : Interval) (ss : List Interval) → t.lo < t.hi → IsCanonical ss → IsCanonical (without_span t ss)
canonical_without t ss p c =
    let low = canonical-below t.lo ss c in
    let high = canonical-from t.hi ss c in
    canonical-append t.lo (keys_below t.lo ss) (keys_from t.hi ss) low high
    (ends_by_keys t.lo (keys_below t.lo ss) low (λ k le. no_place _ _ _ (has-below t.lo ss k) (lt_no k t.lo le)))
    (beyond_by_keys t.lo (keys_from t.hi ss) high (λ k le. no_place _ _ _ (has-from t.hi ss k) (le_no t.hi k (omega arith))))
  where
    lt_no : (k b : ℕ) → b ≤ k → nat_lt k b ≡ false
    lt_no k b le = grind (arith, nat_tests)

    le_no : (b k : ℕ) → k < b → nat_le b k ≡ false
    le_no b k lt = grind (arith, nat_tests)

-- exactly the keys of the first that the second lacks
pub has-minus : (a b : List Interval) (k : ℕ) → has (minus a b) k ≡ (has a k && not (has b k))
has-minus a [] k = sym (and-true (has a k))
has-minus a (t ∷ ts) k = has-minus (without_span t a) ts k ∙ ap (λ x. x && not (has ts k)) (has_without t a k) ∙ and_nots (has a k) (span_has t k) (has ts k)
  where
    and_nots : (x y z : Bool) → ((x && not y) && not z) ≡ (x && not (y || z))
    and_nots true true z = refl
    and_nots true false z = refl
    and_nots false y z = refl

pub canonical-minus : (a b : List Interval) → IsCanonical a → IsCanonical b → IsCanonical (minus a b)
canonical-minus a [] c d = c
canonical-minus a (t ∷ ts) c d = canonical-minus (without_span t a) ts (canonical_without t a d.0 c) d.2

-- exactly the keys of both
pub has-meet : (a b : List Interval) (k : ℕ) → has (meet a b) k ≡ (has a k && has b k)
has-meet a [] k = sym (and-false (has a k))
has-meet a (t ∷ ts) k =
    has-append (keys_from t.lo (keys_below t.hi a)) (meet a ts) k
    ∙ (λ i. (has-from t.lo (keys_below t.hi a) k ∙ ap (λ x. x && nat_le t.lo k) (has-below t.hi a k)) i || has-meet a ts k i)
    ∙ either (has a k) (nat_lt k t.hi) (nat_le t.lo k) (has ts k)
  where
    either : (a x y b : Bool) → (((a && x) && y) || (a && b)) ≡ (a && ((y && x) || b))
    either true x y b = ap (λ z. z || b) (and_comm x y)
    either false x y b = refl

pub canonical-meet : (a b : List Interval) → IsCanonical a → IsCanonical b → IsCanonical (meet a b)
canonical-meet a [] c d = tt
canonical-meet a (t ∷ ts) c d =
    let here = canonical-from t.lo (keys_below t.hi a) (canonical-below t.hi a c) in
    let rest = canonical-meet a ts c d.2 in
    canonical-append t.hi (keys_from t.lo (keys_below t.hi a)) (meet a ts) here rest
    (ends_by_keys t.hi (keys_from t.lo (keys_below t.hi a)) here (λ k le. no_key _ _ _ (has-from t.lo (keys_below t.hi a) k) (no_place _ _ _ (has-below t.hi a k) (lt_no k t.hi le))))
    (beyond_by_keys t.hi (meet a ts) rest (λ k le. no_place _ _ _ (has-meet a ts k) (has_below t.hi k ts d.1 d.2 le)))
  where
    lt_no : (k b : ℕ) → b ≤ k → nat_lt k b ≡ false
    lt_no k b le = grind (arith, nat_tests)

-- each is a set again
pub set-below : (bound : ℕ) (a : List Interval) → IsSet a → IsSet (keys_below bound a)
set-below bound a c = set_within _ a (canonical-below bound a c.0) c (λ k h. (and_parts _ _ (sym (has-below bound a k) ∙ h)).0)

pub set-from : (bound : ℕ) (a : List Interval) → IsSet a → IsSet (keys_from bound a)
set-from bound a c = set_within _ a (canonical-from bound a c.0) c (λ k h. (and_parts _ _ (sym (has-from bound a k) ∙ h)).0)

pub set-minus : (a b : List Interval) → IsSet a → IsSet b → IsSet (minus a b)
set-minus a b c d = set_within _ a (canonical-minus a b c.0 d.0) c (λ k h. (and_parts _ _ (sym (has-minus a b k) ∙ h)).0)

pub set-meet : (a b : List Interval) → IsSet a → IsSet b → IsSet (meet a b)
set-meet a b c d = set_within _ a (canonical-meet a b c.0 d.0) c (λ k h. (and_parts _ _ (sym (has-meet a b k) ∙ h)).0)

-- ---- the first span

pub first_run : (s : Interval) (ss : List Interval) → IsCanonical (s ∷ ss) → IsFirstRun (s ∷ ss) s
first_run s ss c = record {
  some = c.0;
  keys = λ k le lt. has_in s ss k le lt;
  least = λ k h. elim (cases_lt k s.lo) [
    | inl lt ↦ absurd (false≢true (sym (has_below k k (s ∷ ss) lt c (omega arith)) ∙ h))
    | inr ge ↦ ge
  ];
  longest = has_after s ss s.hi (omega arith) ∙ has_below s.hi s.hi ss c.1 c.2 (omega arith);
}

-- a set has one first run
one_first_run : (ss : List Interval) (r q : Interval) → IsFirstRun ss r → IsFirstRun ss q → r ≡ q
one_first_run ss r q f g =
    let low : r.lo ≡ q.lo = omega (arith, f.least q.lo (g.keys q.lo (omega arith) g.some), g.least r.lo (f.keys r.lo (omega arith) f.some)) in
    same_span r q low (omega (arith, upto r q f g low, upto q r g f (sym low)))
  where
    upto : (r q : Interval) → IsFirstRun ss r → IsFirstRun ss q → r.lo ≡ q.lo → r.hi ≤ q.hi
    upto r q f g low = elim (cases_lt q.hi r.hi) [
      | inl lt ↦ absurd (false≢true (sym g.longest ∙ f.keys q.hi (omega (arith, g.some)) lt))
      | inr ge ↦ ge
    ]

pub first_span_is : (ss : List Interval) (s : Interval) → IsCanonical ss → (first_span ss ≡ Some s) ↔ IsFirstRun ss s
first_span_is [] s c = (λ e. absurd (let bad : ⊥ = cc in bad), λ f. absurd (false≢true (f.keys s.lo (omega arith) f.some)))
first_span_is (t ∷ ts) s c = (
  λ e. subst (IsFirstRun (t ∷ ts)) (same_Some t s e) (first_run t ts c),
  λ f. ap Some (one_first_run (t ∷ ts) t s (first_run t ts c) f),
)

-- `==` on spans and on lists of them
interval_eq-equivalence : IsEquivalence interval_eq
interval_eq-equivalence = search (comparing, rules)

pub spans_eq-equivalence : IsEquivalence spans_eq
spans_eq-equivalence = lists_equiv interval_eq-equivalence

pub spans_eq-laws : IsPartialEquivalence spans_eq
spans_eq-laws = partial_equiv_from_equiv spans_eq-equivalence
