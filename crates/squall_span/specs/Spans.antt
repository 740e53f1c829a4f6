-- Spans of keys, and sets of keys as lists of spans (half-open ranges of keys: Squall, SIGMOD 2015).
use Rattle.std.specs.Prelude.{◌≡◌, ℕ, ◌+◌, ◌-◌, ◌<◌, ◌≤◌, min, max, suc, zero, Bool, true, false, ◌&&◌, ◌||◌, ◌==◌, nat_lt, nat_le, List, [], ◌∷◌, ◌++◌, Option, None, Some, if◌then◌else◌}
use Rattle.std.specs.Cmp.Lexicographic.{pointwise}
use Rattle.squall_key.specs.Keys.{top, text_of_bound}

-- the keys from lo on, below hi
pub record Interval : Type 0 where
  pub lo : ℕ
  pub hi : ℕ

-- the span of two bounds
abbrev pub interval : ℕ → ℕ → Interval
interval lo hi = record { lo = lo; hi = hi }

-- the span of two bounds that has a key
abbrev pub span_at : ℕ → ℕ → Option Interval
span_at lo hi = if nat_lt lo hi then Some (record { lo = lo; hi = hi }) else None

-- the key lies in the span
abbrev pub span_has : Interval → ℕ → Bool
span_has s k = nat_le s.lo k && nat_lt k s.hi

-- the key lies in one of the spans
abbrev pub has : List Interval → ℕ → Bool
has [] k = false
has (s ∷ ss) k = span_has s k || has ss k

-- a span as it is printed: [lo,hi)
abbrev pub text_of_span : Interval → List ℕ
text_of_span s = 91 ∷ text_of_bound s.lo ++ 44 ∷ text_of_bound s.hi ++ 41 ∷ []

-- ---- the one list of spans of a set of keys (this project)

-- the first span, if there is one, starts beyond h
abbrev pub Beyond : ℕ → List Interval → Type 0
Beyond h [] = Unit {0}
Beyond h (s ∷ ss) = h < s.lo

-- no span is empty, and each starts beyond the end of the one before it
abbrev pub IsCanonical : List Interval → Type 0
IsCanonical [] = Unit {0}
IsCanonical (s ∷ ss) = (s.lo < s.hi) × Beyond s.hi ss × IsCanonical ss

-- each span ends at h or before
abbrev pub EndsBy : ℕ → List Interval → Type 0
EndsBy h [] = Unit {0}
EndsBy h (s ∷ ss) = (s.hi ≤ h) × EndsBy h ss

-- a set of keys: spans in order, none of which overlaps or touches the next, and all of keys
abbrev pub IsSet : List Interval → Type 0
IsSet ss = IsCanonical ss × EndsBy top ss

-- each span starts at h or before
abbrev pub StartsBy : ℕ → List Interval → Type 0
StartsBy h [] = Unit {0}
StartsBy h (s ∷ ss) = (s.lo ≤ h) × StartsBy h ss

-- the first span, if there is one, ends at h or later
abbrev pub EndsFrom : ℕ → List Interval → Type 0
EndsFrom h [] = Unit {0}
EndsFrom h (s ∷ ss) = h ≤ s.hi

-- the first span, if there is one, ends beyond h
abbrev pub EndsBeyond : ℕ → List Interval → Type 0
EndsBeyond h [] = Unit {0}
EndsBeyond h (s ∷ ss) = h < s.hi

-- the two spans are one
abbrev pub interval_eq : Interval → Interval → Bool
interval_eq s t = (s.lo == t.lo) && (s.hi == t.hi)

-- the two lists have the same spans in the same order
abbrev pub spans_eq : List Interval → List Interval → Bool
spans_eq = pointwise interval_eq

-- ---- the operations on sets

-- the span from the lower start to the higher end of two
abbrev pub hull : Interval → Interval → Interval
hull s t = interval (min s.lo t.lo) (max s.hi t.hi)

-- the set with the keys of one span more: spans that overlap or touch it join it
abbrev pub insert_span : Interval → List Interval → List Interval
insert_span s [] = s ∷ []
insert_span s (t ∷ ts) = if nat_lt s.hi t.lo then s ∷ t ∷ ts else if nat_lt t.hi s.lo then t ∷ insert_span s ts else insert_span (hull s t) ts

-- the keys of either set
abbrev pub union : List Interval → List Interval → List Interval
union ss [] = ss
union ss (t ∷ ts) = insert_span t (union ss ts)

-- the span of two bounds, as a list that is empty if the span has no key
abbrev pub spans_between : ℕ → ℕ → List Interval
spans_between lo hi = if nat_lt lo hi then interval lo hi ∷ [] else []

-- the keys of a set that lie below the bound
abbrev pub keys_below : ℕ → List Interval → List Interval
keys_below bound [] = []
keys_below bound (s ∷ ss) = spans_between s.lo (min s.hi bound) ++ keys_below bound ss

-- the keys of a set from the bound on
abbrev pub keys_from : ℕ → List Interval → List Interval
keys_from bound [] = []
keys_from bound (s ∷ ss) = spans_between (max s.lo bound) s.hi ++ keys_from bound ss

-- the keys of a set that a span lacks: those below it, and those from its end on
abbrev pub without_span : Interval → List Interval → List Interval
without_span t ss = keys_below t.lo ss ++ keys_from t.hi ss

-- the keys of the first set that the second lacks
abbrev pub minus : List Interval → List Interval → List Interval
minus ss [] = ss
minus ss (t ∷ ts) = minus (without_span t ss) ts

-- the keys of both sets: those of the first that lie in a span of the second, for one span after the other
abbrev pub meet : List Interval → List Interval → List Interval
meet ss [] = []
meet ss (t ∷ ts) = keys_from t.lo (keys_below t.hi ss) ++ meet ss ts

-- the spans from the first on that ends beyond the bound
abbrev pub spans_beyond : ℕ → List Interval → List Interval
spans_beyond h [] = []
spans_beyond h (s ∷ ss) = if nat_lt h s.hi then s ∷ ss else spans_beyond h ss

-- the first span of a set
abbrev pub first_span : List Interval → Option Interval
first_span [] = None
first_span (s ∷ ss) = Some s

-- the span is the longest run of keys of the set that begins at its least key
pub record IsFirstRun (ss : List Interval) (run : Interval) : Type 0 where
  pub some : run.lo < run.hi
  pub keys : (k : ℕ) → run.lo ≤ k → k < run.hi → has ss k ≡ true
  pub least : (k : ℕ) → has ss k ≡ true → run.lo ≤ k
  pub longest : has ss run.hi ≡ false

-- the prefix of the first span, of at most `most` keys
abbrev pub first_keys : ℕ → List Interval → Option Interval
first_keys most [] = None
first_keys most (s ∷ ss) = if most == 0 then None else Some (interval s.lo (min s.hi (s.lo + most)))

-- the sum of the lengths of the spans
abbrev pub total_length : List Interval → ℕ
total_length [] = 0
total_length (s ∷ ss) = (s.hi - s.lo) + total_length ss

-- how many numbers below n pass the test
unfoldable pub how_many : (ℕ → Bool) → ℕ → ℕ
how_many test zero = 0
how_many test (suc n) = (if test n then 1 else 0) + how_many test n
