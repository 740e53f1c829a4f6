-- The steps of a walk that adds spans of a set to a list.
use Rattle.std.proofs.Common.{◌≡◌, ℕ, ◌<◌, ◌≤◌, Bool, true, false, cond, nat_lt, List, [], ◌∷◌, refl, sym, ap, subst, ◌∙◌, inl, inr, ◌||◌, arith}
use Rattle.std.proofs.lemmas.Bool.{cases_lt, false≢true}
use Rattle.std.proofs.lemmas.Bool.Decides.{nat_tests}
use Rattle.std.proofs.Math.Bool.{or-false}
use Rattle.squall_key.specs.Keys.{top}
use Rattle.squall_span.specs.Spans.{Interval, span_has, has, IsCanonical, IsSet, insert_span, spans_beyond}
use Rattle.squall_span.specs.SpanLaws.{set-insert, has-insert, outside_above, outside_below}
use Rattle.squall_span.specs.Within.{spans_before, HasBeside}
use Rattle.squall_span.specs.BeyondLaws.{canonical_beyond, has_beyond}
use Rattle.squall_span.proofs.Sweeping.{has_early}

-- ---- the spans before a bound

before_first : (h : ℕ) (s : Interval) (ss : List Interval) → s.lo < h → spans_before h (s ∷ ss) ≡ s ∷ spans_before h ss
before_first h s ss lt = let e : nat_lt s.lo h ≡ true = grind (arith, nat_tests) in ap (λ b. cond b (s ∷ spans_before h ss) []) e

before_none : (h : ℕ) (s : Interval) (ss : List Interval) → h ≤ s.lo → spans_before h (s ∷ ss) ≡ []
before_none h s ss le = let e : nat_lt s.lo h ≡ false = grind (arith, nat_tests) in ap (λ b. cond b (s ∷ spans_before h ss) []) e

has_before : (h k : ℕ) (ss : List Interval) → IsCanonical ss → k < h → has (spans_before h ss) k ≡ has ss k
has_before h k [] c lt = refl
has_before h k (s ∷ ss) c lt = elim (cases_lt s.lo h) [
  | inl in_front ↦ ap (λ l. has l k) (before_first h s ss in_front) ∙ ap (λ b. span_has s k || b) (has_before h k ss c.2 lt)
  | inr from ↦ ap (λ l. has l k) (before_none h s ss from) ∙ sym (has_early k s ss c (omega arith))
]

-- between the bounds the keys are the same
within_between : (lo hi k : ℕ) (ss : List Interval) → IsCanonical ss → lo ≤ k → k < hi → has (spans_before hi (spans_beyond lo ss)) k ≡ has ss k
within_between lo hi k ss c le lt = has_before hi k (spans_beyond lo ss) (canonical_beyond lo ss c) lt ∙ has_beyond lo k ss le

-- ---- a walk that adds spans to a list

-- what is done of a walk along `all`, up to a bound: the keys of the list and of what is still to come are the same as before it
pub record Nearing (old all : List Interval) (h : ℕ) (list rest : List Interval) : Type 0 where
  pub set : IsSet list
  pub keys : (k : ℕ) → (has list k || has (spans_before h rest) k) ≡ (has old k || has (spans_before h all) k)

turned : (a s b : Bool) → ((s || a) || b) ≡ (a || (s || b))
turned true true b = refl
turned true false b = refl
turned false true b = refl
turned false false b = refl

pub nearing_more : (old all list rest new : List Interval) (h : ℕ) (s : Interval) → s.lo < h → s.lo < s.hi → s.hi ≤ top → Nearing old all h list (s ∷ rest) → new ≡ insert_span s list → Nearing old all h new rest
nearing_more old all list rest new h s below some most n is = record {
  set = subst IsSet (sym is) (set-insert s list some most n.set);
  keys = λ k.
      ap (λ l. has l k || has (spans_before h rest) k) is ∙ ap (λ b. b || has (spans_before h rest) k) (has-insert s list k some n.set.0)
      ∙ turned (has list k) (span_has s k) (has (spans_before h rest) k)
      ∙ sym (ap (λ l. has list k || has l k) (before_first h s rest below)) ∙ n.keys k;
}

pub nearing_stop : (old all list rest : List Interval) (h : ℕ) (s : Interval) (k : ℕ) → h ≤ s.lo → Nearing old all h list (s ∷ rest) → has list k ≡ (has old k || has (spans_before h all) k)
nearing_stop old all list rest h s k from n = sym (or-false (has list k)) ∙ sym (ap (λ l. has list k || has l k) (before_none h s rest from)) ∙ n.keys k

pub nearing_end : (old all list : List Interval) (h k : ℕ) → Nearing old all h list [] → has list k ≡ (has old k || has (spans_before h all) k)
nearing_end old all list h k n = sym (or-false (has list k)) ∙ n.keys k

-- ---- the spans beside others

sub_before : (h k : ℕ) (ss : List Interval) → has (spans_before h ss) k ≡ true → has ss k ≡ true
sub_before h k [] = λ is. is
sub_before h k (s ∷ ss) = elim (nat_lt s.lo h) as (λ t. has (cond t (s ∷ spans_before h ss) []) k ≡ true → has (s ∷ ss) k ≡ true) [
  | true ↦ either (span_has s k) (has (spans_before h ss) k) (has ss k) (sub_before h k ss)
  | false ↦ λ is. absurd (false≢true is)
]
  where
    either : (a b c : Bool) → (b ≡ true → c ≡ true) → (a || b) ≡ true → (a || c) ≡ true
    either true b c f is = refl
    either false b c f is = f is

sub_beyond : (l k : ℕ) (ss : List Interval) → has (spans_beyond l ss) k ≡ true → has ss k ≡ true
sub_beyond l k [] = λ is. is
sub_beyond l k (s ∷ ss) = elim (nat_lt l s.hi) as (λ t. has (cond t (s ∷ ss) (spans_beyond l ss)) k ≡ true → has (s ∷ ss) k ≡ true) [
  | true ↦ λ is. is
  | false ↦ λ is. later (span_has s k) (has ss k) (sub_beyond l k ss is)
]
  where
    later : (a b : Bool) → b ≡ true → (a || b) ≡ true
    later true b is = refl
    later false b is = is

-- what is done of a walk along `own`: each key of the list is one of the set, and of the keys of the spans that are done the list
-- has those of the set
pub record Beside (own there list rest : List Interval) : Type 0 where
  pub set : IsSet list
  pub sub : (k : ℕ) → has list k ≡ true → has there k ≡ true
  pub done : (k : ℕ) → has own k ≡ true → has rest k ≡ false → has list k ≡ has there k

pub beside_none : (own there : List Interval) → Beside own there [] own
beside_none own there = record { set = (tt, tt); sub = λ k is. absurd (false≢true is); done = λ k is not. absurd (false≢true (sym not ∙ is)) }

joined : (a b c : Bool) → (a ≡ true → c ≡ true) → (b ≡ true → c ≡ true) → (a || b) ≡ true → c ≡ true
joined true b c f g is = f refl
joined false b c f g is = g is

whole_first : (a b c : Bool) → a ≡ c → (b ≡ true → c ≡ true) → (a || b) ≡ c
whole_first true b c is f = is
whole_first false true c is f = sym (f refl)
whole_first false false c is f = is

whole_second : (a b c : Bool) → b ≡ c → (a ≡ true → c ≡ true) → (a || b) ≡ c
whole_second true b c is f = sym (f refl)
whole_second false b c is f = is

pub beside_more : (own there list rest new : List Interval) (s : Interval) → IsCanonical there → IsSet new → Beside own there list (s ∷ rest) → ((k : ℕ) → has new k ≡ (has list k || has (spans_before s.hi (spans_beyond s.lo there)) k)) → Beside own there new rest
beside_more own there list rest new s canonical is_set b keys =
    let near : (k : ℕ) → has (spans_before s.hi (spans_beyond s.lo there)) k ≡ true → has there k ≡ true = λ k is. sub_beyond s.lo k there (sub_before s.hi k (spans_beyond s.lo there) is) in
    record {
      set = is_set;
      sub = λ k is. joined (has list k) (has (spans_before s.hi (spans_beyond s.lo there)) k) (has there k) (b.sub k) (near k) (sym (keys k) ∙ is);
      done = λ k mine not. keys k ∙ in_or_out k mine not near;
    }
  where
    in_or_out : (k : ℕ) → has own k ≡ true → has rest k ≡ false → ((k : ℕ) → has (spans_before s.hi (spans_beyond s.lo there)) k ≡ true → has there k ≡ true) → (has list k || has (spans_before s.hi (spans_beyond s.lo there)) k) ≡ has there k
    in_or_out k mine not near = elim (cases_lt k s.lo) [
      | inl before ↦ whole_first (has list k) (has (spans_before s.hi (spans_beyond s.lo there)) k) (has there k) (b.done k mine (ap (λ u. u || has rest k) (outside_below s k before) ∙ not)) (near k)
      | inr from ↦ elim (cases_lt k s.hi) [
        | inl below ↦ whole_second (has list k) (has (spans_before s.hi (spans_beyond s.lo there)) k) (has there k) (within_between s.lo s.hi k there canonical from below) (b.sub k)
        | inr above ↦ whole_first (has list k) (has (spans_before s.hi (spans_beyond s.lo there)) k) (has there k) (b.done k mine (ap (λ u. u || has rest k) (outside_above s k above) ∙ not)) (near k)
      ]
    ]

pub beside_done : (own there list : List Interval) → Beside own there list [] → HasBeside own there list
beside_done own there list b k mine = b.done k mine refl
