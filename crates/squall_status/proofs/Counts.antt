-- How many numbers pass a test.
use Rattle.std.proofs.Common.{◌≡◌, ℕ, zero, suc, ◌+◌, ◌-◌, ◌<◌, ◌≤◌, Bool, true, false, cond, [], ◌∷◌, refl, sym, ap, ◌∙◌, arith, inl, inr, ◌||◌}
use Rattle.std.specs.Prelude.{◌&&◌}
use Rattle.std.proofs.Math.Bool.{or-false}
use Rattle.std.proofs.lemmas.Bool.{true≢false, cases_lt}
use Rattle.squall_span.specs.Spans.{Interval, span_has, has, how_many}
use Rattle.squall_span.proofs.Counting.{count_is_total}

-- as many as pass another that is the same below the bound
pub same_many : (p q : ℕ → Bool) (n : ℕ) → ((k : ℕ) → k < n → p k ≡ q k) → how_many p n ≡ how_many q n
unfolding how_many
same_many p q zero e = refl
same_many p q (suc n) e = ap (λ b. cond b 1 0 + how_many p n) (e n (omega arith)) ∙ ap (λ m. cond (q n) 1 0 + m) (same_many p q n (λ k lt. e k (omega arith)))

-- no more than there are
pub many_upto : (p : ℕ → Bool) (n : ℕ) → how_many p n ≤ n
unfolding how_many
many_upto p zero = omega arith
many_upto p (suc n) = one_more (p n) (how_many p n) (many_upto p n)
  where
    one_more : (b : Bool) (m : ℕ) → m ≤ n → cond b 1 0 + m ≤ suc n
    one_more true m le = omega arith
    one_more false m le = omega arith

-- fewer pass a narrower test
pub many_within : (p q : ℕ → Bool) (n : ℕ) → ((k : ℕ) → p k ≡ true → q k ≡ true) → how_many p n ≤ how_many q n
unfolding how_many
many_within p q zero w = omega arith
many_within p q (suc n) w = each (p n) (q n) (how_many p n) (how_many q n) (w n) (many_within p q n w)
  where
    each : (a b : Bool) (x y : ℕ) → (a ≡ true → b ≡ true) → x ≤ y → cond a 1 0 + x ≤ cond b 1 0 + y
    each true true x y f le = omega arith
    each true false x y f le = absurd (true≢false (sym (f refl)))
    each false true x y f le = omega arith
    each false false x y f le = omega arith

-- none
pub many_none : (p : ℕ → Bool) (n : ℕ) → ((k : ℕ) → k < n → p k ≡ false) → how_many p n ≡ 0
unfolding how_many
many_none p zero e = refl
many_none p (suc n) e = let rest = many_none p n (λ k lt. e k (omega arith)) in ap (λ b. cond b 1 0 + how_many p n) (e n (omega arith)) ∙ omega (arith, rest)

-- if none passes, no number does
pub none_many : (p : ℕ → Bool) (n : ℕ) → how_many p n ≡ 0 → (k : ℕ) → k < n → p k ≡ false
unfolding how_many
none_many p zero e k lt = absurd (omega arith)
none_many p (suc n) e k lt = elim (p n) as (λ b. p n ≡ b → cond b 1 0 + how_many p n ≡ 0 → p k ≡ false) [
  | true ↦ λ is z. absurd (omega (arith, z))
  | false ↦ λ is z. elim (cases_lt k n) [
    | inl low ↦ none_many p n (omega (arith, z)) k low
    | inr high ↦ let last : k ≡ n = omega arith in ap p last ∙ is
  ]
] refl e

-- of two tests that no number passes both
pub many_either : (p q : ℕ → Bool) (n : ℕ) → ((k : ℕ) → (p k && q k) ≡ false) → how_many (λ k. p k || q k) n ≡ how_many p n + how_many q n
unfolding how_many
many_either p q zero apart = refl
many_either p q (suc n) apart = sums (p n) (q n) (how_many (λ k. p k || q k) n) (how_many p n) (how_many q n) (many_either p q n apart) (apart n)
  where
    sums : (a b : Bool) (t u v : ℕ) → t ≡ u + v → (a && b) ≡ false → cond (a || b) 1 0 + t ≡ (cond a 1 0 + u) + (cond b 1 0 + v)
    sums true true t u v e h = absurd (true≢false h)
    sums true false t u v e h = omega arith
    sums false true t u v e h = omega arith
    sums false false t u v e h = omega arith

-- the numbers of a span
pub many_of_span : (s : Interval) (n : ℕ) → s.lo < s.hi → s.hi ≤ n → how_many (span_has s) n ≡ s.hi - s.lo
many_of_span s n lt le = sym (same_many (has (s ∷ [])) (span_has s) n (λ k _. or-false (span_has s k))) ∙ count_is_total (s ∷ []) n (lt, tt, tt) (le, tt) ∙ omega arith
