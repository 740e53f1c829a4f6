-- What a step of a search learns (this project).
use Rattle.std.specs.Prelude.{◌≡◌, ℕ, ◌+◌, ◌-◌, ◌*◌, ◌<◌, ◌≤◌}
use Rattle.std.proofs.Common.{subst, arith, inl, inr}
use Rattle.std.proofs.lemmas.Bool.{cases_lt}
use Rattle.squall_key.specs.Search.{Rises, IsSought, IsBack}

-- past a place whose end is not beyond the bound
over : (ends : ℕ → ℕ) (count bound base size s : ℕ) → Rises ends count → IsSought ends count bound base size → 0 < s → s ≤ size → ends (base + s - 1) ≤ bound → IsSought ends count bound (base + s) (size - s)
over ends count bound base size s up m pos le past = record {
  within = omega (arith, m.within);
  before = λ j lt. let rise = up j (base + s - 1) (omega arith) (omega (arith, m.within)) in omega (arith, rise, past);
  from = λ j ge lt. m.from j (omega arith) lt;
}

-- fewer places, since the end at one of them is beyond the bound
under : (ends : ℕ → ℕ) (count bound base size s n : ℕ) → Rises ends count → IsSought ends count bound base size → 0 < s → s ≤ n + 1 → n ≤ size → bound < ends (base + s - 1) → IsSought ends count bound base n
under ends count bound base size s n up m pos le fits far = record {
  within = omega (arith, m.within);
  before = m.before;
  from = λ j ge lt. let rise = up (base + s - 1) j (omega arith) lt in omega (arith, rise, far);
}

at_place : (ends : ℕ → ℕ) (count bound a b size : ℕ) → a ≡ b → IsSought ends count bound a size → IsSought ends count bound b size
at_place ends count bound a b size e m = subst (λ x. IsSought ends count bound x size) e m

of_size : (ends : ℕ → ℕ) (count bound base m n : ℕ) → m ≡ n → IsSought ends count bound base m → IsSought ends count bound base n
of_size ends count bound base m n e h = subst (λ x. IsSought ends count bound base x) e h

halved : (ends : ℕ → ℕ) (count bound base size step r : ℕ) → Rises ends count → IsSought ends count bound base size → 0 < step → 2 * step ≤ size + 1
    → IsBack bound step (ends (base + step - 1)) r → IsSought ends count bound (base + step - r) (size - step)
halved ends count bound base size step r up m pos parts b = elim (cases_lt bound (ends (base + step - 1))) [
  | inl lt ↦ at_place _ _ _ _ _ _ (omega (arith, b.beyond lt)) (under ends count bound base size step (size - step) up m pos (omega arith) (omega arith) lt)
  | inr ge ↦ at_place _ _ _ _ _ _ (omega (arith, b.not_beyond ge)) (over ends count bound base size step up m pos (omega arith) ge)
]

thirded : (ends : ℕ → ℕ) (count bound base size step r r' : ℕ) → Rises ends count → IsSought ends count bound base size → 0 < step → 3 * step ≤ size + 1
    → IsBack bound step (ends (base + step - 1)) r → IsBack bound step (ends (base + step + step - 1)) r' → IsSought ends count bound (base + step + step - r - r') (size - 2 * step)
thirded ends count bound base size step r r' up m pos parts b b' =
    let rise = up (base + step - 1) (base + step + step - 1) (omega arith) (omega (arith, m.within)) in
    elim (cases_lt bound (ends (base + step - 1))) [
      | inl lt ↦ at_place _ _ _ _ _ _ (omega (arith, b.beyond lt, b'.beyond (omega (arith, rise, lt)))) (under ends count bound base size step (size - 2 * step) up m pos (omega arith) (omega arith) lt)
      | inr ge ↦
          let rest = halved ends count bound (base + step) (size - step) step r' up (over ends count bound base size step up m pos (omega arith) ge) pos (omega arith) b' in
          at_place _ _ _ _ _ _ (omega (arith, b.not_beyond ge)) (of_size _ _ _ _ _ _ (omega arith) rest)
    ]

pub quartered : (ends : ℕ → ℕ) (count bound base size step r r' r'' : ℕ) → Rises ends count → IsSought ends count bound base size → 0 < step → 4 * step ≤ size + 1
    → IsBack bound step (ends (base + step - 1)) r → IsBack bound step (ends (base + step + step - 1)) r' → IsBack bound step (ends (base + step + step + step - 1)) r''
    → IsSought ends count bound (base + step + step + step - r - r' - r'') (size - 3 * step)
quartered ends count bound base size step r r' r'' up m pos parts b b' b'' =
    let rise = up (base + step - 1) (base + step + step - 1) (omega arith) (omega (arith, m.within)) in
    let rise' = up (base + step - 1) (base + step + step + step - 1) (omega arith) (omega (arith, m.within)) in
    elim (cases_lt bound (ends (base + step - 1))) [
      | inl lt ↦ at_place _ _ _ _ _ _ (omega (arith, b.beyond lt, b'.beyond (omega (arith, rise, lt)), b''.beyond (omega (arith, rise', lt)))) (under ends count bound base size step (size - 3 * step) up m pos (omega arith) (omega arith) lt)
      | inr ge ↦
          let rest = thirded ends count bound (base + step) (size - step) step r' r'' up (over ends count bound base size step up m pos (omega arith) ge) pos (omega arith) b' b'' in
          at_place _ _ _ _ _ _ (omega (arith, b.not_beyond ge)) (of_size _ _ _ _ _ _ (omega arith) rest)
    ]

-- ---- one after the other

pub turn_first : (ends : ℕ → ℕ) (count bound base size : ℕ) → IsSought ends count bound base size → IsSought ends base bound base 0
turn_first ends count bound base size m = record {
  within = omega arith;
  before = m.before;
  from = λ j le lt. absurd (omega arith);
}

-- an end beyond the bound
turn_beyond : (ends : ℕ → ℕ) (bound place at : ℕ) → IsSought ends at bound place 0 → bound < ends at → IsSought ends (at + 1) bound place 0
turn_beyond ends bound place at m far = record {
  within = omega (arith, m.within);
  before = m.before;
  from = λ j ge lt. elim (cases_lt j at) [
    | inl old ↦ m.from j ge old
    | inr new ↦ subst (λ i. bound < ends i) (omega (arith, new, lt)) far
  ];
}

-- an end that is not beyond it, so no end before it is
none_beyond : (ends : ℕ → ℕ) (count bound place at : ℕ) → Rises ends count → at < count → IsSought ends at bound place 0 → ends at ≤ bound → place ≡ at
none_beyond ends count bound place at up fits m past = elim (cases_lt place at) [
  | inl old ↦ let far = m.from place (omega arith) old in let rise = up place at (omega arith) fits in absurd (omega (arith, far, rise, past))
  | inr all ↦ omega (arith, m.within, all)
]

turn_past : (ends : ℕ → ℕ) (count bound place at : ℕ) → Rises ends count → at < count → place ≡ at → ends at ≤ bound → IsSought ends (at + 1) bound (place + 1) 0
turn_past ends count bound place at up fits all past = record {
  within = omega arith;
  before = λ j lt. let rise = up j at (omega arith) fits in omega (arith, rise, past);
  from = λ j ge lt. absurd (omega arith);
}

pub turn_next : (ends : ℕ → ℕ) (count bound place at r : ℕ) → Rises ends count → at < count → IsSought ends at bound place 0 → (bound < ends at → r ≡ 0) → (ends at ≤ bound → r ≡ 1) → IsSought ends (at + 1) bound (place + r) 0
turn_next ends count bound place at r up fits m none one = elim (cases_lt bound (ends at)) [
  | inl far ↦ at_place _ _ _ _ _ _ (omega (arith, none far)) (turn_beyond ends bound place at m far)
  | inr past ↦ at_place _ _ _ _ _ _ (omega (arith, one past)) (turn_past ends count bound place at up fits (none_beyond ends count bound place at up fits m past) past)
]

pub turn_last : (ends : ℕ → ℕ) (count bound base size place at : ℕ) → IsSought ends count bound base size → at ≡ base + size → IsSought ends at bound place 0 → IsSought ends count bound place 0
turn_last ends count bound base size place at m end t = record {
  within = omega (arith, m.within, t.within);
  before = t.before;
  from = λ j le lt. elim (cases_lt j at) [
    | inl old ↦ t.from j le old
    | inr new ↦ m.from j (omega arith) lt
  ];
}
