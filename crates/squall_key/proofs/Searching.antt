-- The steps of a search among items that end at bounds.
use Rattle.std.proofs.Common.{◌≡◌, ℕ, zero, suc, ◌<◌, ◌≤◌, List, [], ◌∷◌, length, get_or, refl, sym, ap, ◌∙◌, arith}
use Rattle.std.specs.List.Sorted.{IsNonDecreasingBy}
use Rattle.squall_key.specs.Search.{Rises, IsBack, end_at, IsSoughtEnd, EndedBy}

-- the end at a place, however the item there is read
pub end_is : {A : Type 0} (end : A → ℕ) (xs : List A) (i : ℕ) (d : A) → i < length xs → end_at end xs i ≡ end (get_or xs i d)
end_is end [] i d lt = absurd (omega arith)
end_is end (x ∷ xs) zero d lt = refl
end_is end (x ∷ xs) (suc i) d lt = end_is end xs i d (omega arith)

pub ends_rise : {A : Type 0} (end : A → ℕ) (xs : List A) → IsNonDecreasingBy end xs → Rises (end_at end xs) (length xs)
ends_rise end [] up i j le lt = absurd (omega arith)
ends_rise end (x ∷ xs) up i j le lt =
    let rise = up i j x le lt in
    omega (arith, rise, end_is end (x ∷ xs) i x (omega arith), end_is end (x ∷ xs) j x lt)

-- the end of an item that was read at a place
pub end_read : {A : Type 0} (end : A → ℕ) (xs : List A) (i : ℕ) (x : A) (e : ℕ) → i < length xs → x ≡ get_or xs i x → e ≡ end x → e ≡ end_at end xs i
end_read end xs i x e lt is reads = reads ∙ ap end is ∙ sym (end_is end xs i x lt)

-- a step back by the end that was read
pub back_at : {A : Type 0} (end : A → ℕ) (xs : List A) (bound step i : ℕ) (x : A) (e r : ℕ) → i < length xs → x ≡ get_or xs i x → e ≡ end x → (bound < e → r ≡ step) → (e ≤ bound → r ≡ 0) → IsBack bound step (end_at end xs i) r
back_at end xs bound step i x e r lt is reads far near =
    let same = end_read end xs i x e lt is reads in
    record { beyond = λ b. far (omega (arith, b, same)); not_beyond = λ b. near (omega (arith, b, same)) }

pub sought_is_ended : {A : Type 0} (end : A → ℕ) (xs : List A) (bound i : ℕ) → IsSoughtEnd end xs bound i 0 → EndedBy end xs bound i
sought_is_ended end xs bound i m = record {
  within = omega (arith, m.within);
  before = λ j d lt. let past = m.before j lt in omega (arith, past, end_is end xs j d (omega (arith, m.within)));
  from = λ j d le lt. let far = m.from j (omega arith) lt in omega (arith, far, end_is end xs j d lt);
}
