-- Logs at their places.
use Rattle.std.proofs.Common.{◌≡◌, ◌⊎◌, ℕ, zero, suc, ◌+◌, ◌<◌, List, Some, refl, sym, ap, ◌∙◌, subst, inl, inr, ⊎_elim, arith}
use Rattle.std.specs.List.{slice_get}
use Rattle.squall_protocol.specs.declared.event.Node.{Node}
use Rattle.squall_judge.specs.declared.log.Log.{Log}
use Rattle.squall_judge.specs.Entries.{IsLogAt}

less_or_same : (i n : ℕ) → i < n + 1 → (i < n) ⊎ (i ≡ n)
less_or_same zero zero low = inr refl
less_or_same zero (suc n) low = inl (omega arith)
less_or_same (suc i) zero low = absurd (omega (arith, low))
less_or_same (suc i) (suc n) low = ⊎_elim (λ (a : i < n). inl (omega (arith, a))) (λ (e : i ≡ n). inr (ap suc e)) (less_or_same i n (omega (arith, low)))

-- what holds of each index below one more
pub below : (n : ℕ) (P : ℕ → Type 0) → ((i : ℕ) → i < n → P i) → P n → (i : ℕ) → i < n + 1 → P i
below n P less here i low = ⊎_elim (λ (a : i < n). less i a) (λ (e : i ≡ n). subst P (sym e) here) (less_or_same i n low)

one_there : (x y : Log) → Some x ≡ Some y → x ≡ y
one_there x y e = cc

-- the log at a place is of one node
pub node_of : (logs : List Log) (i : ℕ) (log : Log) (m : Node) → slice_get logs i ≡ Some log → IsLogAt logs i m → log.node ≡ m
node_of logs i log m at h = ap (λ (x : Log). x.node) (one_there log h.0 (sym at ∙ h.1)) ∙ h.2
