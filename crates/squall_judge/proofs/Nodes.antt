-- Of which nodes logs are.
use Rattle.std.proofs.Common.{◌≡◌, ◌⊎◌, ℕ, zero, suc, ◌+◌, ◌<◌, ◌≤◌, List, length, slice_index_or, Some, refl, sym, ap, ◌∙◌, subst, inl, inr, ⊎_elim, arith}
use Rattle.std.specs.List.{slice_get}
use Rattle.std.proofs.lemmas.Option.{slice_get_within, slice_get-get_or}
use Rattle.std.proofs.lemmas.List.{get_or_read}
use Rattle.squall_protocol.specs.declared.event.Node.{Node}
use Rattle.squall_protocol.specs.declared.event.Node.TheVariants.{Router}
use Rattle.squall_protocol.specs.Worlds.{most_routers}
use Rattle.squall_protocol.specs.ListLaws.{at_one}
use Rattle.squall_judge.specs.declared.log.Log.{Log}
use Rattle.squall_judge.specs.Entries.{IsLogAt, AreApart, HasTwoLogs, AreRouters, IsCount}

-- an element that was read is there
pub read_at : {A : Type 0} (xs : List A) (i : ℕ) (x : A) → i < length xs → x ≡ slice_index_or xs i x → slice_get xs i ≡ Some x
read_at xs i x low read = slice_get-get_or xs i x low ∙ ap Some (sym (get_or_read xs i x low read x))

less_or_same : (i n : ℕ) → i < n + 1 → (i < n) ⊎ (i ≡ n)
less_or_same zero zero low = inr refl
less_or_same zero (suc n) low = inl (omega arith)
less_or_same (suc i) zero low = absurd (omega (arith, low))
less_or_same (suc i) (suc n) low = ⊎_elim (λ (a : i < n). inl (omega (arith, a))) (λ (e : i ≡ n). inr (ap suc e)) (less_or_same i n (omega (arith, low)))

-- what holds of each index below one more
pub below : (n : ℕ) (P : ℕ → Type 0) → ((i : ℕ) → i < n → P i) → P n → (i : ℕ) → i < n + 1 → P i
below n P less here i low = ⊎_elim (λ (a : i < n). less i a) (λ (e : i ≡ n). subst P (sym e) here) (less_or_same i n low)

three_ways : (i j : ℕ) → (i < j) ⊎ ((i ≡ j) ⊎ (j < i))
three_ways zero zero = inr (inl refl)
three_ways zero (suc j) = inl (omega arith)
three_ways (suc i) zero = inr (inr (omega arith))
three_ways (suc i) (suc j) = ⊎_elim
    (λ (a : i < j). inl (omega (arith, a)))
    (λ (b : (i ≡ j) ⊎ (j < i)). inr (⊎_elim (λ (e : i ≡ j). inl (ap suc e)) (λ (a : j < i). inr (omega (arith, a))) b))
    (three_ways i j)

-- the log at a place is of one node
pub node_of : (logs : List Log) (i : ℕ) (log : Log) (m : Node) → slice_get logs i ≡ Some log → IsLogAt logs i m → log.node ≡ m
node_of logs i log m at h = ap (λ (x : Log). x.node) (at_one logs i log h.0 at h.1) ∙ h.2

-- no later log is of the node of an earlier one
abbrev pub NoneLater : List Log → ℕ → Type 0
NoneLater logs n = (i j : ℕ) (m : Node) → i < j → j < n → IsLogAt logs i m → IsLogAt logs j m → ⊥

pub apart_from : (logs : List Log) (n : ℕ) → length logs ≤ n → NoneLater logs n → AreApart logs
apart_from logs n all none i j m a b = ⊎_elim
    (λ (less : i < j). absurd (none i j m less (within j b) a b))
    (λ (rest : (i ≡ j) ⊎ (j < i)). ⊎_elim (λ (e : i ≡ j). e) (λ (less : j < i). absurd (none j i m less (within i a) b a)) rest)
    (three_ways i j)
  where
    within : (k : ℕ) → IsLogAt logs k m → k < n
    within k h = let low = slice_get_within logs k h.0 h.1 in omega (arith, low, all)

pub apart_not_two : (logs : List Log) → AreApart logs → HasTwoLogs logs → ⊥
apart_not_two logs apart h = let same = apart h.0 h.1 h.2 h.4 h.5 in let less = h.3 in omega (arith, same, less)

-- how many routers the first logs need
pub record AreCounted (logs : List Log) (n count : ℕ) : Type 0 where
  pub few : count ≤ most_routers
  pub each : (i r : ℕ) → i < n → IsLogAt logs i (Router r) → r < count
  pub last : (count ≡ 0) ⊎ ((i : ℕ) × (r : ℕ) × IsLogAt logs i (Router r) × (count ≡ r + 1))

pub one_counted : (logs : List Log) (n before after : ℕ) (log : Log) → slice_get logs n ≡ Some log → AreCounted logs n before → IsCount before log after → AreCounted logs (n + 1) after
one_counted logs n before after log at c d =
    record {
      few = d.few;
      each = λ i r low h. below n (λ k. IsLogAt logs k (Router r) → r < after) (λ k less g. let a = c.each k r less g in let b = d.more in omega (arith, a, b)) (λ g. d.each r (node_of logs n log (Router r) at g)) i low h;
      last = ⊎_elim
          (λ (same : after ≡ before). ⊎_elim
          (λ (none : before ≡ 0). inl (same ∙ none))
          (λ (some : (i : ℕ) × (r : ℕ) × IsLogAt logs i (Router r) × (before ≡ r + 1)). inr (some.0, some.1, some.2, same ∙ some.3))
          c.last)
          (λ (here : (r : ℕ) × (log.node ≡ Router r) × (after ≡ r + 1)). inr (n, here.0, (log, at, here.1), here.2))
          d.last;
    }

pub all_counted : (logs : List Log) (n count : ℕ) → length logs ≤ n → AreCounted logs n count → AreRouters logs count
all_counted logs n count all c =
    record { few = c.few; each = λ i r h. let low = slice_get_within logs i h.0 h.1 in c.each i r (omega (arith, low, all)) h; last = c.last }
