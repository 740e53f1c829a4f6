-- The statuses of tasks that answer standard input as it comes.
use Rattle.std.proofs.Common.{◌≡◌, ◌≢◌, ◌⊎◌, inl, inr, ℕ, [], Bool, true, false, Result, Ok, Err, refl, sym, ap, ◌∙◌, arith}
use Rattle.std.proofs.lemmas.Bool.{false≢true}
use Rattle.std.proofs.KnownBytes.{Appends-nil}
use Rattle.std.specs.Prelude.{if◌then◌else◌}
use Rattle.squall_cli_device.specs.States.{SourceState, SinkState, NoReadFails, OutputFails, NoWriteFails}
use Rattle.squall_cli_lines.specs.Heeding.{InputFails, HeedsReads, HeedsWrites, Says}
use Rattle.squall_cli_lines.specs.declared.Ended.{Ended}
use Rattle.squall_cli_lines.specs.declared.Ended.TheVariants.{Fine, Refused}
use Rattle.squall_cli_lines.specs.declared.RunFault.{RunFault}
use Rattle.squall_cli_lines.specs.declared.RunFault.TheVariants.{Read, Write, NoMemory}
use Rattle.squall_cli_command.specs.declared.stream.WatchAsk.{WatchAsk}
use Rattle.squall_cli_watch.specs.declared.ending.WatchEnd.{WatchEnd}
use Rattle.squall_cli_watch.specs.declared.ending.WatchEnd.TheVariants as watch
use Rattle.squall_cli_ask.specs.Told.{status_of, status_at_end, status_of_watch, IsNoName, IsTold}

-- ---- what is told

pub nothing_said : (err : SinkState) → Says err err []
nothing_said err = ([], Appends-nil err.contents, ([], refl), inl refl)

-- nothing is told of a watch that has answered all of its input
pub end_told : (t : Bool) (status : ℕ) → status ≡ (if t then 5 else 0) → IsTold IsNoName status []
end_told true status e = inr (inr (inr (e, refl)))
end_told false status e = inl (Ok Fine, e, refl)

-- ---- of lines

pub zero_is_fine : (r : Result Ended RunFault) (status : ℕ) → status ≡ status_of r → status ≡ 0 → r ≡ Ok Fine
zero_is_fine (Ok Fine) status e z = refl
zero_is_fine (Ok Refused) status e z = absurd (omega (arith, e, z))
zero_is_fine (Err Read) status e z = absurd (omega (arith, e, z))
zero_is_fine (Err Write) status e z = absurd (omega (arith, e, z))
zero_is_fine (Err NoMemory) status e z = absurd (omega (arith, e, z))

device_fails : (r : Result Ended RunFault) (status : ℕ) → status ≡ status_of r → status ≡ 3 → (r ≡ Err Read) ⊎ (r ≡ Err Write)
device_fails (Ok Fine) status e z = absurd (omega (arith, e, z))
device_fails (Ok Refused) status e z = absurd (omega (arith, e, z))
device_fails (Err Read) status e z = inl refl
device_fails (Err Write) status e z = inr refl
device_fails (Err NoMemory) status e z = absurd (omega (arith, e, z))

pub no_bad_words : (r : Result Ended RunFault) (status : ℕ) → status ≡ status_of r → status ≢ 2
no_bad_words (Ok Fine) status e z = omega (arith, e, z)
no_bad_words (Ok Refused) status e z = omega (arith, e, z)
no_bad_words (Err Read) status e z = omega (arith, e, z)
no_bad_words (Err Write) status e z = omega (arith, e, z)
no_bad_words (Err NoMemory) status e z = omega (arith, e, z)

-- ---- of a watch

five_or_zero : (t : Bool) (n : ℕ) → n ≡ (if t then 5 else 0) → (n ≡ 0) ⊎ (n ≡ 5)
five_or_zero true n e = inr e
five_or_zero false n e = inl e

-- another status is not that of a watch that has answered all of its input
other_end : (how : WatchAsk) (n status : ℕ) → status ≡ n → status ≡ status_at_end how → n ≢ 0 → n ≢ 5 → ⊥
other_end how n status e at not_zero not_five = elim (five_or_zero how.is_until_complete status at) [
  | inl zero ↦ not_zero (sym e ∙ zero)
  | inr five ↦ not_five (sym e ∙ five)
]

not_zero : (t : Bool) (n : ℕ) → n ≡ 0 → t ≡ true → n ≡ (if t then 5 else 0) → ⊥
not_zero true n z u e = omega (arith, z, e)
not_zero false n z u e = false≢true u

pub end_is_fine : (how : WatchAsk) (r : Result WatchEnd RunFault) (status : ℕ) → status ≡ status_of_watch how r → (r ≡ Ok watch.Complete → how.is_until_complete ≡ true) → status ≡ status_at_end how
    → r ≡ Ok watch.Fine
end_is_fine how (Ok watch.Fine) status e until at = refl
end_is_fine how (Ok watch.Refused) status e until at = absurd (other_end how 1 status e at (λ z. omega (arith, z)) (λ z. omega (arith, z)))
end_is_fine how (Ok watch.Complete) status e until at = absurd (not_zero how.is_until_complete status e (until refl) at)
end_is_fine how (Err Read) status e until at = absurd (other_end how 3 status e at (λ z. omega (arith, z)) (λ z. omega (arith, z)))
end_is_fine how (Err Write) status e until at = absurd (other_end how 3 status e at (λ z. omega (arith, z)) (λ z. omega (arith, z)))
end_is_fine how (Err NoMemory) status e until at = absurd (other_end how 4 status e at (λ z. omega (arith, z)) (λ z. omega (arith, z)))

watch_device_fails : (how : WatchAsk) (r : Result WatchEnd RunFault) (status : ℕ) → status ≡ status_of_watch how r → status ≡ 3 → (r ≡ Err Read) ⊎ (r ≡ Err Write)
watch_device_fails how (Ok watch.Fine) status e z = absurd (other_end how 3 status z e (λ n. omega (arith, n)) (λ n. omega (arith, n)))
watch_device_fails how (Ok watch.Refused) status e z = absurd (omega (arith, e, z))
watch_device_fails how (Ok watch.Complete) status e z = absurd (omega (arith, e, z))
watch_device_fails how (Err Read) status e z = inl refl
watch_device_fails how (Err Write) status e z = inr refl
watch_device_fails how (Err NoMemory) status e z = absurd (omega (arith, e, z))

pub no_bad_watch : (how : WatchAsk) (r : Result WatchEnd RunFault) (status : ℕ) → status ≡ status_of_watch how r → status ≢ 2
no_bad_watch how (Ok watch.Fine) status e z = other_end how 2 status z e (λ n. omega (arith, n)) (λ n. omega (arith, n))
no_bad_watch how (Ok watch.Refused) status e z = omega (arith, e, z)
no_bad_watch how (Ok watch.Complete) status e z = omega (arith, e, z)
no_bad_watch how (Err Read) status e z = omega (arith, e, z)
no_bad_watch how (Err Write) status e z = omega (arith, e, z)
no_bad_watch how (Err NoMemory) status e z = omega (arith, e, z)

-- ---- devices

by_device : {T : Type 0} (r : Result T RunFault) (a b : SourceState) (x y : SinkState) → HeedsReads r a b → HeedsWrites r x y → (r ≡ Err Read) ⊎ (r ≡ Err Write) → InputFails a b ⊎ OutputFails x y
by_device r a b x y reads writes (inl read) = inl (reads.0 read)
by_device r a b x y reads writes (inr write) = inr (writes.0 write)

module _ (a b : SourceState) (x y : SinkState) where
  pub lines_fail : (r : Result Ended RunFault) (status : ℕ) → HeedsReads r a b → HeedsWrites r x y → status ≡ status_of r → status ≡ 3 → InputFails a b ⊎ OutputFails x y
  lines_fail r status reads writes e z = by_device r a b x y reads writes (device_fails r status e z)

  pub watch_fails : (how : WatchAsk) (r : Result WatchEnd RunFault) (status : ℕ) → HeedsReads r a b → HeedsWrites r x y → status ≡ status_of_watch how r → status ≡ 3 → InputFails a b ⊎ OutputFails x y
  watch_fails how r status reads writes e z = by_device r a b x y reads writes (watch_device_fails how r status e z)

  pub lines_heed : (r : Result Ended RunFault) (status : ℕ) → HeedsReads r a b → HeedsWrites r x y → status ≡ status_of r → status ≢ 3 → NoReadFails a b × NoWriteFails x y
  lines_heed r status reads writes e n = (reads.1 (λ is. n (e ∙ ap status_of is)), writes.1 (λ is. n (e ∙ ap status_of is)))

  pub watch_heeds : (how : WatchAsk) (r : Result WatchEnd RunFault) (status : ℕ) → HeedsReads r a b → HeedsWrites r x y → status ≡ status_of_watch how r → status ≢ 3 → NoReadFails a b × NoWriteFails x y
  watch_heeds how r status reads writes e n = (reads.1 (λ is. n (e ∙ ap (status_of_watch how) is)), writes.1 (λ is. n (e ∙ ap (status_of_watch how) is)))
