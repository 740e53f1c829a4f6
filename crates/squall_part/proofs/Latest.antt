-- The last log that passes, looked for from the end of logs that rise.
use Rattle.std.proofs.Common.{◌≡◌, ℕ, zero, suc, ◌+◌, ◌<◌, ◌&&◌, nat_lt, Bool, true, false, cond, List, [], ◌∷◌, ◌++◌, length, get_or, take, Option, None, Some, refl, ap, ◌∙◌, arith}
use Rattle.std.specs.List.{AllByRecursion}
use Rattle.std.proofs.lemmas.List.{take_more}
use Rattle.std.proofs.lemmas.Bool.Decides.{nat_tests}
use Rattle.std.proofs.Math.Bool.{and-false}
use Rattle.squall_part.specs.Parts.{Log, IsBelow, AreRising}
use Rattle.squall_part.specs.Logs.{number_in, later, last_from, last_of}

last_more : (test : Log → Bool) (found : Option Log) (logs : List Log) (l : Log) → last_from test found (logs ++ l ∷ []) ≡ later test (last_from test found logs) l
last_more test found [] l = refl
last_more test found (m ∷ ms) l = last_more test (later test found m) ms l

last_step : (test : Log → Bool) (logs : List Log) (at : ℕ) (d : Log) → at < length logs → last_of test (take (at + 1) logs) ≡ later test (last_of test (take at logs)) (get_or logs at d)
last_step test logs at d lt = ap (last_of test) (take_more logs at d lt) ∙ last_more test None (take at logs) (get_or logs at d)

-- ---- numbers before a place

below_at : (n : ℕ) (logs : List Log) (at : ℕ) (d : Log) → IsBelow n logs → at < length logs → n < (get_or logs at d).course.number
below_at n [] at d b lt = absurd (omega arith)
below_at n (l ∷ ls) zero d b lt = b.0
below_at n (l ∷ ls) (suc at) d b lt = below_at n ls at d b.1 (omega arith)

before : (logs : List Log) (at : ℕ) (d : Log) → AreRising logs → at < length logs → AllByRecursion (λ l. l.course.number < (get_or logs at d).course.number) (take at logs)
before [] at d r lt = absurd (omega arith)
before (l ∷ ls) zero d r lt = tt
before (l ∷ ls) (suc at) d r lt = (below_at l.course.number ls at d r.0 (omega arith), before ls at d r.1 (omega arith))

last_less : (test : Log → Bool) (m : ℕ) (found : Option Log) (logs : List Log) → number_in found < m → AllByRecursion (λ l. l.course.number < m) logs → number_in (last_from test found logs) < m
last_less test m found [] lt a = lt
last_less test m found (l ∷ ls) lt a = last_less test m (later test found l) ls (by (nat_lt (number_in found) l.course.number && test l)) a.1
  where
    by : (b : Bool) → number_in (cond b (Some l) found) < m
    by true = a.0
    by false = lt

-- ---- a log at a place, and those before it

pub latest : (test : Log → Bool) (logs : List Log) (at : ℕ) (d : Log) → AreRising logs → at < length logs → 0 < (get_or logs at d).course.number → test (get_or logs at d) ≡ true
    → last_of test (take (at + 1) logs) ≡ Some (get_or logs at d)
latest test logs at d r lt some passes =
    let l = get_or logs at d in
    let less : number_in (last_of test (take at logs)) < l.course.number = last_less test l.course.number None (take at logs) some (before logs at d r lt) in
    let up : nat_lt (number_in (last_of test (take at logs))) l.course.number ≡ true = grind (arith, nat_tests) in
    last_step test logs at d lt ∙ (λ i. cond (up i && passes i) (Some l) (last_of test (take at logs)))

pub earlier : (test : Log → Bool) (logs : List Log) (at : ℕ) (d : Log) → at < length logs → test (get_or logs at d) ≡ false → last_of test (take (at + 1) logs) ≡ last_of test (take at logs)
earlier test logs at d lt fails =
    let l = get_or logs at d in
    last_step test logs at d lt
    ∙ ap (λ b. cond b (Some l) (last_of test (take at logs))) (ap (λ b. nat_lt (number_in (last_of test (take at logs))) l.course.number && b) fails ∙ and-false (nat_lt (number_in (last_of test (take at logs))) l.course.number))
