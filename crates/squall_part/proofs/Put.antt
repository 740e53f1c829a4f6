-- Logs that are put among others.
use Rattle.std.proofs.Common.{◌≡◌, ◌≢◌, ℕ, suc, ◌+◌, ◌<◌, ◌≤◌, ◌==◌, not, nat_lt, Bool, true, false, cond, List, [], ◌∷◌, ◌++◌, length, position, Option, None, Some, refl, sym, ap, subst, ◌∙◌, arith, inl, inr}
use Rattle.std.specs.Prelude.{◌⊎◌}
use Rattle.std.specs.List.{AllByRecursion, position_or_len, insert}
use Rattle.std.specs.Option.{option_or}
use Rattle.std.proofs.lemmas.Bool.Decides.{nat_tests}
use Rattle.std.proofs.lemmas.Bool.{cases_eq}
use Rattle.std.proofs.lemmas.Option.{same_Some}
use Rattle.std.proofs.lemmas.List.Folds.{find-append}
use Rattle.squall_part.specs.Parts.{Log, log_of, IsBelow, AreRising}
use Rattle.squall_part.specs.Fresh.{is_above, put_log, put_logs}
use Rattle.squall_part.proofs.Logs.{IsNotIn, below_not_in, eq_same, eq_differ}

-- ---- one log

all_put : (P : Log → Type 0) (l : Log) (logs : List Log) → P l → AllByRecursion P logs → AllByRecursion P (put_log l logs)
all_put P l [] p a = (p, tt)
all_put P l (m ∷ ms) p a = by (nat_lt l.course.number m.course.number) (all_put P l ms p a.1)
  where
    by : (b : Bool) → AllByRecursion P (put_log l ms) → AllByRecursion P (cond b (l ∷ m ∷ ms) (m ∷ put_log l ms))
    by true rest = (p, a)
    by false rest = (a.0, rest)

below_less : (m n : ℕ) (logs : List Log) → m < n → IsBelow n logs → IsBelow m logs
below_less m n [] lt b = tt
below_less m n (l ∷ ls) lt b = (omega (arith, lt, b.0), below_less m n ls lt b.1)

put_rising : (l : Log) (logs : List Log) → IsNotIn l.course.number logs → AreRising logs → AreRising (put_log l logs)
put_rising l [] a r = (tt, tt)
put_rising l (m ∷ ms) a r = by (nat_lt l.course.number m.course.number) (put_rising l ms a.1 r.1) refl
  where
    less : (m.course.number ≡ l.course.number) ⊎ (m.course.number ≢ l.course.number) → m.course.number ≤ l.course.number → m.course.number < l.course.number
    less c le = elim c [ inl same ↦ absurd (a.0 same) | inr other ↦ omega (arith, le, other) ]

    by : (b : Bool) → AreRising (put_log l ms) → nat_lt l.course.number m.course.number ≡ b → AreRising (cond b (l ∷ m ∷ ms) (m ∷ put_log l ms))
    by true rest e =
        let lt : l.course.number < m.course.number = grind (arith, nat_tests) in
        ((lt, below_less l.course.number m.course.number ms lt r.0), r)
    by false rest e =
        let le : m.course.number ≤ l.course.number = grind (arith, nat_tests) in
        (all_put (λ x. m.course.number < x.course.number) l ms (less (cases_eq m.course.number l.course.number) le) r.0, rest)

not_there : (n : ℕ) (logs : List Log) → IsNotIn n logs → log_of logs n ≡ None
not_there n [] a = refl
not_there n (l ∷ ls) a = ap (λ b. cond b (Some l) (log_of ls n)) (eq_differ l.course.number n a.0) ∙ not_there n ls a.1

or_none : (o : Option Log) → option_or o None ≡ o
or_none None = refl
or_none (Some l) = refl

-- what is found then is what was found before, or else the log
find_put : (n : ℕ) (l : Log) (logs : List Log) → IsNotIn l.course.number logs → log_of (put_log l logs) n ≡ option_or (log_of logs n) (log_of (l ∷ []) n)
find_put n l [] a = refl
find_put n l (m ∷ ms) a = by (nat_lt l.course.number m.course.number) (find_put n l ms a.1)
  where
    first : (b : Bool) (o : Option Log) → (b ≡ true → o ≡ None) → cond b (Some l) o ≡ option_or o (cond b (Some l) None)
    first true o none = sym (ap (λ o. option_or o (Some l)) (none refl))
    first false o none = sym (or_none o)

    second : (b : Bool) (x y z : Option Log) → x ≡ option_or y z → cond b (Some m) x ≡ option_or (cond b (Some m) y) z
    second true x y z e = refl
    second false x y z e = e

    by : (b : Bool) → log_of (put_log l ms) n ≡ option_or (log_of ms n) (log_of (l ∷ []) n) → log_of (cond b (l ∷ m ∷ ms) (m ∷ put_log l ms)) n ≡ option_or (log_of (m ∷ ms) n) (log_of (l ∷ []) n)
    by true rest = first (l.course.number == n) (log_of (m ∷ ms) n) (λ e. not_there n (m ∷ ms) (subst (λ k. IsNotIn k (m ∷ ms)) (eq_same l.course.number n e) a))
    by false rest = second (m.course.number == n) (log_of (put_log l ms) n) (log_of ms n) (log_of (l ∷ []) n) rest

insert_next : (m l : Log) (ms : List Log) (at : ℕ) → insert (m ∷ ms) (1 + at) l ≡ m ∷ insert ms at l
insert_next m l ms at = let e : 1 + at ≡ suc at = omega arith in ap (λ k. insert (m ∷ ms) k l) e

-- it stands at the place of the first one of a greater number
put_at : (l : Log) (logs : List Log) → put_log l logs ≡ insert logs (position_or_len (is_above l.course.number) logs) l
put_at l [] = refl
put_at l (m ∷ ms) = by (nat_lt l.course.number m.course.number) (put_at l ms)
  where
    by : (b : Bool) → put_log l ms ≡ insert ms (position_or_len (is_above l.course.number) ms) l → cond b (l ∷ m ∷ ms) (m ∷ put_log l ms) ≡ insert (m ∷ ms) (cond (not b) (1 + position_or_len (is_above l.course.number) ms) 0) l
    by true rest = refl
    by false rest = ap (λ ls. m ∷ ls) rest ∙ sym (insert_next m l ms (position_or_len (is_above l.course.number) ms))

pub put_some : (l : Log) (logs : List Log) (at : ℕ) → Some at ≡ position (is_above l.course.number) logs → insert logs at l ≡ put_log l logs
put_some l logs at found = ap (λ k. insert logs k l) (by (nat_lt (position_or_len (is_above l.course.number) logs) (length logs)) found) ∙ sym (put_at l logs)
  where
    by : (b : Bool) → Some at ≡ cond b (Some (position_or_len (is_above l.course.number) logs)) None → at ≡ position_or_len (is_above l.course.number) logs
    by true e = same_Some _ _ e
    by false e = absurd (let bad : ⊥ = cc in bad)

put_last : (l : Log) (logs : List Log) → length logs ≤ position_or_len (is_above l.course.number) logs → logs ++ l ∷ [] ≡ put_log l logs
put_last l [] le = refl
put_last l (m ∷ ms) le = by (nat_lt l.course.number m.course.number) (put_last l ms) le
  where
    by : (b : Bool) → (length ms ≤ position_or_len (is_above l.course.number) ms → ms ++ l ∷ [] ≡ put_log l ms) → length (m ∷ ms) ≤ cond (not b) (1 + position_or_len (is_above l.course.number) ms) 0
        → m ∷ (ms ++ l ∷ []) ≡ cond b (l ∷ m ∷ ms) (m ∷ put_log l ms)
    by true rest le = absurd (omega (arith, le))
    by false rest le = ap (λ ls. m ∷ ls) (rest (omega (arith, le)))

pub put_none : (l : Log) (logs : List Log) → None ≡ position (is_above l.course.number) logs → logs ++ l ∷ [] ≡ put_log l logs
put_none l logs none = put_last l logs (past (nat_lt (position_or_len (is_above l.course.number) logs) (length logs)) refl none)
  where
    past : (b : Bool) → nat_lt (position_or_len (is_above l.course.number) logs) (length logs) ≡ b → None ≡ cond b (Some (position_or_len (is_above l.course.number) logs)) None → length logs ≤ position_or_len (is_above l.course.number) logs
    past true t e = absurd (let bad : ⊥ = cc in bad)
    past false t e = grind (arith, nat_tests)

-- ---- many logs

pub all_puts : (P : Log → Type 0) (ls logs : List Log) → AllByRecursion P ls → AllByRecursion P logs → AllByRecursion P (put_logs ls logs)
all_puts P [] logs p a = a
all_puts P (l ∷ ls) logs p a = all_put P l (put_logs ls logs) p.0 (all_puts P ls logs p.1 a)

-- those that are put and those that are there have other numbers than the next one
next_not_in : (l : Log) (ls logs : List Log) → IsNotIn l.course.number logs → IsBelow l.course.number ls → IsNotIn l.course.number (put_logs ls logs)
next_not_in l ls logs a b = all_puts (λ m. m.course.number ≢ l.course.number) ls logs (below_not_in l.course.number ls b) a

pub puts_rising : (ls logs : List Log) → AllByRecursion (λ l. IsNotIn l.course.number logs) ls → AreRising ls → AreRising logs → AreRising (put_logs ls logs)
puts_rising [] logs a s r = r
puts_rising (l ∷ ls) logs a s r = put_rising l (put_logs ls logs) (next_not_in l ls logs a.0 s.0) (puts_rising ls logs a.1 s.1 r)

pub find_puts : (n : ℕ) (ls logs : List Log) → AllByRecursion (λ l. IsNotIn l.course.number logs) ls → AreRising ls → log_of (put_logs ls logs) n ≡ log_of (logs ++ ls) n
find_puts n [] logs a s = sym (find-append (λ l. l.course.number == n) logs [] ∙ or_none (log_of logs n))
find_puts n (l ∷ ls) logs a s =
    find_put n l (put_logs ls logs) (next_not_in l ls logs a.0 s.0)
    ∙ ap (λ o. option_or o (log_of (l ∷ []) n)) (find_puts n ls logs a.1 s.1 ∙ find-append (λ l. l.course.number == n) logs ls)
    ∙ by (log_of logs n) (l.course.number == n) (λ e. not_there n ls (subst (λ k. IsNotIn k ls) (eq_same l.course.number n e) (below_not_in l.course.number ls s.0)))
    ∙ sym (find-append (λ l. l.course.number == n) logs (l ∷ ls))
  where
    by : (o : Option Log) (b : Bool) → (b ≡ true → log_of ls n ≡ None) → option_or (option_or o (log_of ls n)) (cond b (Some l) None) ≡ option_or o (cond b (Some l) (log_of ls n))
    by (Some m) b none = refl
    by None true none = ap (λ o. option_or o (Some l)) (none refl)
    by None false none = or_none (log_of ls n)

-- to put the last of them first
pub puts_last : (ls logs : List Log) (l : Log) → put_logs (ls ++ l ∷ []) logs ≡ put_logs ls (put_log l logs)
puts_last [] logs l = refl
puts_last (m ∷ ms) logs l = ap (put_log m) (puts_last ms logs l)
