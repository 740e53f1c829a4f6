-- Logs: where each is found, and how one is changed in its place.
use Rattle.std.proofs.Common.{◌≡◌, ◌≢◌, ℕ, zero, suc, ◌+◌, ◌<◌, ◌==◌, not, nat_lt, Bool, true, false, cond, List, [], ◌∷◌, length, get_or, set, map, position, Option, None, Some, option_map, refl, sym, ap, subst, ◌∙◌, arith}
use Rattle.std.specs.List.{AllByRecursion, position_or_len}
use Rattle.std.proofs.lemmas.Bool.Decides.{nat_tests}
use Rattle.squall_course.specs.Change.{Change}
use Rattle.squall_board.specs.Boards.{BoardValue}
use Rattle.squall_part.specs.Parts.{PartValue, Log, log_of, IsBelow, AreRising, IsLog, IsHeard, IsPart}
use Rattle.squall_part.specs.Logs.{has_number}

pub eq_refl : (n : ℕ) → (n == n) ≡ true
eq_refl n = grind (arith, nat_tests)

pub eq_same : (m n : ℕ) → (m == n) ≡ true → m ≡ n
eq_same m n e = grind (arith, nat_tests)

pub eq_differ : (m n : ℕ) → m ≢ n → (m == n) ≡ false
eq_differ m n e = grind (arith, nat_tests)

-- no log is of the number, and no two logs are of one number
abbrev pub IsNotIn : ℕ → List Log → Type 0
IsNotIn n logs = AllByRecursion (λ l. l.course.number ≢ n) logs

abbrev pub AreApart : List Log → Type 0
AreApart [] = Unit {0}
AreApart (l ∷ ls) = IsNotIn l.course.number ls × AreApart ls

pub below_not_in : (n : ℕ) (logs : List Log) → IsBelow n logs → IsNotIn n logs
below_not_in n [] b = tt
below_not_in n (l ∷ ls) b = ((λ e. omega (arith, e, b.0)), below_not_in n ls b.1)

pub rising_apart : (logs : List Log) → AreRising logs → AreApart logs
rising_apart [] r = tt
rising_apart (l ∷ ls) r = (below_not_in l.course.number ls r.0, rising_apart ls r.1)

pub apart : (p : PartValue) → IsPart p → AreApart p.logs
apart p is = rising_apart p.logs is.rising

not_in_at : (n : ℕ) (logs : List Log) (at : ℕ) (d : Log) → IsNotIn n logs → at < length logs → (get_or logs at d).course.number ≢ n
not_in_at n [] at d a lt e = omega arith
not_in_at n (l ∷ ls) zero d a lt e = a.0 e
not_in_at n (l ∷ ls) (suc at) d a lt e = not_in_at n ls at d a.1 (omega arith) e

-- a log is found by its number
pub found_at : (logs : List Log) (at : ℕ) (d : Log) → AreApart logs → at < length logs → log_of logs (get_or logs at d).course.number ≡ Some (get_or logs at d)
found_at [] at d a lt = absurd (omega arith)
found_at (l ∷ ls) zero d a lt = ap (λ b. cond b (Some l) (log_of ls l.course.number)) (eq_refl l.course.number)
found_at (l ∷ ls) (suc at) d a lt =
    let n = (get_or ls at d).course.number in
    ap (λ b. cond b (Some l) (log_of ls n)) (eq_differ l.course.number n (λ e. not_in_at l.course.number ls at d a.0 (omega arith) (sym e))) ∙ found_at ls at d a.1 (omega arith)

-- and so is its place
pub place_is : (n : ℕ) (logs : List Log) (at : ℕ) (d : Log) → AreApart logs → at < length logs → (get_or logs at d).course.number ≡ n → position_or_len (has_number n) logs ≡ at
place_is n [] at d a lt e = absurd (omega arith)
place_is n (l ∷ ls) zero d a lt e = ap (λ b. cond (not b) (1 + position_or_len (has_number n) ls) 0) (subst (λ m. (l.course.number == m) ≡ true) e (eq_refl l.course.number))
place_is n (l ∷ ls) (suc at) d a lt e =
    ap (λ b. cond (not b) (1 + position_or_len (has_number n) ls) 0) (eq_differ l.course.number n (λ s. not_in_at l.course.number ls at d a.0 (omega arith) (e ∙ sym s)))
    ∙ (let rest = place_is n ls at d a.1 (omega arith) e in omega (arith, rest))

pub found_there : (n : ℕ) (logs : List Log) (at : ℕ) (d : Log) → AreApart logs → at < length logs → (get_or logs at d).course.number ≡ n → Some at ≡ position (has_number n) logs
found_there n logs at d a lt e =
    let within : nat_lt at (length logs) ≡ true = grind (arith, nat_tests) in
    sym (ap (λ i. cond (nat_lt i (length logs)) (Some i) None) (place_is n logs at d a lt e) ∙ ap (λ b. cond b (Some at) None) within)

-- the log of the number, changed
abbrev pub edit : ℕ → (Log → Log) → Log → Log
edit n f l = cond (l.course.number == n) (f l) l

edit_elsewhere : (n : ℕ) (f : Log → Log) (logs : List Log) → IsNotIn n logs → map (edit n f) logs ≡ logs
edit_elsewhere n f [] a = refl
edit_elsewhere n f (l ∷ ls) a = λ i. cond (eq_differ l.course.number n a.0 i) (f l) l ∷ edit_elsewhere n f ls a.1 i

-- to change it in its place changes no other
pub edit_at : (n : ℕ) (f : Log → Log) (logs : List Log) (at : ℕ) (d : Log) → AreApart logs → at < length logs → (get_or logs at d).course.number ≡ n
    → set logs at (f (get_or logs at d)) ≡ map (edit n f) logs
edit_at n f [] at d a lt e = absurd (omega arith)
edit_at n f (l ∷ ls) zero d a lt e = sym (λ i. cond ((ap (λ m. l.course.number == m) (sym e) ∙ eq_refl l.course.number) i) (f l) l ∷ edit_elsewhere n f ls (subst (λ m. IsNotIn m ls) e a.0) i)
edit_at n f (l ∷ ls) (suc at) d a lt e = sym (λ i. cond (eq_differ l.course.number n (λ s. not_in_at l.course.number ls at d a.0 (omega arith) (e ∙ sym s)) i) (f l) l ∷ sym (edit_at n f ls at d a.1 (omega arith) e) i)

module _ (n : ℕ) (f : Log → Log) (same : (l : Log) → (f l).course ≡ l.course) where
  pub edit_course : (l : Log) → (edit n f l).course ≡ l.course
  edit_course l = by (l.course.number == n)
    where
      by : (b : Bool) → (cond b (f l) l).course ≡ l.course
      by true = same l
      by false = refl

  edit_below : (m : ℕ) (logs : List Log) → IsBelow m logs → IsBelow m (map (edit n f) logs)
  edit_below m [] b = tt
  edit_below m (l ∷ ls) b = (subst (λ c. m < c.number) (sym (edit_course l)) b.0, edit_below m ls b.1)

  pub edit_rising : (logs : List Log) → AreRising logs → AreRising (map (edit n f) logs)
  edit_rising [] r = tt
  edit_rising (l ∷ ls) r = (subst (λ c. IsBelow c.number (map (edit n f) ls)) (sym (edit_course l)) (edit_below l.course.number ls r.0), edit_rising ls r.1)

  pub edit_heard : (first : Change) (b : BoardValue) (logs : List Log) → AllByRecursion (λ l. IsHeard first b l.course.number) logs → AllByRecursion (λ l. IsHeard first b l.course.number) (map (edit n f) logs)
  edit_heard first b [] h = tt
  edit_heard first b (l ∷ ls) h = (subst (λ c. IsHeard first b c.number) (sym (edit_course l)) h.0, edit_heard first b ls h.1)

  pub edit_courses : (m : ℕ) (logs : List Log) → option_map (λ l. l.course) (log_of (map (edit n f) logs) m) ≡ option_map (λ l. l.course) (log_of logs m)
  edit_courses m [] = refl
  edit_courses m (l ∷ ls) =
      ap (λ c. option_map (λ l. l.course) (cond (c.number == m) (Some (edit n f l)) (log_of (map (edit n f) ls) m))) (edit_course l) ∙ by (l.course.number == m) (edit_courses m ls)
    where
      by : (b : Bool) → option_map (λ l. l.course) (log_of (map (edit n f) ls) m) ≡ option_map (λ l. l.course) (log_of ls m)
          → option_map (λ l. l.course) (cond b (Some (edit n f l)) (log_of (map (edit n f) ls) m)) ≡ option_map (λ l. l.course) (cond b (Some l) (log_of ls m))
      by true rest = ap Some (edit_course l)
      by false rest = rest

pub edit_logs : (n : ℕ) (f : Log → Log) (logs : List Log) → ((l : Log) → l.course.number ≡ n → IsLog l → IsLog (f l)) → AllByRecursion IsLog logs → AllByRecursion IsLog (map (edit n f) logs)
edit_logs n f [] keep h = tt
edit_logs n f (l ∷ ls) keep h = (by (l.course.number == n) (λ e. keep l (eq_same l.course.number n e) h.0), edit_logs n f ls keep h.1)
  where
    by : (b : Bool) → (b ≡ true → IsLog (f l)) → IsLog (cond b (f l) l)
    by true k = k refl
    by false k = h.0

-- a look-up after the log of a number was changed
pub edited : (n : ℕ) (f : Log → Log) → ((l : Log) → (f l).course ≡ l.course) → (logs : List Log) (m : ℕ) → log_of (map (edit n f) logs) m ≡ cond (m == n) (option_map f (log_of logs m)) (log_of logs m)
edited n f same [] m = by (m == n)
  where
    nothing : Option Log
    nothing = None

    by : (b : Bool) → nothing ≡ cond b (option_map f nothing) nothing
    by true = refl
    by false = refl
edited n f same (l ∷ ls) m = ap (λ c. cond (c.number == m) (Some (edit n f l)) (log_of (map (edit n f) ls) m)) (edit_course n f same l) ∙ by (l.course.number == m) refl (edited n f same ls m)
  where
    at : (b : Bool) → Some (cond b (f l) l) ≡ cond b (Some (f l)) (Some l)
    at true = refl
    at false = refl

    by : (b : Bool) → (l.course.number == m) ≡ b → log_of (map (edit n f) ls) m ≡ cond (m == n) (option_map f (log_of ls m)) (log_of ls m)
        → cond b (Some (cond (l.course.number == n) (f l) l)) (log_of (map (edit n f) ls) m) ≡ cond (m == n) (option_map f (cond b (Some l) (log_of ls m))) (cond b (Some l) (log_of ls m))
    by true e rest = ap (λ v. Some (cond (v == n) (f l) l)) (eq_same l.course.number m e) ∙ at (m == n)
    by false e rest = rest
