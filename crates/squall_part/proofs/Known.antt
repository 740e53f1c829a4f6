-- The courses that a partition knows have logs.
use Rattle.std.proofs.Common.{◌≡◌, ◌≢◌, ℕ, ◌==◌, Bool, true, false, cond, List, [], length, get_or, position, nat_lt, ◌≤◌, Option, None, Some, is_some, IfSome, IfNone, option_map, refl, sym, ap, subst, ◌∙◌, arith}
use Rattle.std.specs.List.{position_or_len}
use Rattle.std.proofs.lemmas.Bool.Decides.{nat_tests}
use Rattle.std.proofs.lemmas.List.Folds.{find_at}
use Rattle.std.proofs.lemmas.Option.{same_Some, slice_get_past}
use Rattle.std.proofs.lemmas.List.Quantifiers.{position-Some}
use Rattle.squall_join.specs.declared.flat.Flat.{Flat}
use Rattle.squall_join.specs.declared.flat.Flat.TheVariants.{Unknown, One, Clash}
use Rattle.squall_course.specs.Change.{Change}
use Rattle.squall_report.specs.Issues.{PlanPair}
use Rattle.squall_board.specs.Boards.{BoardValue, issued}
use Rattle.squall_board.specs.Newest.{IsNewest, newest_of}
use Rattle.squall_board.specs.NewestLaws.{newest_is_greatest}
use Rattle.squall_board.specs.CourseRoute.{course_by}
use Rattle.squall_part.specs.Parts.{PartValue, Log, log_with, log_of, IsPart, known_to, known_course, course_of_part, given_in, loaded_in, given_by, loaded_by}
use Rattle.squall_protocol.specs.Known.{course_under}
use Rattle.squall_part.specs.Logs.{has_number, IsLogAt}
use Rattle.squall_part.proofs.Logs.{eq_refl, eq_same, eq_differ, found_at, apart}

known_first : (first : Change) (b : BoardValue) → known_course first b first.number ≡ Some first
known_first first b = ap (λ t. cond t (Some first) (course_under first.number (issued b first.number))) (eq_refl first.number)

pub known_other : (first : Change) (b : BoardValue) (n : ℕ) → n ≢ first.number → known_course first b n ≡ course_under n (issued b n)
known_other first b n other = ap (λ t. cond t (Some first) (course_under n (issued b n))) (eq_differ n first.number other)

by_newest : (first : Change) (b : BoardValue) (o : Option (ℕ × PlanPair)) → IsNewest (issued b) first.number o → known_course first b (course_by first o).number ≡ Some (course_by first o)
by_newest first b None new = known_first first b
by_newest first b (Some e) new = known_other first b e.0 (λ s. omega (arith, s, new.0)) ∙ ap (course_under e.0) new.1

-- the course that it goes by is known
pub course_known : (p : PartValue) → IsPart p → known_to p (course_of_part p).number ≡ Some (course_of_part p)
course_known p is = by_newest p.first p.board (newest_of p.board p.first.number) (newest_is_greatest p.board p.first.number is.board)

-- a known course is of its number
pub known_number : (p : PartValue) (n : ℕ) (c : Change) → known_to p n ≡ Some c → c.number ≡ n
known_number p n c e = by (n == p.first.number) (λ t. eq_same n p.first.number t) (issued p.board n) e
  where
    by : (t : Bool) → (t ≡ true → n ≡ p.first.number) → (x : Flat PlanPair) → cond t (Some p.first) (course_under n x) ≡ Some c → c.number ≡ n
    by true s x e = sym (s refl ∙ ap (λ c. c.number) (same_Some _ _ e))
    by false s Unknown e = absurd (let bad : ⊥ = cc in bad)
    by false s Clash e = absurd (let bad : ⊥ = cc in bad)
    by false s (One pair) e = sym (ap (λ c. c.number) (same_Some _ _ e))

-- the log of a known number has its course
pub course_at : (p : PartValue) (n : ℕ) (c : Change) (at : ℕ) → IsPart p → known_to p n ≡ Some c → position (has_number n) p.logs ≡ Some at → IsLogAt p.logs c at
course_at p n c at is known found = record {
  within = (position-Some (has_number n) p.logs at (empty c) found).0;
  course = λ d. let there = position-Some (has_number n) p.logs at d found in
      let l = get_or p.logs at d in
      let e : l.course.number ≡ n = eq_same l.course.number n there.1 in
      same_Some l.course c (sym (ap (option_map (λ l. l.course)) (sym (ap (log_of p.logs) e) ∙ found_at p.logs at d (apart p is) there.0)) ∙ is.known n c known);
}
  where
    empty : Change → Log
    empty c = log_with c [] [] false

-- the log at the place of a number is that number's
pub found_in : (p : PartValue) (n at : ℕ) (d : Log) → IsPart p → Some at ≡ position (has_number n) p.logs → log_of p.logs n ≡ Some (get_or p.logs at d)
found_in p n at d is e =
    let there = position-Some (has_number n) p.logs at d (sym e) in
    ap (log_of p.logs) (sym (eq_same (get_or p.logs at d).course.number n there.1)) ∙ found_at p.logs at d (apart p is) there.0

pub none_at : (n : ℕ) (logs : List Log) → position (has_number n) logs ≡ None → log_of logs n ≡ None
none_at n logs e = find_at (has_number n) logs ∙ slice_get_past logs (position_or_len (has_number n) logs) (past (nat_lt (position_or_len (has_number n) logs) (length logs)) refl e)
  where
    past : (b : Bool) → nat_lt (position_or_len (has_number n) logs) (length logs) ≡ b → cond b (Some (position_or_len (has_number n) logs)) None ≡ None → length logs ≤ position_or_len (has_number n) logs
    past true t e = absurd (let bad : ⊥ = cc in bad)
    past false t e = grind (arith, nat_tests)

-- a known number has a log
pub none_known : (p : PartValue) (n : ℕ) (c : Change) → IsPart p → known_to p n ≡ Some c → position (has_number n) p.logs ≡ None → ⊥
none_known p n c is known none =
    let e : None ≡ Some c = sym (ap (option_map (λ l. l.course)) (none_at n p.logs none)) ∙ is.known n c known in
    let bad : ⊥ = cc in bad

-- the log of a known course
pub log_at : (p : PartValue) (n : ℕ) (c : Change) (at : ℕ) (d : Log) → IsPart p → known_to p n ≡ Some c → IsLogAt p.logs c at → log_of p.logs n ≡ Some (get_or p.logs at d)
log_at p n c at d is known place =
    ap (log_of p.logs) (sym (known_number p n c known) ∙ ap (λ c. c.number) (sym (place.course d))) ∙ found_at p.logs at d (apart p is) place.within

pub some_place : (p : PartValue) (n : ℕ) (o : Option ℕ) → IsPart p → is_some (known_to p n) ≡ true → o ≡ position (has_number n) p.logs → IfSome o (λ at. (c : Change) × (known_to p n ≡ Some c) × IsLogAt p.logs c at)
some_place p n None is some e = tt
some_place p n (Some at) is some e = by (known_to p n) refl some
  where
    by : (k : Option Change) → known_to p n ≡ k → is_some k ≡ true → (c : Change) × (known_to p n ≡ Some c) × IsLogAt p.logs c at
    by None k s = absurd (let bad : ⊥ = cc in bad)
    by (Some c) k s = (c, k, course_at p n c at is k (sym e))

pub none_place : (p : PartValue) (n : ℕ) (o : Option ℕ) → IsPart p → o ≡ position (has_number n) p.logs → IfNone o (known_to p n ≡ None)
none_place p n (Some at) is e = tt
none_place p n None is e = by (known_to p n) refl
  where
    by : (k : Option Change) → known_to p n ≡ k → k ≡ None
    by None k = refl
    by (Some c) k = absurd (none_known p n c is k (sym e))

-- the place of the newest course's log
pub newest_at : (p : PartValue) (at : ℕ) → IsPart p → (c : Change) × (known_to p (course_of_part p).number ≡ Some c) × IsLogAt p.logs c at → IsLogAt p.logs (course_of_part p) at
newest_at p at is found = subst (λ c. IsLogAt p.logs c at) (same_Some found.0 (course_of_part p) (sym found.1 ∙ course_known p is)) found.2

pub given_at : (p : PartValue) (n at : ℕ) (d : Log) → IsPart p → (c : Change) × (known_to p n ≡ Some c) × IsLogAt p.logs c at → Some (get_or p.logs at d).given ≡ option_map (λ c. given_by p n) (known_to p n)
given_at p n at d is found =
    ap (λ o. Some (given_in o)) (sym (log_at p n found.0 at d is found.1 found.2)) ∙ sym (ap (option_map (λ c. given_by p n)) found.1)

pub loaded_at : (p : PartValue) (n at : ℕ) (d : Log) → IsPart p → (c : Change) × (known_to p n ≡ Some c) × IsLogAt p.logs c at → Some (get_or p.logs at d).loaded ≡ option_map (λ c. loaded_by p n) (known_to p n)
loaded_at p n at d is found =
    ap (λ o. Some (loaded_in o)) (sym (log_at p n found.0 at d is found.1 found.2)) ∙ sym (ap (option_map (λ c. loaded_by p n)) found.1)
