-- Partitions that give no more under a course.
use Rattle.std.proofs.Common.{◌≡◌, ℕ, ◌==◌, ◌||◌, Bool, true, false, cond, Ok, option_map, refl, sym, ap, ◌∙◌}
use Rattle.std.proofs.lemmas.Bool.{or_left, false≢true}
use Rattle.squall_protocol.specs.Chunks.{ChunkValue}
use Rattle.squall_part.specs.Parts.{PartValue, log_of, IsPart, course_of_part, closed_in, closed_by}
use Rattle.squall_part.specs.Giving.{IsClosed, IsGiven, IsGivenAt, after_close}
use Rattle.squall_part.proofs.Logs.{eq_refl, eq_same, edited}
use Rattle.squall_part.proofs.Known.{course_known}
use Rattle.squall_part.proofs.Served.{known_log}
use Rattle.squall_part.proofs.Changed.{closed_log}

-- the number of the newest course is closed then, and of the others those that were
pub closed_then : (p : PartValue) (m : ℕ) → IsPart p → closed_by (after_close p) m ≡ (m == (course_of_part p).number || closed_by p m)
closed_then p m is = ap closed_in (edited n closed_log (λ l. refl) p.logs m) ∙ by (m == n) refl
  where
    n : ℕ
    n = (course_of_part p).number

    by : (b : Bool) → (m == n) ≡ b → closed_in (cond b (option_map closed_log (log_of p.logs m)) (log_of p.logs m)) ≡ (b || closed_by p m)
    by true e = ap (λ o. closed_in (option_map closed_log o)) (ap (log_of p.logs) (eq_same m n e) ∙ (known_log p n (course_of_part p) is (course_known p is)).1)
    by false e = refl

pub closed_newest : (p : PartValue) → IsPart p → closed_by (after_close p) (course_of_part p).number ≡ true
closed_newest p is =
    let n = (course_of_part p).number in
    closed_then p n is ∙ or_left (n == n) (closed_by p n) (eq_refl n)

pub gives_nothing : (p q : PartValue) (most : ℕ) (c : ChunkValue) → IsClosed p → IsGiven p most (Ok c) q → ⊥
gives_nothing p q most c closed h = false≢true (sym h.1.1 ∙ closed)

pub gives_no_key : (p q : PartValue) (k : ℕ) (c : ChunkValue) → IsClosed p → IsGivenAt p k (Ok c) q → ⊥
gives_no_key p q k c closed h = false≢true (sym h.1.1 ∙ closed)
