-- What a gift does to keys.
use Rattle.std.proofs.Common.{◌≡◌, ℕ, ◌<◌, not, true, false, cond, List, [], ◌∷◌, Some, option_map, refl, ap, ◌∙◌}
use Rattle.std.proofs.lemmas.Bool.{or_left, and_right}
use Rattle.squall_span.specs.Spans.{Interval, has, span_has, insert_span}
use Rattle.squall_span.specs.SpanLaws.{has-minus, has-insert}
use Rattle.squall_part.specs.Parts.{PartValue, Log, log_of, IsPart, course_of_part, given_in, given_by, with_given}
use Rattle.squall_part.specs.Giving.{after_giving}
use Rattle.squall_part.proofs.Logs.{eq_refl, edited}
use Rattle.squall_part.proofs.Known.{course_known}
use Rattle.squall_part.proofs.Served.{known_log}
use Rattle.squall_part.proofs.Changed.{given_log, given_set}

pub held_no_more : (p : PartValue) (s : Interval) (k : ℕ) → span_has s k ≡ true → has (after_giving p s).held k ≡ false
held_no_more p s k h = has-minus p.held (s ∷ []) k ∙ and_right (has p.held k) (not (has (s ∷ []) k)) (ap not (or_left (span_has s k) false h))

-- the log of the number has the keys that are set
set_in : (n : ℕ) (keys : List Interval) (logs : List Log) (l : Log) → log_of logs n ≡ Some l → given_in (log_of (with_given n keys logs) n) ≡ keys
set_in n keys logs l e =
    ap given_in (edited n (given_log keys) (λ l. refl) logs n) ∙ ap (λ b. given_in (cond b (option_map (given_log keys) (log_of logs n)) (log_of logs n))) (eq_refl n) ∙ ap (λ o. given_in (option_map (given_log keys) o)) e

pub given_then : (p : PartValue) (s : Interval) (k : ℕ) → IsPart p → s.lo < s.hi → span_has s k ≡ true → has (given_by (after_giving p s) (course_of_part p).number) k ≡ true
given_then p s k is lt h =
    let n = (course_of_part p).number in
    let l = known_log p n (course_of_part p) is (course_known p is) in
    ap (λ g. has g k) (set_in n (insert_span s (given_by p n)) p.logs l.0 l.1)
    ∙ has-insert s (given_by p n) k lt (given_set p.logs n is.logs).0 ∙ or_left (span_has s k) (has (given_by p n) k) h
