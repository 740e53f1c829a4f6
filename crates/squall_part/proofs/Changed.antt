-- A partition stays one after a report, a gift, a load and the end of a course.
use Rattle.std.proofs.Common.{◌≡◌, ◌≢◌, ℕ, ◌<◌, ◌≤◌, ◌==◌, Bool, true, false, cond, List, [], ◌∷◌, get_or, set, Some, refl, sym, ap, subst, ◌∙◌}
use Rattle.std.specs.Prelude.{◌⊎◌}
use Rattle.std.specs.List.{AllByRecursion}
use Rattle.squall_key.specs.Keys.{top}
use Rattle.squall_span.specs.Spans.{Interval, IsSet, insert_span, union, minus}
use Rattle.squall_span.specs.SpanLaws.{set-minus, set-insert, set-union}
use Rattle.squall_join.specs.declared.flat.Flat.{Flat}
use Rattle.squall_join.specs.declared.flat.Flat.TheVariants.{Unknown, One, Clash}
use Rattle.squall_course.specs.Change.{Change}
use Rattle.squall_report.specs.Issues.{PlanPair}
use Rattle.squall_report.specs.declared.report.ReportKind.{ReportKind}
use Rattle.squall_report.specs.Told.{TellsBoth, both_issued, told_by_report, report_issues}
use Rattle.squall_board.specs.Boards.{BoardValue, IsBoard, issued, told}
use Rattle.squall_part.specs.Parts.{PartValue, Log, log_of, IsPart, IsLog, IsHeard, known_to, course_of_part, given_in, loaded_in, given_by, loaded_by, with_given, with_loaded, with_closed}
use Rattle.squall_protocol.specs.Known.{course_under}
use Rattle.squall_part.specs.Logs.{IsLogAt}
use Rattle.squall_part.specs.Giving.{after_giving, after_close}
use Rattle.squall_part.proofs.Logs.{apart, edit_at, edit_rising, edit_heard, edit_courses, edit_logs}
use Rattle.squall_part.proofs.Known.{known_number, log_at}
use Rattle.squall_part.proofs.Given.{given_here}

pub one_set : (s : Interval) → s.lo < s.hi → s.hi ≤ top → IsSet (s ∷ [])
one_set s lt le = ((lt, tt, tt), (le, tt))

pub given_set : (logs : List Log) (n : ℕ) → AllByRecursion IsLog logs → IsSet (given_in (log_of logs n))
given_set [] n all = (tt, tt)
given_set (l ∷ ls) n all = by (l.course.number == n) (given_set ls n all.1)
  where
    by : (b : Bool) → IsSet (given_in (log_of ls n)) → IsSet (given_in (cond b (Some l) (log_of ls n)))
    by true rest = all.0.given
    by false rest = rest

pub loaded_set : (logs : List Log) (n : ℕ) → AllByRecursion IsLog logs → IsSet (loaded_in (log_of logs n))
loaded_set [] n all = (tt, tt)
loaded_set (l ∷ ls) n all = by (l.course.number == n) (loaded_set ls n all.1)
  where
    by : (b : Bool) → IsSet (loaded_in (log_of ls n)) → IsSet (loaded_in (cond b (Some l) (log_of ls n)))
    by true rest = all.0.loaded
    by false rest = rest

-- ---- a gift

-- a log with other keys given, or loaded, and one that is closed
abbrev pub given_log : List Interval → Log → Log
given_log keys l = record l { given = keys }

abbrev pub loaded_log : List Interval → Log → Log
loaded_log keys l = record l { loaded = keys }

abbrev pub closed_log : Log → Log
closed_log l = record l { closed = true }

pub giving_logs : (p : PartValue) (at : ℕ) (d : Log) (s : Interval) → IsPart p → IsLogAt p.logs (course_of_part p) at
    → set p.logs at (given_log (insert_span s (get_or p.logs at d).given) (get_or p.logs at d)) ≡ with_given (course_of_part p).number (insert_span s (given_by p (course_of_part p).number)) p.logs
giving_logs p at d s is place =
    ap (λ g. set p.logs at (given_log (insert_span s g) (get_or p.logs at d))) (sym (given_here p at d is place))
    ∙ edit_at (course_of_part p).number (given_log (insert_span s (given_by p (course_of_part p).number))) p.logs at d (apart p is) place.within (ap (λ c. c.number) (place.course d))

pub giving_part : (p : PartValue) (s : Interval) → IsPart p → s.lo < s.hi → s.hi ≤ top → IsPart (after_giving p s)
giving_part p s is lt le =
    let n = (course_of_part p).number in
    let keys = insert_span s (given_by p n) in
    record {
      board = is.board;
      plans = is.plans;
      held = set-minus p.held (s ∷ []) is.held (one_set s lt le);
      logs = edit_logs n (given_log keys) p.logs (λ l e i. record { plans = i.plans; given = set-insert s (given_by p n) lt le (given_set p.logs n is.logs); loaded = i.loaded }) is.logs;
      rising = edit_rising n (given_log keys) (λ l. refl) p.logs is.rising;
      heard = edit_heard n (given_log keys) (λ l. refl) p.first p.board p.logs is.heard;
      known = λ m c k. edit_courses n (given_log keys) (λ l. refl) m p.logs ∙ is.known m c k;
    }

-- ---- a load

pub loading_logs : (p : PartValue) (c : Change) (m at : ℕ) (d : Log) (s : Interval) → IsPart p → known_to p m ≡ Some c → IsLogAt p.logs c at
    → set p.logs at (loaded_log (insert_span s (get_or p.logs at d).loaded) (get_or p.logs at d)) ≡ with_loaded m (insert_span s (loaded_by p m)) p.logs
loading_logs p c m at d s is known place =
    ap (λ g. set p.logs at (loaded_log (insert_span s g) (get_or p.logs at d))) (sym (ap loaded_in (log_at p m c at d is known place)))
    ∙ edit_at m (loaded_log (insert_span s (loaded_by p m))) p.logs at d (apart p is) place.within (ap (λ c. c.number) (place.course d) ∙ known_number p m c known)

pub loading_part : (p : PartValue) (m : ℕ) (s : Interval) → IsPart p → s.lo < s.hi → s.hi ≤ top
    → IsPart (record p { held = union p.held (minus (s ∷ []) (loaded_by p m)); logs = with_loaded m (insert_span s (loaded_by p m)) p.logs })
loading_part p m s is lt le =
    let keys = insert_span s (loaded_by p m) in
    record {
      board = is.board;
      plans = is.plans;
      held = set-union p.held (minus (s ∷ []) (loaded_by p m)) is.held (set-minus (s ∷ []) (loaded_by p m) (one_set s lt le) (loaded_set p.logs m is.logs));
      logs = edit_logs m (loaded_log keys) p.logs (λ l e i. record { plans = i.plans; given = i.given; loaded = set-insert s (loaded_by p m) lt le (loaded_set p.logs m is.logs) }) is.logs;
      rising = edit_rising m (loaded_log keys) (λ l. refl) p.logs is.rising;
      heard = edit_heard m (loaded_log keys) (λ l. refl) p.first p.board p.logs is.heard;
      known = λ n c k. edit_courses m (loaded_log keys) (λ l. refl) n p.logs ∙ is.known n c k;
    }

-- ---- the end of a course

pub closing_part : (p : PartValue) → IsPart p → IsPart (after_close p)
closing_part p is =
    let n = (course_of_part p).number in
    record {
      board = is.board;
      plans = is.plans;
      held = is.held;
      logs = edit_logs n closed_log p.logs (λ l e i. record { plans = i.plans; given = i.given; loaded = i.loaded }) is.logs;
      rising = edit_rising n closed_log (λ l. refl) p.logs is.rising;
      heard = edit_heard n closed_log (λ l. refl) p.first p.board p.logs is.heard;
      known = λ m c k. edit_courses n closed_log (λ l. refl) m p.logs ∙ is.known m c k;
    }

-- the log of the newest course is closed in its place
pub closing_logs : (p : PartValue) (at : ℕ) (d : Log) → IsPart p → IsLogAt p.logs (course_of_part p) at → set p.logs at (closed_log (get_or p.logs at d)) ≡ with_closed (course_of_part p).number p.logs
closing_logs p at d is place = edit_at (course_of_part p).number closed_log p.logs at d (apart p is) place.within (ap (λ c. c.number) (place.course d))

-- ---- a report that issues nothing

nothing_more : (x : Flat PlanPair) → both_issued x Unknown ≡ x
nothing_more Unknown = refl
nothing_more (One pair) = refl
nothing_more Clash = refl

heard_still : (first : Change) (b d : BoardValue) (logs : List Log) → ((n : ℕ) → issued d n ≡ issued b n) → AllByRecursion (λ l. IsHeard first b l.course.number) logs → AllByRecursion (λ l. IsHeard first d l.course.number) logs
heard_still first b d [] same h = tt
heard_still first b d (l ∷ ls) same h = (subst (λ x. (l.course.number ≡ first.number) ⊎ (x ≢ Unknown)) (sym (same l.course.number)) h.0, heard_still first b d ls same h.1)

pub told_part : (p : PartValue) (d : BoardValue) (r : ReportKind PlanPair) → IsPart p → IsBoard d → TellsBoth (told d) (told p.board) (told_by_report r) → ((n : ℕ) → report_issues r n ≡ Unknown) → IsPart (record p { board = d })
told_part p d r is board tells none = record {
  board = board;
  plans = is.plans;
  held = is.held;
  logs = is.logs;
  rising = is.rising;
  heard = heard_still p.first p.board d p.logs same is.heard;
  known = λ n c k. is.known n c (ap (λ x. cond (n == p.first.number) (Some p.first) (course_under n x)) (sym (same n)) ∙ k);
}
  where
    same : (n : ℕ) → issued d n ≡ issued p.board n
    same n = tells.issues n ∙ ap (both_issued (issued p.board n)) (none n) ∙ nothing_more (issued p.board n)
