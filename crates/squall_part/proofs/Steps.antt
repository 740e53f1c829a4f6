-- The steps of a gift, of a load, and of the end of a course.
use Rattle.std.proofs.Common.{◌≡◌, ℕ, ◌<◌, ◌≤◌, ◌&&◌, not, Bool, true, false, List, [], ◌∷◌, get_or, set, Result, Ok, Err, None, Some, refl, sym, ap, subst, ◌∙◌}
use Rattle.std.specs.Prelude.{OnOk, OnErr, IsTrue, ◌↔◌}
use Rattle.std.proofs.lemmas.Bool.{false≢true}
use Rattle.std.proofs.lemmas.List.{set-get_or}
use Rattle.squall_key.specs.Keys.{top}
use Rattle.squall_span.specs.Spans.{Interval, has, span_has, IsSet, first_span, insert_span, without_span, union, minus}
use Rattle.squall_span.specs.SpanLaws.{has_first, first_span_is}
use Rattle.squall_course.specs.Change.{Change}
use Rattle.squall_course.specs.Moves.{is_incoming}
use Rattle.squall_report.specs.Told.{TellsBoth, told_by_report}
use Rattle.squall_board.specs.Boards.{BoardValue, IsBoard, told}
use Rattle.squall_protocol.specs.Chunks.{ChunkValue, load_report}
use Rattle.squall_part.specs.Parts.{PartValue, Log, IsPart, known_to, course_of_part, opened_at, loaded_in, loaded_by}
use Rattle.squall_part.specs.Logs.{IsLogAt}
use Rattle.squall_part.specs.Steps.{IsLoadPlace}
use Rattle.squall_protocol.specs.Carried.{Carried}
use Rattle.squall_part.specs.Giving.{after_giving, after_close}
use Rattle.squall_part.specs.Loading.{MayLoad, AllLoaded, SomeMissing, is_missing, done_report, after_finish}
use Rattle.squall_part.proofs.Known.{log_at}
use Rattle.squall_part.proofs.Given.{loaded_here}
use Rattle.squall_report.specs.Issues.{PlanPair}
use Rattle.squall_report.specs.declared.report.ReportKind.TheVariants.{Done as DoneReport}
use Rattle.std.specs.List.{slice_get}
use Rattle.squall_report.specs.declared.report.ReportKind.{ReportKind}
use Rattle.squall_board.specs.Boards.{board_join, report_board}
use Rattle.squall_part.specs.Loading.{after_load}
use Rattle.squall_protocol.specs.Firsts.{IsRun}
use Rattle.squall_part.proofs.Changed.{given_log, loaded_log, closed_log, giving_logs, giving_part, loading_logs, loading_part, closing_logs, closing_part, told_part}

-- ---- a gift

module _ (p : PartValue) (at : ℕ) (l : Log) (s : Interval) (held given : List Interval) (is : IsPart p) (place : IsLogAt p.logs (course_of_part p) at) (l-is : l ≡ get_or p.logs at l) where
  given_ok : held ≡ without_span s p.held → given ≡ insert_span s l.given → record p { held = held; logs = set p.logs at (given_log given l) } ≡ after_giving p s
  given_ok h g = λ i. record p {
    held = h i;
    logs = (ap (λ g. set p.logs at (given_log g l)) g ∙ ap (λ m. set p.logs at (given_log (insert_span s m.given) m)) l-is ∙ giving_logs p at l s is place) i;
  }

  pub given_after : {A E : Type 0} (r : Result A E) (q : PartValue) → p ≡ q → OnOk r (held ≡ without_span s p.held) → OnOk r (given ≡ insert_span s l.given) → OnOk r (record p { held = held; logs = set p.logs at (given_log given l) } ≡ after_giving q s)
  given_after (Ok x) q same h g = given_ok h g ∙ ap (λ p. after_giving p s) same
  given_after (Err e) q same h g = tt

  pub given_valid : {A E : Type 0} (r : Result A E) → s.lo < s.hi → s.hi ≤ top → OnOk r (held ≡ without_span s p.held) → OnOk r (given ≡ insert_span s l.given) → OnErr r ((held ≡ p.held) × (given ≡ l.given))
      → IsPart (record p { held = held; logs = set p.logs at (given_log given l) })
  given_valid (Ok x) lt le h g e = subst IsPart (sym (given_ok h g)) (giving_part p s is lt le)
  given_valid (Err x) lt le h g e = subst IsPart (sym same) is
    where
      same : record p { held = held; logs = set p.logs at (given_log given l) } ≡ p
      same = λ i. record p { held = e.0 i; logs = (ap (λ g. set p.logs at (given_log g l)) e.1 ∙ ap (set p.logs at) l-is ∙ set-get_or p.logs at l) i }

-- ---- a load

module _ (p : PartValue) (c : ChunkValue) (at : ℕ) (l : Log) (board : BoardValue) (held loaded : List Interval) (is : IsPart p) (place : IsLoadPlace p c at) (l-is : l ≡ get_or p.logs at l) where
  loaded_same : l.loaded ≡ loaded_by p c.number
  loaded_same = ap (λ l. l.loaded) l-is ∙ sym (ap loaded_in (log_at p c.number place.0 at l is place.1 place.2))

  loaded_logs : loaded ≡ insert_span c.span l.loaded → set p.logs at (loaded_log loaded l) ≡ (after_load p c).logs
  loaded_logs g = ap (λ g. set p.logs at (loaded_log g l)) g ∙ ap (λ m. set p.logs at (loaded_log (insert_span c.span m.loaded) m)) l-is ∙ loading_logs p place.0 c.number at l c.span is place.1 place.2

  loaded_held : held ≡ union p.held (minus (c.span ∷ []) l.loaded) → held ≡ (after_load p c).held
  loaded_held h = h ∙ ap (λ l. union p.held (minus (c.span ∷ []) l)) loaded_same

  loaded_ok : board ≡ board_join p.board (report_board (load_report c)) → held ≡ union p.held (minus (c.span ∷ []) l.loaded) → loaded ≡ insert_span c.span l.loaded
      → record p { board = board; held = held; logs = set p.logs at (loaded_log loaded l) } ≡ after_load p c
  loaded_ok b h g = λ i. record p { board = b i; held = loaded_held h i; logs = loaded_logs g i }

  pub loaded_after : {A E : Type 0} (r : Result A E) (q : PartValue) (s : Interval) (rep : ReportKind PlanPair) → p ≡ q → s ≡ c.span → rep ≡ load_report c
      → OnOk r (board ≡ board_join p.board (report_board rep)) → OnOk r (held ≡ union p.held (minus (s ∷ []) l.loaded)) → OnOk r (loaded ≡ insert_span s l.loaded)
      → OnOk r (record p { board = board; held = held; logs = set p.logs at (loaded_log loaded l) } ≡ after_load q c)
  loaded_after (Ok x) q s rep same s-is rep-is b h g =
      loaded_ok (subst (λ m. board ≡ board_join p.board (report_board m)) rep-is b) (subst (λ m. held ≡ union p.held (minus (m ∷ []) l.loaded)) s-is h) (subst (λ m. loaded ≡ insert_span m l.loaded) s-is g)
      ∙ ap (λ p. after_load p c) same
  loaded_after (Err e) q s rep same s-is rep-is b h g = tt

  pub loaded_valid : {A E : Type 0} (r : Result A E) (s : Interval) (rep : ReportKind PlanPair) → s ≡ c.span → rep ≡ load_report c → c.span.lo < c.span.hi → c.span.hi ≤ top → OnOk r (IsBoard board) → OnOk r (TellsBoth (told board) (told p.board) (told_by_report rep))
      → OnOk r (held ≡ union p.held (minus (s ∷ []) l.loaded)) → OnOk r (loaded ≡ insert_span s l.loaded) → OnErr r ((board ≡ p.board) × (held ≡ p.held) × (loaded ≡ l.loaded))
      → IsPart (record p { board = board; held = held; logs = set p.logs at (loaded_log loaded l) })
  loaded_valid (Ok x) s rep s-is rep-is lt le valid t h g e =
      let held-is = loaded_held (subst (λ m. held ≡ union p.held (minus (m ∷ []) l.loaded)) s-is h) in
      let logs-is = loaded_logs (subst (λ m. loaded ≡ insert_span m l.loaded) s-is g) in
      subst IsPart (λ i. record p { board = board; held = sym held-is i; logs = sym logs-is i })
      (told_part (record p { held = (after_load p c).held; logs = (after_load p c).logs }) board (load_report c) (loading_part p c.number c.span is lt le) valid (subst (λ m. TellsBoth (told board) (told p.board) (told_by_report m)) rep-is t) (λ n. refl))
  loaded_valid (Err x) s rep s-is rep-is lt le valid t h g e = subst IsPart (sym same) is
    where
      same : record p { board = board; held = held; logs = set p.logs at (loaded_log loaded l) } ≡ p
      same = λ i. record p { board = e.0 i; held = e.1 i; logs = (ap (λ g. set p.logs at (loaded_log g l)) e.2 ∙ ap (set p.logs at) l-is ∙ set-get_or p.logs at l) i }

-- ---- the end of a course

module _ (p : PartValue) (at : ℕ) (l : Log) (is : IsPart p) (place : IsLogAt p.logs (course_of_part p) at) (l-is : l ≡ get_or p.logs at l) where
  closed_ok : record p { logs = set p.logs at (closed_log l) } ≡ after_close p
  closed_ok = λ i. record p { logs = (ap (λ m. set p.logs at (closed_log m)) l-is ∙ closing_logs p at l is place) i }

  pub closed_after : (q : PartValue) → p ≡ q → record p { logs = set p.logs at (closed_log l) } ≡ after_close q
  closed_after q same = closed_ok ∙ ap after_close same

  pub closed_valid : IsPart (record p { logs = set p.logs at (closed_log l) })
  closed_valid = subst IsPart (sym closed_ok) (closing_part p is)

-- ---- where a chunk may be loaded

pub has_all : (p : PartValue) (c : ChunkValue) (at : ℕ) (d : Log) (loaded : List Interval) → IsPart p → IsLoadPlace p c at → loaded ≡ (get_or p.logs at d).loaded → ((k : ℕ) → span_has c.span k ≡ true → has loaded k ≡ true) → AllLoaded p c
has_all p c at d loaded is place e all = λ k h. ap (λ s. has s k) (ap loaded_in (log_at p c.number place.0 at d is place.1 place.2) ∙ sym e) ∙ all k h

pub lacks_some : (p : PartValue) (c : ChunkValue) (at : ℕ) (d : Log) (loaded : List Interval) → IsPart p → IsLoadPlace p c at → loaded ≡ (get_or p.logs at d).loaded → (k : ℕ) → span_has c.span k ≡ true → has loaded k ≡ false → SomeMissing p c
lacks_some p c at d loaded is place e k h none = (k, h, ap (λ s. has s k) (ap loaded_in (log_at p c.number place.0 at d is place.1 place.2) ∙ sym e) ∙ none)

same_course : (p : PartValue) (n : ℕ) (c d : Change) → known_to p n ≡ Some c → known_to p n ≡ Some d → c ≡ d
same_course p n c d e f = let g : Some c ≡ Some d = sym e ∙ f in cc

pub stranger : (p : PartValue) (c : ChunkValue) (at : ℕ) (d : Log) (course : Change) (b : Bool) → IsLoadPlace p c at → course ≡ (get_or p.logs at d).course → (IsTrue b ↔ Carried course c) → b ≡ false → MayLoad p c → ⊥
stranger p c at d course b place e iff refused may =
    let same : may.0 ≡ course = same_course p c.number may.0 place.0 may.1 place.1 ∙ sym (place.2.course d) ∙ sym e in
    false≢true (sym refused ∙ iff.1 (subst (λ x. Carried x c) same may.4))

pub may_load : (p : PartValue) (c : ChunkValue) (at : ℕ) (d : Log) (course : Change) (b : Bool) → IsLoadPlace p c at → course ≡ (get_or p.logs at d).course → (IsTrue b ↔ Carried course c) → b ≡ true → c.dest ≡ p.id → c.sub < opened_at p c.number → MayLoad p c
may_load p c at d course b place e iff passed here opened =
    let carried = subst (λ x. Carried x c) (e ∙ place.2.course d) (iff.0 passed) in
    (place.0, place.1, opened, here, carried)

-- ---- the end of a sub-plan

pub missing_keys : (p : PartValue) (sub at : ℕ) (d : Log) (incoming missing loaded : List Interval) (course : Change) → IsPart p → IsLogAt p.logs (course_of_part p) at → course ≡ (get_or p.logs at d).course → loaded ≡ (get_or p.logs at d).loaded
    → ((k : ℕ) → has incoming k ≡ is_incoming course.old course.new sub p.id k) → ((k : ℕ) → has missing k ≡ (has incoming k && not (has loaded k))) → (k : ℕ) → has missing k ≡ is_missing p sub k
missing_keys p sub at d incoming missing loaded course is place e l in' out k =
    out k ∙ (λ i. (in' k ∙ ap (λ c. is_incoming c.old c.new sub p.id k) (e ∙ place.course d)) i && not (has ((l ∙ sym (loaded_here p at d is place)) i) k))

pub incoming_keys : (p : PartValue) (sub at : ℕ) (d : Log) (incoming : List Interval) (course : Change) → IsLogAt p.logs (course_of_part p) at → course ≡ (get_or p.logs at d).course
    → ((k : ℕ) → has incoming k ≡ is_incoming course.old course.new sub p.id k) → (k : ℕ) → has incoming k ≡ is_incoming (course_of_part p).old (course_of_part p).new sub p.id k
incoming_keys p sub at d incoming course place e in' k = in' k ∙ ap (λ c. is_incoming c.old c.new sub p.id k) (e ∙ place.course d)

pub missing_run : (test : ℕ → Bool) (missing : List Interval) (s : Interval) → IsSet missing → first_span missing ≡ Some s → ((k : ℕ) → has missing k ≡ test k) → IsRun test s
missing_run test missing s is e keys =
    let run = (first_span_is missing s is.0).0 e in
    record { some = run.some; keys = λ k le lt. sym (keys k) ∙ run.keys k le lt; least = λ k h. run.least k (keys k ∙ h); longest = sym (keys s.hi) ∙ run.longest }

pub first_of : (xs : List Interval) → first_span xs ≡ slice_get xs 0
first_of [] = refl
first_of (s ∷ ss) = refl

pub none_missing : (test : ℕ → Bool) (missing : List Interval) → first_span missing ≡ None → ((k : ℕ) → has missing k ≡ test k) → (k : ℕ) → test k ≡ false
none_missing test [] e keys k = sym (keys k)
none_missing test (s ∷ ss) e keys k = absurd (let bad : ⊥ = cc in bad)

pub some_key : (test : ℕ → Bool) (set : List Interval) → IsSet set → (set ≡ [] → ⊥) → ((k : ℕ) → has set k ≡ test k) → (k : ℕ) × (test k ≡ true)
some_key test [] is some keys = absurd (some refl)
some_key test (s ∷ ss) is some keys = (s.lo, sym (keys s.lo) ∙ has_first s ss is.0.0)

-- a partition that finished is one
pub finished_part : (p : PartValue) (d : BoardValue) (r : ReportKind PlanPair) (n sub part : ℕ) → IsPart p → IsBoard d → TellsBoth (told d) (told p.board) (told_by_report r) → r ≡ DoneReport n sub part → IsPart (record p { board = d })
finished_part p d r n sub part is board tells e = told_part p d (DoneReport n sub part) is board (subst (λ r. TellsBoth (told d) (told p.board) (told_by_report r)) e tells) (λ m. refl)

pub finish_after : (p q : PartValue) (d : BoardValue) (r : ReportKind PlanPair) (sub : ℕ) → p ≡ q → d ≡ board_join p.board (report_board r) → r ≡ done_report q sub → record p { board = d } ≡ after_finish q sub
finish_after p q d r sub same e is =
    told_as p (λ i. e i) ∙ moved_as ∙ said_as
  where
    after : PartValue → ReportKind PlanPair → PartValue
    after x r = record x { board = board_join x.board (report_board r) }

    told_as : (p : PartValue) → d ≡ board_join p.board (report_board r) → record p { board = d } ≡ after p r
    told_as p e = λ i. record p { board = e i }

    moved_as : after p r ≡ after q r
    moved_as = λ i. after (same i) r

    said_as : after q r ≡ after q (done_report q sub)
    said_as = λ i. after q (is i)
