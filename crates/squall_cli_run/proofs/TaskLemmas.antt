-- What is done for a task where something stops it, and which task words ask for.
use Rattle.std.proofs.Math.Seq.{take-length}
use Rattle.std.proofs.Common.{◌≡◌, ◌≢◌, ◌⊎◌, inl, inr, ℕ, ◌<◌, List, [], ◌++◌, Bool, true, false, not, ◌&&◌, Option, Some, None, Result, Ok, Err, refl, sym, subst, ap, ◌∙◌, arith}
use Rattle.std.proofs.KnownBytes.{Appends-nil, Consumes-nil}
use Rattle.std.proofs.lemmas.Bool.{false≢true}
use Rattle.std.proofs.lemmas.List.{append-nil}
use Rattle.std.proofs.lemmas.Option.{none-some, same_Some}
use Rattle.std.specs.Prelude.{MatchBool, if◌then◌else◌}
use Rattle.std.specs.List.{list_any}
use Rattle.std.specs.Io.KnownBytes.{Appends, Consumes, IsAtEnd}
use Rattle.squall_cli_device.specs.States.{SourceState, SinkState}
use Rattle.squall_cli_lines.specs.declared.Ended.{Ended}
use Rattle.squall_cli_lines.specs.declared.Ended.TheVariants.{Fine, Refused}
use Rattle.squall_cli_lines.specs.declared.RunFault.{RunFault}
use Rattle.squall_cli_lines.specs.declared.RunFault.TheVariants.{Read, Write, NoMemory}
use Rattle.squall_cli_lines.specs.Script.{silence}
use Rattle.squall_cli_command.specs.declared.form.Form.{Form}
use Rattle.squall_cli_command.specs.declared.stream.Stream.TheVariants.{Keys, Frames}
use Rattle.squall_cli_command.specs.Line.{Job, check, course, run, race, ask, stream, Asks, AsksForHelp, IsFaulty, shows_help}
use Rattle.squall_cli_ask.specs.Files.{KnownFile, Unknown, Missing, Holds, Opens, BeginsFile, IsWholeFile, is_input}
use Rattle.squall_cli_ask.specs.Reads.{Bytes, bytes_of, ReadsFrom, ReadsAll}
use Rattle.squall_cli_ask.specs.Told.{status_of, IsUnread}
use Rattle.squall_cli_ask.specs.Asked.{files_of, GivesAnswer}
use Rattle.squall_cli_ask.proofs.Matched.{matched_both, matched_true}
use Rattle.squall_cli_ask.proofs.Inquired.{nothing_inquired}
use Rattle.squall_cli_ask.proofs.Followed.{nothing_followed, nothing_drawn}
use Rattle.squall_cli_run.specs.declared.tasks.Purpose.{Purpose}
use Rattle.squall_cli_run.specs.declared.tasks.Purpose.TheVariants as purpose
use Rattle.squall_cli_run.specs.Output.{Output, course_in, IsWritten}
use Rattle.squall_cli_run.specs.Tasks.{ShowsCourseWith, IsDone, RunsPromptly, AnswersPromptly, StopsAtBadLine, ReadsNoFurther, DrawsFor, DrawsByWords, EndsInput, NamesFile, ShowsHelp}
use Rattle.squall_cli_run.specs.Sources.{IsAnswered, NeedsAll, IsDoneBy}

-- ---- nothing is read

begins_nothing : (known : KnownFile) → BeginsFile known []
begins_nothing Unknown = tt
begins_nothing Missing = refl
begins_nothing (Holds bytes) = (bytes, refl)

-- where the input stays, nothing is read of it
reads_nothing : (f f' : List ℕ → KnownFile) (i o o' : Option (List ℕ)) (name : List ℕ) → ReadsFrom (bytes_of f i o) (bytes_of f' i o') name []
reads_nothing f f' i o o' name = matched_both (is_input name) (Consumes i i []) (BeginsFile (f name) []) (Consumes-nil i) (begins_nothing (f name))

-- a file that can't be opened
pub unopened : (p : Purpose) (f f' : List ℕ → KnownFile) (i o : Option (List ℕ)) (name : List ℕ) (status : ℕ) → status ≡ 3 → IsDoneBy p (bytes_of f i o) (bytes_of f' i o) name status
unopened (purpose.Check form) f f' i o name status e = (Err Read, [], [], e, Appends-nil o, refl, reads_nothing f f' i o o name, λ l. absurd (omega arith))
unopened purpose.Run f f' i o name status e = (Err Read, [], [], e, Appends-nil o, (silence, refl, refl), reads_nothing f f' i o o name, λ l. absurd (omega arith))
unopened purpose.Race f f' i o name status e = (Err Read, [], [], e, Appends-nil o, refl, reads_nothing f f' i o o name, λ l. absurd (omega arith))

-- ---- one file is read

-- it was answered as far as the outcome says
pub answered : (p : Purpose) (f f' : List ℕ → KnownFile) (i i' o o' : Option (List ℕ)) (name read written : List ℕ) (outcome : Result Ended RunFault) (status : ℕ)
    → status ≡ status_of outcome → Appends o o' written → IsAnswered p outcome read written → ReadsFrom (bytes_of f i o) (bytes_of f' i' o') name read
    → (NeedsAll p (status_of outcome) → ReadsAll (bytes_of f i o) (bytes_of f' i' o') name read) → IsDoneBy p (bytes_of f i o) (bytes_of f' i' o') name status
answered (purpose.Check form) f f' i i' o o' name read written outcome status e a text from all = (outcome, read, written, e, a, text, from, λ l. all (subst (NeedsAll (purpose.Check form)) e l))
answered purpose.Run f f' i i' o o' name read written outcome status e a text from all = (outcome, read, written, e, a, text, from, λ l. all (subst (NeedsAll purpose.Run) e l))
answered purpose.Race f f' i i' o o' name read written outcome status e a text from all = (outcome, read, written, e, a, text, from, λ l. all (subst (NeedsAll purpose.Race) e l))

held : (bytes all : List ℕ) → Some (Some bytes) ≡ Some (Some all) → bytes ≡ all
held bytes all e = same_Some bytes all (same_Some (Some bytes) (Some all) e)

-- what was read of an opened file, from its start on
pub opened_begins : (known : KnownFile) (bytes left : Option (List ℕ)) (read : List ℕ) → Opens known (Some bytes) → Consumes bytes left read → BeginsFile known read
opened_begins Unknown bytes left read opened taken = tt
opened_begins Missing bytes left read opened taken = absurd (none-some bytes (sym opened))
opened_begins (Holds all) None left read opened taken = absurd (none-some all (same_Some None (Some all) opened))
opened_begins (Holds all) (Some bytes) None read opened taken = absurd taken
opened_begins (Holds all) (Some bytes) (Some left) read opened taken = (left, sym (held bytes all opened) ∙ taken)

pub opened_whole : (known : KnownFile) (bytes left : Option (List ℕ)) (read : List ℕ) → Opens known (Some bytes) → Consumes bytes left read → IsAtEnd left → IsWholeFile known read
opened_whole Unknown bytes left read opened taken ended = tt
opened_whole Missing bytes left read opened taken ended = absurd (none-some bytes (sym opened))
opened_whole (Holds all) None left read opened taken ended = absurd (none-some all (same_Some None (Some all) opened))
opened_whole (Holds all) (Some bytes) None read opened taken ended = absurd taken
opened_whole (Holds all) (Some bytes) (Some left) read opened taken ended = sym (append-nil read) ∙ ap (λ w. read ++ w) (sym ended) ∙ sym taken ∙ held bytes all opened

-- ---- nothing is done

-- an allocation failed before the task began
pub nothing_done : (f : List ℕ → KnownFile) (i o : Option (List ℕ)) (job : Job) (status : ℕ) → status ≡ 4 → IsDone (bytes_of f i o) (bytes_of f i o) job status
nothing_done f i o (check form name) status e = (Err NoMemory, [], [], e, Appends-nil o, refl, reads_nothing f f i o o name, λ l. absurd (omega arith))
nothing_done f i o (course form old new) status e = (
  Err NoMemory,
  [],
  [],
  [],
  e,
  Appends-nil o,
  refl,
  reads_nothing f f i o o old,
  (λ l. absurd (omega arith)),
  matched_both (is_input old && is_input new) _ _ refl (reads_nothing f f i o o new, λ l. absurd (omega arith)),
)
nothing_done f i o (run name) status e = (Err NoMemory, [], [], e, Appends-nil o, (0, silence, refl, refl), reads_nothing f f i o o name, λ l. absurd (omega arith))
nothing_done f i o (race name) status e = (Err NoMemory, [], [], e, Appends-nil o, refl, reads_nothing f f i o o name, λ l. absurd (omega arith))
nothing_done f i o (ask inquiry words files) status e = nothing_inquired inquiry words f i o (files_of inquiry words files) status e
nothing_done f i o (stream kind files) status e = nothing_followed kind f i o files status e

no_answer : (status : ℕ) → status ≡ 4 → GivesAnswer status → ⊥
no_answer status e (inl less) = omega (arith, e, less)
no_answer status e (inr five) = omega (arith, e, five)

no_end : (t : Bool) (status : ℕ) → status ≡ 4 → status ≡ (if t then 5 else 0) → ⊥
no_end true status l h = omega (arith, l, h)
no_end false status l h = omega (arith, l, h)

pub not_ended : (job : Job) (status : ℕ) → status ≡ 4 → EndsInput job status → ⊥
not_ended (check form name) status l h = omega (arith, l, h.1)
not_ended (course form old new) status l h = omega (arith, l, h.1)
not_ended (run name) status l h = omega (arith, l, h.1)
not_ended (race name) status l h = omega (arith, l, h.1)
not_ended (ask inquiry words files) status l h = no_answer status l h.1
not_ended (stream Keys files) status l h = omega (arith, l, h)
not_ended (stream (Frames how) files) status l h = no_end how.is_until_complete status l h

-- ---- promptness

-- a scenario that is refused
pub refused_is : (outcome : Result Ended RunFault) → status_of outcome ≡ 1 → outcome ≡ Ok Refused
refused_is (Ok Fine) e = absurd (omega (arith, e))
refused_is (Ok Refused) e = refl
refused_is (Err Read) e = absurd (omega (arith, e))
refused_is (Err Write) e = absurd (omega (arith, e))
refused_is (Err NoMemory) e = absurd (omega (arith, e))

-- a scenario of this name is run
module _ (job : Job) (now name : List ℕ) (is : job ≡ run name) (same : now ≡ name) where
  pub run_promptly : (before after : Bytes) → (is_input now ≡ true → RunsPromptly before after) → AnswersPromptly before after job
  run_promptly before after prompt = subst (AnswersPromptly before after) (sym is) (λ named. prompt (ap is_input same ∙ named))

  pub run_stops : (old new : SourceState) → (is_input now ≡ true → StopsAtBadLine old new) → ReadsNoFurther old new job
  run_stops old new stops = subst (ReadsNoFurther old new) (sym is) (λ named. stops (ap is_input same ∙ named))

-- an allocation failed before anything was read
pub nothing_promptly : (f : List ℕ → KnownFile) (i o : Option (List ℕ)) (job : Job) → AnswersPromptly (bytes_of f i o) (bytes_of f i o) job
nothing_promptly f i o (check form name) = tt
nothing_promptly f i o (course form old new) = tt
nothing_promptly f i o (run name) = λ named. (
  [],
  [],
  Consumes-nil i,
  Appends-nil o,
  record { earlier = []; last = []; split = refl; small = omega arith; script = silence; played = refl; good = refl; answered = ([], refl) },
)
nothing_promptly f i o (race name) = tt
nothing_promptly f i o (ask inquiry words files) = tt
nothing_promptly f i o (stream kind files) = inr (Consumes-nil i)

-- ---- courses of which a file was not read

unread_high : (fault : RunFault) (status : ℕ) → status ≡ status_of (Err fault) → status < 2 → ⊥
unread_high Read status e l = omega arith
unread_high Write status e l = omega arith
unread_high NoMemory status e l = omega arith

unread_written : (fault : RunFault) (output : Output) → fault ≢ Write → IsWritten (Err fault) output []
unread_written Read output h = refl
unread_written Write output h = absurd (h refl)
unread_written NoMemory output h = refl

abbrev no_bytes : List ℕ
no_bytes = []

second_none : (t u : Bool) (i i' : Option (List ℕ)) (known : KnownFile) (P Q : Type 0) → (t ≡ false → i' ≡ i) → (P → ⊥)
    → MatchBool (t && u) (no_bytes ≡ []) (MatchBool u (Consumes i i' []) (BeginsFile known []) × (P → Q))
second_none true true i i' known P Q kept none = refl
second_none true false i i' known P Q kept none = (begins_nothing known, λ p. absurd (none p))
second_none false true i i' known P Q kept none = (subst (λ j. Consumes i j []) (sym (kept refl)) (Consumes-nil i), λ p. absurd (none p))
second_none false false i i' known P Q kept none = (begins_nothing known, λ p. absurd (none p))

pub first_unread : (form : Form) (f f' : List ℕ → KnownFile) (i i' o : Option (List ℕ)) (old new read : List ℕ) (status : ℕ) → IsUnread status → ReadsFrom (bytes_of f i None) (bytes_of f' i' None) old read → (is_input old ≡ false → i' ≡ i)
    → ShowsCourseWith form (bytes_of f i o) (bytes_of f' i' o) old new status
first_unread form f f' i i' o old new read status u taken kept = (
  Err u.0,
  read,
  [],
  [],
  u.2,
  Appends-nil o,
  unread_written u.0 (course_in form read []) u.1,
  taken,
  (λ l. absurd (unread_high u.0 status u.2 l)),
  second_none (is_input old) (is_input new) i i' (f new) (status < 2) _ kept (unread_high u.0 status u.2),
)

-- both were read, one after the other, and they are not both standard input: what holds of the first still does
both_first : (t u : Bool) (i' i'' : Option (List ℕ)) (P : Option (List ℕ) → Type 0) (Q : Type 0) → (t && u ≡ true → ⊥) → (u ≡ false → i'' ≡ i') → MatchBool t (P i') Q → MatchBool t (P i'') Q
both_first true true i' i'' P Q other kept h = absurd (other refl)
both_first true false i' i'' P Q other kept h = subst P (sym (kept refl)) h
both_first false u i' i'' P Q other kept h = h

both_second : (t u : Bool) (i i' i'' : Option (List ℕ)) (known : KnownFile) (read : List ℕ) (P Q : Type 0) → (t && u ≡ true → ⊥) → (t ≡ false → i' ≡ i) → MatchBool u (Consumes i' i'' read) (BeginsFile known read) → (P → Q)
    → MatchBool (t && u) (read ≡ []) (MatchBool u (Consumes i i'' read) (BeginsFile known read) × (P → Q))
both_second true true i i' i'' known read P Q other kept h all = absurd (other refl)
both_second true false i i' i'' known read P Q other kept h all = (h, all)
both_second false true i i' i'' known read P Q other kept h all = (subst (λ j. Consumes j i'' read) (kept refl) h, all)
both_second false false i i' i'' known read P Q other kept h all = (h, all)

pub second_unread : (form : Form) (f f' f'' : List ℕ → KnownFile) (i i' i'' o : Option (List ℕ)) (old new read more : List ℕ) (status : ℕ) → IsUnread status → (is_input old && is_input new ≡ true → ⊥) → f' ≡ f
    → ReadsFrom (bytes_of f i None) (bytes_of f' i' None) old read → (is_input old ≡ false → i' ≡ i) → ReadsFrom (bytes_of f' i' None) (bytes_of f'' i'' None) new more → (is_input new ≡ false → i'' ≡ i')
    → ShowsCourseWith form (bytes_of f i o) (bytes_of f'' i'' o) old new status
second_unread form f f' f'' i i' i'' o old new read more status u other same taken kept taken' kept' = (
  Err u.0,
  read,
  more,
  [],
  u.2,
  Appends-nil o,
  unread_written u.0 (course_in form read more) u.1,
  both_first (is_input old) (is_input new) i' i'' (λ j. Consumes i j read) (BeginsFile (f old) read) other kept' taken,
  (λ l. absurd (unread_high u.0 status u.2 l)),
  both_second (is_input old) (is_input new) i i' i'' (f new) more (status < 2) _ other kept (subst (λ (g : List ℕ → KnownFile). MatchBool (is_input new) (Consumes i' i'' more) (BeginsFile (g new) more)) same taken') (λ l. absurd (unread_high u.0 status u.2 l)),
)

-- ---- courses of which both files were read

-- both are standard input
pub both_input : (form : Form) (f f' : List ℕ → KnownFile) (i i' o o' : Option (List ℕ)) (old new read text written : List ℕ) (outcome : Result Ended RunFault) (status : ℕ)
    → status ≡ status_of outcome → Appends o o' written → text ≡ read → IsWritten outcome (course_in form text []) written → is_input old && is_input new ≡ true
    → ReadsFrom (bytes_of f i None) (bytes_of f' i' None) old read → ReadsAll (bytes_of f i None) (bytes_of f' i' None) old read
    → ShowsCourseWith form (bytes_of f i o) (bytes_of f' i' o') old new status
both_input form f f' i i' o o' old new read text written outcome status e a is shown both taken all = (
  outcome,
  read,
  [],
  written,
  e,
  a,
  subst (λ w. IsWritten outcome (course_in form w []) written) is shown,
  taken,
  (λ l. all),
  matched_true (is_input old && is_input new) _ _ both refl,
)

pub both_read : (form : Form) (f f' f'' : List ℕ → KnownFile) (i i' i'' o o' : Option (List ℕ)) (old new read more text text' written : List ℕ) (outcome : Result Ended RunFault) (status : ℕ)
    → status ≡ status_of outcome → Appends o o' written → text ≡ read → text' ≡ more → IsWritten outcome (course_in form text text') written → (is_input old && is_input new ≡ true → ⊥) → f' ≡ f
    → ReadsFrom (bytes_of f i None) (bytes_of f' i' None) old read → ReadsAll (bytes_of f i None) (bytes_of f' i' None) old read → (is_input old ≡ false → i' ≡ i)
    → ReadsFrom (bytes_of f' i' None) (bytes_of f'' i'' None) new more → ReadsAll (bytes_of f' i' None) (bytes_of f'' i'' None) new more → (is_input new ≡ false → i'' ≡ i')
    → ShowsCourseWith form (bytes_of f i o) (bytes_of f'' i'' o') old new status
both_read form f f' f'' i i' i'' o o' old new read more text text' written outcome status e a is is' shown other same taken all kept taken' all' kept' = (
  outcome,
  read,
  more,
  written,
  e,
  a,
  subst (λ w. IsWritten outcome (course_in form read w) written) is' (subst (λ w. IsWritten outcome (course_in form w text') written) is shown),
  both_first (is_input old) (is_input new) i' i'' (λ j. Consumes i j read) (BeginsFile (f old) read) other kept' taken,
  (λ l. both_first (is_input old) (is_input new) i' i'' IsAtEnd (IsWholeFile (f old) read) other kept' all),
  both_second (is_input old) (is_input new) i i' i'' (f new) more (status < 2) _ other kept (subst (λ (g : List ℕ → KnownFile). MatchBool (is_input new) (Consumes i' i'' more) (BeginsFile (g new) more)) same taken')
      (λ l. subst (λ (g : List ℕ → KnownFile). MatchBool (is_input new) (IsAtEnd i'') (IsWholeFile (g new) more)) same all'),
)

-- ---- what words ask for

pub no_help : (words : List (List ℕ)) (job : Job) → Asks words job → AsksForHelp words → ⊥
no_help words job h k = false≢true (sym (ap (list_any shows_help) h.0) ∙ k)

pub no_fault : (words : List (List ℕ)) (job : Job) → Asks words job → IsFaulty words → ⊥
no_fault words job h k = false≢true (sym (ap (list_any (λ kind. not (shows_help kind))) h.0) ∙ k)

pub one_job : (words : List (List ℕ)) (a b : Job) → Asks words a → Asks words b → a ≡ b
one_job words a b h k = sym h.1 ∙ k.1

pub device_of_words : (A B : Type 0) (words : List (List ℕ)) (job : Job) → Asks words job → A ⊎ (B ⊎ NamesFile job) → A ⊎ (B ⊎ ((x : Job) × Asks words x × NamesFile x))
device_of_words A B words job asks (inl a) = inl a
device_of_words A B words job asks (inr (inl b)) = inr (inl b)
device_of_words A B words job asks (inr (inr n)) = inr (inr (job, asks, n))

-- an allocation failed before help was written
pub help_unwritten : (title : List ℕ) (o : SinkState) (status : ℕ) → status ≡ 4 → ShowsHelp title o o status
help_unwritten title o status e = (Err NoMemory, title, [], e, take-length title, Appends-nil o.contents, refl)

-- ---- bars

module _ (terminal : Bool) (before after : Bytes) (status : ℕ) (e : SinkState) where
  -- nothing is drawn for a task with files of its own
  pub undrawn_check : (job : Job) (form : Form) (name : List ℕ) → job ≡ check form name → DrawsFor job terminal before after status e e
  undrawn_check job form name is = subst (λ j. DrawsFor j terminal before after status e e) (sym is) refl

  pub undrawn_course : (job : Job) (form : Form) (old new : List ℕ) → job ≡ course form old new → DrawsFor job terminal before after status e e
  undrawn_course job form old new is = subst (λ j. DrawsFor j terminal before after status e e) (sym is) refl

  pub undrawn_run : (job : Job) (name : List ℕ) → job ≡ run name → DrawsFor job terminal before after status e e
  undrawn_run job name is = subst (λ j. DrawsFor j terminal before after status e e) (sym is) refl

  pub undrawn_race : (job : Job) (name : List ℕ) → job ≡ race name → DrawsFor job terminal before after status e e
  undrawn_race job name is = subst (λ j. DrawsFor j terminal before after status e e) (sym is) refl

  -- nor for any task if an allocation failed before it
  pub undrawn_unasked : status ≡ 4 → (job : Job) → DrawsFor job terminal before after status e e
  undrawn_unasked is (check form name) = refl
  undrawn_unasked is (course form old new) = refl
  undrawn_unasked is (run name) = refl
  undrawn_unasked is (race name) = refl
  undrawn_unasked is (ask inquiry words files) = refl
  undrawn_unasked is (stream kind files) = nothing_drawn kind terminal before after files status e (omega arith)

-- what is drawn for the task that the words ask for
pub drawn_for_words : (words : List (List ℕ)) (job : Job) (terminal : Bool) (before after : Bytes) (status : ℕ) (e e' : SinkState) → Asks words job → DrawsFor job terminal before after status e e'
    → DrawsByWords words terminal before after status e e'
drawn_for_words words job terminal before after status e e' asks draws =
    ((λ other also. subst (λ j. DrawsFor j terminal before after status e e') (one_job words job other asks also) draws), inr (job, asks))
