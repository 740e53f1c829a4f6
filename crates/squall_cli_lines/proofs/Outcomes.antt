-- How a run ends.
use Rattle.std.proofs.Common.{◌≡◌, ℕ, ◌<◌, ◌≤◌, List, [], ◌∷◌, ◌++◌, length, take, drop, Result, Ok, Err, false, sym, ◌∙◌, ap, subst, refl, arith}
use Rattle.std.proofs.lemmas.List.{append_assoc, append-nil, take-append-drop, length-take}
use Rattle.std.specs.List.{concat}
use Rattle.std.specs.Io.KnownBytes.{Keeps}
use Rattle.squall_cli_device.specs.States.{SourceState, SinkState, GaveBytes, TookBytes, ReadAndWrote}
use Rattle.squall_cli_lines.specs.declared.Flow.{Flow}
use Rattle.squall_cli_lines.specs.declared.Flow.TheVariants.{On, End}
use Rattle.squall_cli_lines.specs.declared.Ended.{Ended}
use Rattle.squall_cli_lines.specs.declared.Ended.TheVariants.{Fine, Refused}
use Rattle.squall_cli_lines.specs.declared.RunFault.{RunFault}
use Rattle.squall_cli_lines.specs.declared.RunFault.TheVariants.{Read, Write, NoMemory}
use Rattle.squall_cli_lines.specs.Lines.{lines_of, whole_lines, IsOneLine}
use Rattle.squall_cli_lines.specs.Script.{Script, TakesLine, silence, after, last_word, text_of, HasNoBadLine, IsOutcome, IsPrompt}
use Rattle.squall_cli_lines.specs.Running.{Running, Cuts, Finishes, StopsBy}
use Rattle.squall_cli_lines.proofs.LineLemmas.{lines_of-last, whole_lines-none}
use Rattle.std.proofs.KnownBytes.{Appends-nil, Appends-trans, Consumes-nil, Consumes-trans, Consumes-kept}
use Rattle.squall_cli_lines.proofs.RunningLemmas.{Running-refl, Running-more, Running-trans, Begins-now, Finishes-later, StopsBy-later, plays-all, text-later}
use Rattle.squall_cli_lines.proofs.Turns.{Cuts-all}

-- the first bytes of a prefix are a prefix
Cuts-take : (plays : List (List ℕ) → Script → Type 0) (read text out : List ℕ) (n : ℕ) → out ≡ text → Cuts plays read text → Cuts plays read (take n out)
Cuts-take plays read text out n e c = (
  c.0,
  c.1,
  c.2,
  (drop n out ++ c.3.0, c.3.1 ∙ ap (λ w. w ++ c.3.0) (sym e ∙ sym (take-append-drop n out)) ∙ append_assoc (take n out) (drop n out) c.3.0),
)

-- the one answer to a last line
module _ (now next : List (List ℕ) → Script → Type 0) (line text : List ℕ) (one : IsOneLine line) (some : 0 < length line) where
  plays-last : (s : Script) → now (line ∷ []) s → now (lines_of line) s
  plays-last s p = subst (λ w. now w s) (sym (lines_of-last line one some)) p

  -- a good one
  pub last-on : (out : List ℕ) → out ≡ text → next [] silence → TakesLine On text now next line → IsOutcome (Ok Fine) now line out
  last-on out e quiet taken = (after (text ∷ []) silence, plays-last (after (text ∷ []) silence) (taken [] silence quiet), e ∙ sym (append-nil text), refl)

  -- a bad one
  pub last-end : (out : List ℕ) → out ≡ text → TakesLine End text now next line → IsOutcome (Ok Refused) now line out
  last-end out e taken = (last_word text, plays-last (last_word text) (taken []), e ∙ sym (append-nil text), refl)

  -- the answer was not written whole
  pub last-cut : (flow : Flow) (out : List ℕ) (n : ℕ) → out ≡ text → next [] silence → TakesLine flow text now next line → IsOutcome (Err Write) now line (take n out)
  last-cut On out n e quiet taken =
      let o = last-on out e quiet taken in
      Cuts-take now line out out n refl (Cuts-all now line out o.0 o.1 o.2)
  last-cut End out n e quiet taken =
      let o = last-end out e taken in
      Cuts-take now line out out n refl (Cuts-all now line out o.0 o.1 o.2)

-- where nothing is left no line is to answer
pub last-none : (now : List (List ℕ) → Script → Type 0) (line : List ℕ) → length line ≡ 0 → now [] silence → IsOutcome (Ok Fine) now line []
last-none now [] none quiet = (silence, quiet, refl, refl)
last-none now (b ∷ line) none quiet = absurd (omega arith)

-- what stops a block is no fault of a read
pub stops_unread : {T : Type 0} (result : Result T RunFault) (e : RunFault) (plays : List (List ℕ) → Script → Type 0) (read sent : List ℕ) → result ≡ Err e → StopsBy e plays read sent → result ≡ Err Read → ⊥
stops_unread result Read plays read sent is s other = s
stops_unread result Write plays read sent is s other = cc
stops_unread result NoMemory plays read sent is s other = cc

-- what holds between two reads
pub record Reading (first now : List (List ℕ) → Script → Type 0) (reader reader' : SourceState) (writer writer' : SinkState) (carry : List ℕ) : Type 0 where
  pub read : List ℕ
  pub sent : List ℕ
  pub consumes : GaveBytes reader reader' read
  pub appends : TookBytes writer writer' sent
  pub running : Running first now read carry sent
  pub one : IsOneLine carry

-- the first bytes of a block
pub take_small : (n : ℕ) (xs : List ℕ) → length xs ≡ 65536 → length (take n xs) ≤ 65536
take_small n xs e = let l = length-take n xs in omega arith

pub Reading-start : (first : List (List ℕ) → Script → Type 0) (reader : SourceState) (writer : SinkState) → Reading first first reader reader writer writer []
Reading-start first reader writer = record {
  read = [];
  sent = [];
  consumes = Consumes-nil reader.remaining;
  appends = Appends-nil writer.contents;
  running = Running-refl first first first [];
  one = λ k l. absurd (omega arith);
}

module _ (first now next : List (List ℕ) → Script → Type 0) (reader reader' reader'' : SourceState) (writer writer' writer'' : SinkState) (carry : List ℕ) (r : Reading first now reader reader' writer writer' carry) where
  -- the lines with their LF are answered, and none of them was bad
  whole_played : now [] silence → (s : Script) × first (lines_of (whole_lines r.read)) s × (r.sent ≡ text_of s) × (s.refused ≡ false)
  whole_played quiet =
      let u = r.running in
      let whole : u.whole ≡ whole_lines r.read = sym (append-nil u.whole) ∙ ap (λ w. u.whole ++ w) (sym (whole_lines-none carry r.one)) ∙ sym (u.closed carry) ∙ ap whole_lines (sym u.split) in
      let lines_are : lines_of u.whole ++ [] ≡ lines_of (whole_lines r.read) = append-nil (lines_of u.whole) ∙ ap lines_of whole in
      (after u.done silence, subst (λ w. first w (after u.done silence)) lines_are (u.answered [] silence quiet), u.written ∙ ap concat (sym (append-nil u.done)), refl)

  whole_answered : now [] silence → IsOutcome (Err Read) first r.read r.sent
  whole_answered quiet = let w = whole_played quiet in (w.0, w.1, w.2)

  pub whole_good : now [] silence → GaveBytes reader' reader'' [] → (read : List ℕ) × GaveBytes reader reader'' read × HasNoBadLine first (whole_lines read)
  whole_good quiet consumes =
      let w = whole_played quiet in
      (r.read, subst (λ x. GaveBytes reader reader'' x) (append-nil r.read) (Consumes-trans reader.remaining reader'.remaining reader''.remaining r.read [] r.consumes consumes), (w.0, w.1, w.3))

  -- a read, and what was written since
  pub PromptAs-block : now [] silence → (block more : List ℕ) → length block ≤ 65536 → GaveBytes reader' reader'' block → TookBytes writer' writer'' more → ReadAndWrote reader reader'' writer writer'' (IsPrompt first)
  PromptAs-block quiet block more small consumes appends =
      let w = whole_played quiet in (
        r.read ++ block,
        r.sent ++ more,
        Consumes-trans reader.remaining reader'.remaining reader''.remaining r.read block r.consumes consumes,
        Appends-trans writer.contents writer'.contents writer''.contents r.sent more r.appends appends,
        record { earlier = r.read; last = block; split = refl; small = small; script = w.0; played = w.1; good = w.3; answered = (more, ap (λ t. t ++ more) w.2) },
      )

  -- a read that failed
  pub PromptAs-read : now [] silence → Keeps reader'.remaining reader''.remaining → ReadAndWrote reader reader'' writer writer' (IsPrompt first)
  PromptAs-read quiet keeps =
      let w = whole_played quiet in (
        r.read,
        r.sent,
        Consumes-kept reader.remaining reader'.remaining reader''.remaining r.read r.consumes keeps,
        r.appends,
        record { earlier = r.read; last = []; split = sym (append-nil r.read); small = omega arith; script = w.0; played = w.1; good = w.3; answered = ([], w.2 ∙ sym (append-nil (text_of w.0))) },
      )

  -- between two reads
  pub PromptAs-now : now [] silence → ReadAndWrote reader reader' writer writer' (IsPrompt first)
  PromptAs-now quiet =
      let w = whole_played quiet in (
        r.read,
        r.sent,
        r.consumes,
        r.appends,
        record { earlier = r.read; last = []; split = sym (append-nil r.read); small = omega arith; script = w.0; played = w.1; good = w.3; answered = ([], w.2 ∙ sym (append-nil (text_of w.0))) },
      )

  pub EndsAs-read : now [] silence → Keeps reader'.remaining reader''.remaining → ReadAndWrote reader reader'' writer writer' (IsOutcome (Err Read) first)
  EndsAs-read quiet keeps = (r.read, r.sent, Consumes-kept reader.remaining reader'.remaining reader''.remaining r.read r.consumes keeps, r.appends, whole_answered quiet)

  pub EndsAs-now : now [] silence → ReadAndWrote reader reader' writer writer' (IsOutcome (Err Read) first)
  EndsAs-now quiet = (r.read, r.sent, r.consumes, r.appends, whole_answered quiet)

  -- what was left is answered
  outcome : (result : Result Ended RunFault) (more : List ℕ) → (result ≡ Err Read → ⊥) → IsOutcome result now carry more → IsOutcome result first r.read (r.sent ++ more)
  outcome (Ok Fine) more not_read o = (
    after r.running.done o.0,
    plays-all first now next r.read carry r.sent r.running o.0 o.1,
    text-later first now next r.read carry r.sent more r.running o.0 o.2,
    o.3,
  )
  outcome (Ok Refused) more not_read o = Finishes-later first now next r.read carry r.sent more r.running o
  outcome (Err Read) more not_read o = absurd (not_read refl)
  outcome (Err Write) more not_read o = StopsBy-later first now next r.read carry r.sent more Write r.running o
  outcome (Err NoMemory) more not_read o = StopsBy-later first now next r.read carry r.sent more NoMemory r.running o

  pub EndsAs-last : (result : Result Ended RunFault) (more : List ℕ) → (result ≡ Err Read → ⊥) → GaveBytes reader' reader'' [] → TookBytes writer' writer'' more → IsOutcome result now carry more → ReadAndWrote reader reader'' writer writer'' (IsOutcome result first)
  EndsAs-last result more not_read consumes appends o = (
    r.read ++ [],
    r.sent ++ more,
    Consumes-trans reader.remaining reader'.remaining reader''.remaining r.read [] r.consumes consumes,
    Appends-trans writer.contents writer'.contents writer''.contents r.sent more r.appends appends,
    subst (λ w. IsOutcome result first w (r.sent ++ more)) (sym (append-nil r.read)) (outcome result more not_read o),
  )

  -- an allocation failed before anything was done
  pub EndsAs-no_memory : now [] silence → ReadAndWrote reader reader' writer writer' (IsOutcome (Err NoMemory) first)
  EndsAs-no_memory quiet = (r.read, r.sent, r.consumes, r.appends, Begins-now first now next r.read carry r.sent quiet r.running)

  module _ (block sent : List ℕ) (consumes : GaveBytes reader' reader'' block) (appends : TookBytes writer' writer'' sent) where
    grown : Running first now (r.read ++ block) (carry ++ block) r.sent
    grown = Running-more first now next r.read carry r.sent block r.running

    pub Reading-block : (carry' : List ℕ) → Running now next (carry ++ block) carry' sent → IsOneLine carry' → Reading first next reader reader'' writer writer'' carry'
    Reading-block carry' running one = record {
      read = r.read ++ block;
      sent = r.sent ++ sent;
      consumes = Consumes-trans reader.remaining reader'.remaining reader''.remaining r.read block r.consumes consumes;
      appends = Appends-trans writer.contents writer'.contents writer''.contents r.sent sent r.appends appends;
      running = Running-trans first now next (r.read ++ block) (carry ++ block) carry' r.sent sent grown running;
      one = one;
    }

    pub EndsAs-refused : Finishes now (carry ++ block) sent → ReadAndWrote reader reader'' writer writer'' (IsOutcome (Ok Refused) first)
    EndsAs-refused finishes = (
      r.read ++ block,
      r.sent ++ sent,
      Consumes-trans reader.remaining reader'.remaining reader''.remaining r.read block r.consumes consumes,
      Appends-trans writer.contents writer'.contents writer''.contents r.sent sent r.appends appends,
      Finishes-later first now next (r.read ++ block) (carry ++ block) r.sent sent grown finishes,
    )

    stops : (e : RunFault) → StopsBy e now (carry ++ block) sent → IsOutcome (Err e) first (r.read ++ block) (r.sent ++ sent)
    stops Read s = absurd s
    stops Write s = StopsBy-later first now next (r.read ++ block) (carry ++ block) r.sent sent Write grown s
    stops NoMemory s = StopsBy-later first now next (r.read ++ block) (carry ++ block) r.sent sent NoMemory grown s

    pub EndsAs-stopped : (e : RunFault) → StopsBy e now (carry ++ block) sent → ReadAndWrote reader reader'' writer writer'' (IsOutcome (Err e) first)
    EndsAs-stopped e s = (
      r.read ++ block,
      r.sent ++ sent,
      Consumes-trans reader.remaining reader'.remaining reader''.remaining r.read block r.consumes consumes,
      Appends-trans writer.contents writer'.contents writer''.contents r.sent sent r.appends appends,
      stops e s,
    )
