-- The answer to a line.
use Rattle.std.proofs.Common.{◌≡◌, ℕ, ◌+◌, ◌-◌, ◌^◌, min, List, [], ◌∷◌, ◌++◌, Result, Ok, Err, Some, ap, subst, refl, ◌∙◌}
use Rattle.std.specs.Prelude.{IfOk, codes}
use Rattle.std.proofs.lemmas.List.{append-nil}
use Rattle.std.specs.declared.alloc.AllocError.{AllocError}
use Rattle.squall_cli_lines.specs.declared.Flow.{Flow}
use Rattle.squall_cli_lines.specs.declared.Flow.TheVariants.{On, End}
use Rattle.squall_cli_words.specs.declared.reason.Reason.{Reason}
use Rattle.squall_cli_words.specs.Reasons.{bad_line}
use Rattle.squall_board.specs.Boards.{BoardValue}
use Rattle.squall_cli_lines.specs.Script.{Script, TakesLine, after, last_word}
use Rattle.squall_cli_lines.specs.Words.{without_cr}
use Rattle.squall_wire.specs.Hearing.{FeedValue}
use Rattle.squall_world_rows.specs.Seen.{RowNetValue}
use Rattle.squall_cli_scenario.specs.State.{StageOf, ScenarioOf, ScenarioState}
use Rattle.squall_cli_scenario.specs.Stages.{meant}
use Rattle.squall_cli_scenario.specs.Replies.{Reply, Goes, Happens, Ends, at_next_line, Follows, reply_to_line, MayAnswer}
use Rattle.squall_cli_scenario.specs.Answered.{Answers, IsReply, IsAnswer}

-- why a line is bad, with its LF
abbrev bad_text : ℕ → Reason → List ℕ
bad_text line why = bad_line line why ++ codes "\n"

bad_answer : (why : Reason) (o o1 o2 said : List ℕ) (line : ℕ) (s1 : ScenarioState) (reply : Reply) → o1 ≡ o ++ said → IsReply (Some why) said s1 reply → o2 ≡ o1 ++ bad_text line why
    → (text : List ℕ) × (o2 ≡ o ++ text) × IsAnswer End text s1 line reply
bad_answer why o o1 o2 said line s1 (Goes text t) grown h e = absurd h
bad_answer why o o1 o2 said line s1 (Happens w act t) grown h e = absurd h
bad_answer why o o1 o2 said line s1 (Ends reason) grown h e = (
  bad_text line why,
  e ∙ ap (λ w. w ++ bad_text line why) (grown ∙ ap (λ w. o ++ w) h.0 ∙ append-nil o),
  ap (bad_text line) h.1,
)

pub answered_bad : (r : Result Flow AllocError) (why : Reason) (o o1 o2 : List ℕ) (line : ℕ) (s1 : ScenarioState) (reply : Reply) → Answers (Ok (Some why)) o o1 s1 reply
    → IfOk r (λ flow. (flow ≡ End) × (o2 ≡ o1 ++ bad_text line why)) → IfOk r (λ flow. (text : List ℕ) × (o2 ≡ o ++ text) × IsAnswer flow text s1 line reply)
answered_bad (Ok On) why o o1 o2 line s1 reply a h = absurd (never h.0)
  where
    never : On ≡ End → ⊥
    never e = cc
answered_bad (Ok End) why o o1 o2 line s1 reply a h = bad_answer why o o1 o2 a.0 line s1 reply a.1 a.2 h.1
answered_bad (Err e) why o o1 o2 line s1 reply a h = tt

-- ---- the line among those that follow it

-- after the answer come those to the later lines
said_on : (text : List ℕ) (t : ScenarioState) (n : ℕ) (reply : Reply) → IsAnswer On text t n reply → (lines : List (List ℕ)) (rest : Script) → MayAnswer t lines rest → Follows n reply (λ u r. MayAnswer u lines r) (after (text ∷ []) rest)
said_on text t n (Goes said u) h lines rest may = (rest, subst (λ v. MayAnswer v lines rest) h.1 may, ap (λ w. after (w ∷ []) rest) h.0)
said_on text t n (Happens w act u) h lines rest may = (text, t, rest, h, may, refl)
said_on text t n (Ends reason) h lines rest may = absurd h

said_end : (text : List ℕ) (t : ScenarioState) (n : ℕ) (reply : Reply) → IsAnswer End text t n reply → (lines : List (List ℕ)) → Follows n reply (λ u r. MayAnswer u lines r) (last_word text)
said_end text t n (Goes said u) h lines = absurd h
said_end text t n (Happens w act u) h lines = absurd h
said_end text t n (Ends reason) h lines = ap last_word h

-- the count of lines went up by one, and nothing else changed
next_is : (l n : ℕ) (stage : StageOf RowNetValue) (board : BoardValue) (feed : FeedValue) (s : ScenarioOf RowNetValue) → record { line = l; stage = stage; board = board; feed = feed } ≡ s → n ≡ min (l + 1) (2 ^ 64 - 1) → meant (record { line = n; stage = stage; board = board; feed = feed }) ≡ at_next_line (meant s)
next_is l n stage board feed s view e =
    subst (λ u. meant (record { line = n; stage = stage; board = board; feed = feed }) ≡ at_next_line (meant u)) view (ap (λ m. meant (record { line = m; stage = stage; board = board; feed = feed })) e)

moved : (flow : Flow) (text w line : List ℕ) (s next t : ScenarioState) → next ≡ at_next_line s → w ≡ without_cr line → IsAnswer flow text t next.line (reply_to_line next w)
    → IsAnswer flow text t (at_next_line s).line (reply_to_line (at_next_line s) (without_cr line))
moved flow text w line s next t e h a =
    subst (λ v. IsAnswer flow text t (at_next_line s).line (reply_to_line (at_next_line s) v)) h (subst (λ u. IsAnswer flow text t u.line (reply_to_line u w)) e a)

-- so a line that was answered is one that the machine takes
answered_line : (flow : Flow) (text line : List ℕ) (s t : ScenarioState) → IsAnswer flow text t (at_next_line s).line (reply_to_line (at_next_line s) (without_cr line)) → TakesLine flow text (MayAnswer s) (MayAnswer t) line
answered_line On text line s t a = λ lines rest may. said_on text t (at_next_line s).line (reply_to_line (at_next_line s) (without_cr line)) a lines rest may
answered_line End text line s t a = λ lines. said_end text t (at_next_line s).line (reply_to_line (at_next_line s) (without_cr line)) a lines

pub taken_line : (r : Result Flow AllocError) (o o1 w line : List ℕ) (l n : ℕ) (stage : StageOf RowNetValue) (board : BoardValue) (feed : FeedValue) (s t : ScenarioOf RowNetValue) → record { line = l; stage = stage; board = board; feed = feed } ≡ s → n ≡ min (l + 1) (2 ^ 64 - 1) → w ≡ without_cr line
    → IfOk r (λ flow. (text : List ℕ) × (o1 ≡ o ++ text) × IsAnswer flow text (meant t) n (reply_to_line (meant (record { line = n; stage = stage; board = board; feed = feed })) w))
    → IfOk r (λ flow. (text : List ℕ) × (o1 ≡ o ++ text) × TakesLine flow text (MayAnswer (meant s)) (MayAnswer (meant t)) line)
taken_line (Ok flow) o o1 w line l n stage board feed s t view e h a = (
  a.0,
  a.1,
  answered_line flow a.0 line (meant s) (meant t)
      (moved flow a.0 w line (meant s) (meant (record { line = n; stage = stage; board = board; feed = feed })) (meant t) (next_is l n stage board feed s view e) h a.2),
)
taken_line (Err x) o o1 w line l n stage board feed s t view e h a = tt
