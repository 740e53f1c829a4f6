-- What was written and told of an answer.
use Rattle.std.proofs.Common.{◌≡◌, ◌≢◌, inl, inr, ℕ, ◌≤◌, ◌<◌, List, [], ◌∷◌, ◌++◌, Bool, true, false, ◌&&◌, ◌==◌, Ok, Err, refl, sym, subst, ap, ◌∙◌, arith, rules}
use Rattle.std.proofs.lemmas.Bool.{false≢true}
use Rattle.std.proofs.KnownBytes.{Appends-nil}
use Rattle.std.specs.Prelude.{MatchBool, Contains, codes, if◌then◌else◌}
use Rattle.squall_cli_device.specs.States.{SinkState}
use Rattle.squall_cli_lines.specs.Script.{IsPrefix}
use Rattle.squall_cli_lines.specs.declared.Ended.TheVariants.{Fine, Refused}
use Rattle.squall_cli_lines.specs.declared.RunFault.TheVariants.{Read, Write, NoMemory}
use Rattle.squall_cli_lines.specs.Heeding.{Says}
use Rattle.squall_cli_command.specs.declared.inquiry.Inquiry.{Inquiry}
use Rattle.squall_cli_boards.specs.Files.{FileValue}
use Rattle.squall_cli_boards.specs.Answers.{AnswerValue}
use Rattle.squall_cli_ask.specs.Audited.{IsAnswerFor}
use Rattle.squall_cli_ask.specs.Reads.{Bytes}
use Rattle.squall_cli_ask.specs.Told.{TellsFault, refusal_told, IsUnread, IsNoName, IsTold}
use Rattle.squall_cli_ask.specs.Gathered.{AreRead}
use Rattle.squall_cli_ask.specs.Asked.{refuses_aside, is_aside, output_of, is_judged, status_of_answer, IsAnswered, TellsRefusal, comes_aside, IsAnswerTold, GivesAnswer, IsToldOf}
use Rattle.squall_cli_ask.specs.Answered.{IsSent}
use Rattle.squall_cli_ask.proofs.Matched.{matched_true, matched_false}
use Rattle.squall_cli_ask.proofs.Inquired.{unread_high}
use Rattle.squall_cli_ask.proofs.Telling.{told_of}

-- ---- tests

second : (t u : Bool) → (t && u) ≡ true → u ≡ true
second true u e = e
second false u e = absurd (false≢true e)

first : (t u : Bool) → (t && u) ≡ true → t ≡ true
first true u e = refl
first false u e = e

one : (t : Bool) (status : ℕ) → t ≡ true → status ≡ 1 → (t && (status == 1)) ≡ true
one t status is e = simp (is, e)

not_one : (t : Bool) (status : ℕ) → status ≢ 1 → (t && (status == 1)) ≡ false
not_one true status other = grind (arith, rules)
not_one false status other = refl

not_refused : (t u v : Bool) (status : ℕ) → (t && u) ≡ false → status ≡ (if u then 1 else (if v then 5 else 0)) → (t && (status == 1)) ≡ false
not_refused true true v status e s = absurd (false≢true (sym e))
not_refused true false true status e s = not_one true status (λ o. omega (arith, s, o))
not_refused true false false status e s = not_one true status (λ o. omega (arith, s, o))
not_refused false u v status e s = refl

mapped : (t : Bool) (P Q P' Q' : Type 0) → (P → P') → (Q → Q') → MatchBool t P Q → MatchBool t P' Q'
mapped true P Q P' Q' f g h = f h
mapped false P Q P' Q' f g h = g h

-- ---- an answer

module _ (asked : Inquiry) (words : List (List ℕ)) (files : List FileValue) (a : AnswerValue) (is : IsAnswerFor asked words files a) where
  -- it is a refusal that goes to standard error
  pub aside_written : (status : ℕ) → status ≡ 1 → is_aside asked a ≡ true → IsAnswered status asked words files []
  aside_written status s e =
      inl (a, is, s ∙ ap (λ u. if u then 1 else (if is_judged asked && a.incomplete then 5 else 0)) (sym (second (refuses_aside asked) a.refused e)), ap (λ t. if t then [] else a.text) (sym e))

  pub aside_told : (status : ℕ) → status ≡ 1 → is_aside asked a ≡ true → IsAnswerTold asked words files status (refusal_told a.text)
  aside_told status s e =
      matched_true (comes_aside asked status) (TellsRefusal asked words files (refusal_told a.text)) (IsTold IsNoName status (refusal_told a.text))
      (one (refuses_aside asked) status (first (refuses_aside asked) a.refused e) s) (a, is, second (refuses_aside asked) a.refused e, refl)

  -- it goes to standard output
  output_is : is_aside asked a ≡ false → a.text ≡ output_of asked a
  output_is e = ap (λ t. if t then [] else a.text) (sym e)

  pub sent_answered : (status : ℕ) (written : List ℕ) → is_aside asked a ≡ false → IsSent status asked a written → IsAnswered status asked words files written
  sent_answered status written e (inl h) = inl (a, is, h.0, h.1 ∙ output_is e)
  sent_answered status written e (inr h) = inr (inl (a, is, h.0, subst (IsPrefix written) (output_is e) h.1))

  not_aside : (status : ℕ) (written : List ℕ) → is_aside asked a ≡ false → IsSent status asked a written → comes_aside asked status ≡ false
  not_aside status written e (inl h) = not_refused (refuses_aside asked) a.refused (is_judged asked && a.incomplete) status e h.0
  not_aside status written e (inr h) = not_one (refuses_aside asked) status (λ o. omega (arith, h.0, o))

  pub sent_told : (status : ℕ) (written text : List ℕ) → is_aside asked a ≡ false → IsSent status asked a written → IsTold IsNoName status text → IsAnswerTold asked words files status text
  sent_told status written text e h t = matched_false (comes_aside asked status) (TellsRefusal asked words files text) (IsTold IsNoName status text) (not_aside status written e h) t

-- an answer that was sent whole tells nothing
pub answer_untold : (asked : Inquiry) (a : AnswerValue) (status : ℕ) → status ≡ status_of_answer asked a → IsTold IsNoName status []
answer_untold asked a status e = by_tests a.refused (is_judged asked && a.incomplete) status e
  where
    by_tests : (u v : Bool) (status : ℕ) → status ≡ (if u then 1 else (if v then 5 else 0)) → IsTold IsNoName status []
    by_tests true v status e = inl (Ok Refused, e, refl)
    by_tests false true status e = inr (inr (inr (e, refl)))
    by_tests false false status e = inl (Ok Fine, e, refl)

-- a refusal that has a text
pub some_told : (text : List ℕ) → text ≢ [] → refusal_told text ≡ codes "squall: " ++ text
some_told [] some = absurd (some refl)
some_told (x ∷ text) some = refl

pub says_nothing : (s : SinkState) → Says s s []
says_nothing s = ([], Appends-nil s.contents, ([], refl), inl refl)

-- no answer has the status of bad words
pub answered_not_bad : (asked : Inquiry) (words : List (List ℕ)) (files : List FileValue) (status : ℕ) (written : List ℕ) → IsAnswered status asked words files written → status ≢ 2
answered_not_bad asked words files status written (inl h) bad = by_tests h.0.refused (is_judged asked && h.0.incomplete) status bad h.2
  where
    by_tests : (u v : Bool) (n : ℕ) → n ≡ 2 → n ≡ (if u then 1 else (if v then 5 else 0)) → ⊥
    by_tests true v n two e = omega (arith, two, e)
    by_tests false true n two e = omega (arith, two, e)
    by_tests false false n two e = omega (arith, two, e)
answered_not_bad asked words files status written (inr (inl h)) bad = omega (arith, h.2, bad)
answered_not_bad asked words files status written (inr (inr h)) bad = omega (arith, h.0, bad)

-- an allocation failed before there was an answer
pub memory_told : (asked : Inquiry) (words : List (List ℕ)) (files : List FileValue) (status : ℕ) (text : List ℕ) → status ≡ 4 → TellsFault NoMemory text
    → IsAnswerTold asked words files status text
memory_told asked words files status text s told =
    matched_false (comes_aside asked status) (TellsRefusal asked words files text) (IsTold IsNoName status text)
    (not_one (refuses_aside asked) status (λ o. omega (arith, s, o))) (inl (Err NoMemory, s, told))

-- ---- an inquiry

-- what was told of the answer about the files that were read
pub answer_told : (asked : Inquiry) (words : List (List ℕ)) (before after : Bytes) (names : List (List ℕ)) (files : List FileValue) (status : ℕ) (text : List ℕ)
    → AreRead before.files before.input after.input names files → IsAnswerTold asked words files status text → IsToldOf asked words before after names status text
answer_told asked words before after names files status text read told =
    mapped (comes_aside asked status) (TellsRefusal asked words files text) (IsTold IsNoName status text)
    ((files : List FileValue) × AreRead before.files before.input after.input names files × TellsRefusal asked words files text) (IsTold (Contains names) status text)
    (λ refusal. (files, read, refusal)) (told_of IsNoName (Contains names) status text (λ name none. absurd none)) told

-- no answer was made
pub no_answer_told : (asked : Inquiry) (words : List (List ℕ)) (before after : Bytes) (names : List (List ℕ)) (status : ℕ) (text : List ℕ)
    → status ≢ 1 → IsTold (Contains names) status text → IsToldOf asked words before after names status text
no_answer_told asked words before after names status text other told =
    matched_false (comes_aside asked status) ((files : List FileValue) × AreRead before.files before.input after.input names files × TellsRefusal asked words files text)
    (IsTold (Contains names) status text) (not_one (refuses_aside asked) status other) told

not_given : (status n : ℕ) → status ≡ n → 2 ≤ n → n < 5 → GivesAnswer status → ⊥
not_given status n e low high (inl less) = omega (arith, e, low, less)
not_given status n e low high (inr five) = omega (arith, e, high, five)

pub unread_is_not_one : (status : ℕ) → IsUnread status → status ≢ 1
unread_is_not_one status u o = let high = unread_high status u in omega (arith, high, o)

-- a fault that comes before anything is written is no answer
pub unread_is_no_answer : (status : ℕ) → IsUnread status → GivesAnswer status → ⊥
unread_is_no_answer status (Read, other, e) given = not_given status 3 e (omega arith) (omega arith) given
unread_is_no_answer status (Write, other, e) given = absurd (other refl)
unread_is_no_answer status (NoMemory, other, e) given = not_given status 4 e (omega arith) (omega arith) given

pub bad_is_no_answer : (status : ℕ) → status ≡ 2 → GivesAnswer status → ⊥
bad_is_no_answer status e given = not_given status 2 e (omega arith) (omega arith) given
