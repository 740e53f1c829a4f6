-- How the answers to an input end.
use Rattle.std.proofs.Common.{◌≡◌, ◌≢◌, ℕ, ◌≤◌, List, [], ◌∷◌, ◌++◌, length, map, Option, None, Some, Result, Ok, Err, sym, ◌∙◌, ap, subst, refl, arith}
use Rattle.std.proofs.lemmas.List.{append_assoc, append-nil, map-append}
use Rattle.std.proofs.KnownBytes.{Appends-nil, Appends-trans, Consumes-nil, Consumes-trans, Consumes-kept}
use Rattle.std.specs.List.{concat}
use Rattle.std.specs.Io.KnownBytes.{Keeps}
use Rattle.squall_wire.specs.declared.fault.WireFault.{WireFault}
use Rattle.squall_wire.specs.declared.fault.WireFault.TheVariants.{Short}
use Rattle.squall_wire.specs.declared.message.Message.{Message}
use Rattle.squall_wire.specs.Messages.{Body, body_of}
use Rattle.squall_wire.specs.Hearing.{IsHeard}
use Rattle.squall_wire.specs.Heard.{HeardValue}
use Rattle.squall_wire.specs.HeardLaws.{heard_is}
use Rattle.squall_wire.specs.HearingLaws.{pieces_are_one_stream}
use Rattle.squall_wire.specs.ReadingLaws.{nothing_is_short}
use Rattle.squall_cli_device.specs.States.{SourceState, SinkState, GaveBytes, TookBytes, ReadAndWrote}
use Rattle.squall_cli_command.specs.declared.form.Form.{Form}
use Rattle.squall_cli_lines.specs.declared.RunFault.{RunFault}
use Rattle.squall_cli_lines.specs.declared.RunFault.TheVariants.{Read, Write, NoMemory}
use Rattle.squall_cli_lines.specs.Script.{IsPrefix}
use Rattle.squall_cli_lines.proofs.RunningLemmas.{concat-append}
use Rattle.squall_cli_boards.specs.Files.{fault_after}
use Rattle.squall_cli_watch.specs.Watched.{last_answer, refused_frame, AnswersInput, AnswersSoFar, IsOutcome, IsPrompt, IsWatchedBy}
use Rattle.squall_cli_watch.specs.declared.ending.WatchEnd.{WatchEnd}
use Rattle.squall_cli_watch.specs.declared.ending.WatchEnd.TheVariants.{Fine, Refused, Complete}
use Rattle.squall_cli_watch.specs.declared.ending.Next.{Next}
use Rattle.squall_cli_watch.specs.declared.ending.Next.TheVariants.{On, End}
use Rattle.squall_cli_watch.specs.Scripts.{WatchScript, ending, silence, last_word, after, text_of}
use Rattle.squall_cli_watch.specs.Taken.{TakesPiece, AnswersPiece, AnswersEnd}
use Rattle.squall_cli_watch.proofs.Begun.{after-after}

-- what holds between two reads
pub record Watching (old now : List Body → Option WireFault → WatchScript → Type 0) (reader reader' : SourceState) (writer writer' : SinkState) (waiting : List ℕ) : Type 0 where
  pub read : List ℕ
  pub texts : List (List ℕ)
  pub messages : List Message
  pub gave : GaveBytes reader reader' read
  pub took : TookBytes writer writer' (concat texts)
  pub heard : IsHeard read messages None waiting
  pub answered : (more : List Body) (f : Option WireFault) (s : WatchScript) → now more f s → old (map body_of messages ++ more) f (after texts s)

pub watching_start : (old : List Body → Option WireFault → WatchScript → Type 0) (reader : SourceState) (writer : SinkState) → Watching old old reader reader writer writer []
watching_start old reader writer = record {
  read = [];
  texts = [];
  messages = [];
  gave = Consumes-nil reader.remaining;
  took = Appends-nil writer.contents;
  heard = record { each = tt; frames = refl; ends = nothing_is_short };
  answered = λ more f s p. p;
}

-- the answers to bytes in which these messages are heard
so_far : (plays : List Body → Option WireFault → WatchScript → Type 0) (read : List ℕ) (ms : List Message) (f : Option WireFault) (rest : List ℕ) (s : WatchScript) → IsHeard read ms f rest
    → plays (map body_of ms) f s → AnswersSoFar plays read s
so_far plays read ms f rest s heard p = subst (λ (h : HeardValue). plays h.bodies h.fault s) (sym (heard_is read ms f rest heard)) p

whole : (plays : List Body → Option WireFault → WatchScript → Type 0) (read : List ℕ) (ms : List Message) (f : Option WireFault) (rest : List ℕ) (s : WatchScript) → IsHeard read ms f rest
    → plays (map body_of ms) (fault_after f rest) s → AnswersInput plays read s
whole plays read ms f rest s heard p = subst (λ (h : HeardValue). plays h.bodies (fault_after h.fault h.rest) s) (sym (heard_is read ms f rest heard)) p

short_at_end : (waiting : List ℕ) → waiting ≢ [] → fault_after None waiting ≡ Some Short
short_at_end [] some = absurd (some refl)
short_at_end (b ∷ rest) some = refl

-- prefixes of what comes first
prefix_on : (first sent rest : List ℕ) → IsPrefix sent rest → IsPrefix (first ++ sent) (first ++ rest)
prefix_on first sent rest p = (p.0, ap (λ w. first ++ w) p.1 ∙ sym (append_assoc first sent p.0))

prefix_more : (sent text more : List ℕ) → IsPrefix sent text → IsPrefix sent (text ++ more)
prefix_more sent text more p = (p.0 ++ more, ap (λ w. w ++ more) p.1 ∙ append_assoc sent p.0 more)

module _ (form : Form) (old now : List Body → Option WireFault → WatchScript → Type 0) (reader reader' : SourceState) (writer writer' : SinkState) (waiting : List ℕ)
    (ends : (f : Option WireFault) → now [] f (last_answer form f)) (w : Watching old now reader reader' writer writer' waiting) where
  played : (f : Option WireFault) → old (map body_of w.messages) f (after w.texts (last_answer form f))
  played f = subst (λ b. old b f (after w.texts (last_answer form f))) (append-nil (map body_of w.messages)) (w.answered [] f (last_answer form f) (ends f))

  now_played : AnswersSoFar old w.read (after w.texts silence)
  now_played = so_far old w.read w.messages None waiting (after w.texts silence) w.heard (played None)

  written : concat w.texts ≡ text_of (after w.texts silence)
  written = ap concat (sym (append-nil w.texts))

  -- before a read that gave the last bytes
  prompt : (last more : List ℕ) → length last ≤ 65536 → IsPrompt old (w.read ++ last) (concat w.texts ++ more)
  prompt last more small = record {
    earlier = w.read;
    last = last;
    split = refl;
    small = small;
    script = after w.texts silence;
    played = now_played;
    goes = refl;
    answered = (more, ap (λ t. t ++ more) written);
  }

  prompt_now : IsPrompt old w.read (concat w.texts)
  prompt_now = record {
    earlier = w.read;
    last = [];
    split = sym (append-nil w.read);
    small = omega arith;
    script = after w.texts silence;
    played = now_played;
    goes = refl;
    answered = ([], written ∙ sym (append-nil (text_of (after w.texts silence))));
  }

  -- no more is read
  pub ended_now : ReadAndWrote reader reader' writer writer' (IsWatchedBy (Err Read) old)
  ended_now = (w.read, concat w.texts, w.gave, w.took, ((after w.texts silence, now_played, written), prompt_now))

  pub ended_read : (reader'' : SourceState) → Keeps reader'.remaining reader''.remaining → ReadAndWrote reader reader'' writer writer' (IsWatchedBy (Err Read) old)
  ended_read reader'' keeps = (
    w.read,
    concat w.texts,
    Consumes-kept reader.remaining reader'.remaining reader''.remaining w.read w.gave keeps,
    w.took,
    ((after w.texts silence, now_played, written), prompt_now),
  )

  -- an allocation failed before the first read
  pub ended_empty : ReadAndWrote reader reader' writer writer' (IsWatchedBy (Err NoMemory) old)
  ended_empty = (
    w.read,
    concat w.texts,
    w.gave,
    w.took,
    ((w.read, [], after w.texts silence, sym (append-nil w.read), omega arith, now_played, written), prompt_now),
  )

  module _ (reader'' : SourceState) (writer'' : SinkState) where
    -- the input ended
    last : (result : Result WatchEnd RunFault) (sent : List ℕ) → AnswersEnd form result waiting sent → IsOutcome result old w.read (concat w.texts ++ sent)
    last (Ok Fine) sent a = (
      after w.texts silence,
      whole old w.read w.messages None waiting (after w.texts silence) w.heard
          (subst (λ (r : List ℕ). old (map body_of w.messages) (fault_after None r) (after w.texts silence)) (sym a.0) (played None)),
      ap (λ t. concat w.texts ++ t) a.1 ∙ append-nil (concat w.texts) ∙ written,
      refl,
    )
    last (Ok Refused) sent a = (
      after w.texts (last_word (refused_frame form Short)),
      whole old w.read w.messages None waiting (after w.texts (last_word (refused_frame form Short))) w.heard
          (subst (λ f. old (map body_of w.messages) f (after w.texts (last_word (refused_frame form Short)))) (sym (short_at_end waiting a.0)) (played (Some Short))),
      ap (λ t. concat w.texts ++ t) (a.1 ∙ sym (append-nil (refused_frame form Short))) ∙ sym (concat-append w.texts (refused_frame form Short ∷ [])),
      refl,
    )
    last (Ok Complete) sent a = absurd a
    last (Err Read) sent a = absurd a
    last (Err Write) sent a = (
      after w.texts (last_word (refused_frame form Short)),
      whole old w.read w.messages None waiting (after w.texts (last_word (refused_frame form Short))) w.heard
          (subst (λ f. old (map body_of w.messages) f (after w.texts (last_word (refused_frame form Short)))) (sym (short_at_end waiting a.0)) (played (Some Short))),
      subst (IsPrefix (concat w.texts ++ sent)) (sym (concat-append w.texts (refused_frame form Short ∷ [])))
          (prefix_on (concat w.texts) sent (refused_frame form Short ++ []) (prefix_more sent (refused_frame form Short) [] a.1)),
    )
    last (Err NoMemory) sent a = absurd a

    pub ended_last : (result : Result WatchEnd RunFault) (sent : List ℕ) → GaveBytes reader' reader'' [] → TookBytes writer' writer'' sent → AnswersEnd form result waiting sent
        → ReadAndWrote reader reader'' writer writer'' (IsWatchedBy result old)
    ended_last result sent gave took a = (
      w.read ++ [],
      concat w.texts ++ sent,
      Consumes-trans reader.remaining reader'.remaining reader''.remaining w.read [] w.gave gave,
      Appends-trans writer.contents writer'.contents writer''.contents (concat w.texts) sent w.took took,
      (subst (λ r. IsOutcome result old r (concat w.texts ++ sent)) (sym (append-nil w.read)) (last result sent a), prompt [] sent (omega arith)),
    )

    -- a piece
    module _ (next_form : Form) (next : List Body → Option WireFault → WatchScript → Type 0) (next_ends : (f : Option WireFault) → next [] f (last_answer next_form f)) (piece sent left : List ℕ)
        (small : length piece ≤ 65536) (gave : GaveBytes reader' reader'' piece) (took : TookBytes writer' writer'' sent) where
      heard_more : (ms : List Message) (f : Option WireFault) → IsHeard (waiting ++ piece) ms f left → IsHeard (w.read ++ piece) (w.messages ++ ms) f left
      heard_more ms f heard = pieces_are_one_stream w.read piece w.messages ms None f waiting left w.heard heard

      grown : (P : List ℕ → List ℕ → Type 0) → P (w.read ++ piece) (concat w.texts ++ sent) → IsPrompt old (w.read ++ piece) (concat w.texts ++ sent)
          → ReadAndWrote reader reader'' writer writer'' (λ read written. P read written × IsPrompt old read written)
      grown P p q = (
        w.read ++ piece,
        concat w.texts ++ sent,
        Consumes-trans reader.remaining reader'.remaining reader''.remaining w.read piece w.gave gave,
        Appends-trans writer.contents writer'.contents writer''.contents (concat w.texts) sent w.took took,
        (p, q),
      )

      all_of : (ms : List Message) (f : Option WireFault) (s : WatchScript) → IsHeard (waiting ++ piece) ms f left → now (map body_of ms) (fault_after f left) s
          → AnswersInput old (w.read ++ piece) (after w.texts s)
      all_of ms f s heard p = whole old (w.read ++ piece) (w.messages ++ ms) f left (after w.texts s) (heard_more ms f heard)
          (subst (λ b. old b (fault_after f left) (after w.texts s)) (sym (map-append body_of w.messages ms)) (w.answered (map body_of ms) (fault_after f left) s p))

      -- it was answered whole
      pub watching_more : (texts : List (List ℕ)) → sent ≡ concat texts → TakesPiece On texts now next (waiting ++ piece) left → Watching old next reader reader'' writer writer'' left
      watching_more texts is t = record {
        read = w.read ++ piece;
        texts = w.texts ++ texts;
        messages = w.messages ++ t.0;
        gave = Consumes-trans reader.remaining reader'.remaining reader''.remaining w.read piece w.gave gave;
        took = subst (λ x. TookBytes writer writer'' x) (ap (λ x. concat w.texts ++ x) is ∙ sym (concat-append w.texts texts))
            (Appends-trans writer.contents writer'.contents writer''.contents (concat w.texts) sent w.took took);
        heard = subst (λ f. IsHeard (w.read ++ piece) (w.messages ++ t.0) f left) t.3.0 (heard_more t.0 t.1 t.2);
        answered = λ more f s p.
            subst (λ b. old b f (after (w.texts ++ texts) s)) (sym (append_assoc (map body_of w.messages) (map body_of t.0) more) ∙ ap (λ b. b ++ more) (sym (map-append body_of w.messages t.0)))
            (subst (λ (x : WatchScript). old (map body_of w.messages ++ (map body_of t.0 ++ more)) f x) (after-after w.texts texts s)
            (w.answered (map body_of t.0 ++ more) f (after texts s) (t.3.1 more f s p)));
      }

      -- it ended the answers
      pub ended_by : (end : WatchEnd) (texts : List (List ℕ)) → sent ≡ concat texts → TakesPiece (End end) texts now next (waiting ++ piece) left
          → ReadAndWrote reader reader'' writer writer'' (IsWatchedBy (Ok end) old)
      ended_by end texts is t = grown (IsOutcome (Ok end) old) (
        after w.texts (ending end texts),
        all_of t.0 t.1 (ending end texts) t.2 (t.3 left),
        ap (λ x. concat w.texts ++ x) is ∙ sym (concat-append w.texts texts),
        refl,
      ) (prompt piece sent small)

      -- the texts of a piece are first in some script for it
      begins : (flow : Next) (texts : List (List ℕ)) → IsPrefix sent (concat texts) → TakesPiece flow texts now next (waiting ++ piece) left
          → (s : WatchScript) × AnswersInput old (w.read ++ piece) s × IsPrefix (concat w.texts ++ sent) (text_of s)
      begins On texts p t =
          let f = fault_after t.1 left in
          let s = after texts (last_answer next_form f) in (
            after w.texts s,
            all_of t.0 t.1 s t.2 (subst (λ b. now b f s) (append-nil (map body_of t.0)) (t.3.1 [] f (last_answer next_form f) (next_ends f))),
            subst (IsPrefix (concat w.texts ++ sent)) (sym (concat-append w.texts (texts ++ (last_answer next_form f).answers)))
                (prefix_on (concat w.texts) sent (concat (texts ++ (last_answer next_form f).answers))
                (subst (IsPrefix sent) (sym (concat-append texts (last_answer next_form f).answers)) (prefix_more sent (concat texts) (concat (last_answer next_form f).answers) p))),
          )
      begins (End end) texts p t = (
        after w.texts (ending end texts),
        all_of t.0 t.1 (ending end texts) t.2 (t.3 left),
        subst (IsPrefix (concat w.texts ++ sent)) (sym (concat-append w.texts texts)) (prefix_on (concat w.texts) sent (concat texts) p),
      )

      -- something stopped it
      stopped : (e : RunFault) → AnswersPiece (Err e) now next (waiting ++ piece) left sent → IsOutcome (Err e) old (w.read ++ piece) (concat w.texts ++ sent)
      stopped Read a = absurd a
      stopped Write a = begins a.0 a.1 a.2 a.3
      stopped NoMemory a = (w.read, piece, after w.texts silence, refl, small, now_played, ap (λ x. concat w.texts ++ x) a ∙ append-nil (concat w.texts) ∙ written)

      pub ended_stopped : (e : RunFault) → AnswersPiece (Err e) now next (waiting ++ piece) left sent → ReadAndWrote reader reader'' writer writer'' (IsWatchedBy (Err e) old)
      ended_stopped e a = grown (IsOutcome (Err e) old) (stopped e a) (prompt piece sent small)

-- the end of the input completes no course
pub incomplete_end : (form : Form) (result : Result WatchEnd RunFault) (waiting sent : List ℕ) → result ≡ Ok Complete → AnswersEnd form result waiting sent → ⊥
incomplete_end form result waiting sent is a = subst (λ r. AnswersEnd form r waiting sent) is a

-- an allocation failed before anything was read
pub nothing_watched : (form : Form) (plays : List Body → Option WireFault → WatchScript → Type 0) → ((f : Option WireFault) → plays [] f (last_answer form f)) → IsWatchedBy (Err NoMemory) plays [] []
nothing_watched form plays ends =
    let heard : IsHeard [] [] None [] = record { each = tt; frames = refl; ends = nothing_is_short } in
    let so : AnswersSoFar plays [] silence = so_far plays [] [] None [] silence heard (ends None) in (
      ([], [], silence, refl, omega arith, so, refl),
      record { earlier = []; last = []; split = refl; small = omega arith; script = silence; played = so; goes = refl; answered = ([], refl) },
    )

-- what stops a piece is no fault of a read
pub stops_unread : {T : Type 0} (result : Result T RunFault) (e : RunFault) (now next : List Body → Option WireFault → WatchScript → Type 0) (bytes left sent : List ℕ)
    → result ≡ Err e → AnswersPiece (Err e) now next bytes left sent → result ≡ Err Read → ⊥
stops_unread result Read now next bytes left sent is s other = s
stops_unread result Write now next bytes left sent is s other = cc
stops_unread result NoMemory now next bytes left sent is s other = cc
