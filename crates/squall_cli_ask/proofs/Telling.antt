-- What is told where a write to standard error may fail.
use Rattle.std.proofs.Common.{◌≡◌, ◌⊎◌, inl, inr, ℕ, List, [], ◌++◌, take, drop, Result, Ok, Err, refl, sym, subst, ap, ◌∙◌}
use Rattle.std.proofs.lemmas.List.{append_assoc, append-nil, take-append-drop}
use Rattle.std.proofs.KnownBytes.{Appends-trans}
use Rattle.std.specs.Prelude.{IfErr, OnOk, OnErr}
use Rattle.squall_cli_device.specs.declared.DeviceFault.{DeviceFault}
use Rattle.squall_cli_device.specs.States.{SinkState, TookBytes, OutputFails, NoWriteFails}
use Rattle.squall_cli_lines.specs.declared.RunFault.{RunFault}
use Rattle.squall_cli_lines.specs.declared.RunFault.TheVariants.{Write}
use Rattle.squall_cli_lines.specs.declared.Ended.{Ended}
use Rattle.squall_cli_lines.specs.Heeding.{HeedsWrites, Says}
use Rattle.squall_cli_lines.proofs.Bytes.{fine_is_no_error}
use Rattle.squall_cli_ask.specs.Told.{status_of, TellsFault, TellsOutcome, IsTold}

-- of a call that sends a text it is told whether a write failed
pub unfailed : {T : Type 0} (x : T) (old new : SinkState) → HeedsWrites (Ok x) old new → NoWriteFails old new
unfailed x old new h = h.1 (λ e. fine_is_no_error x Write e)

pub failed : {T : Type 0} (fault : RunFault) (old new : SinkState) → HeedsWrites {T = T} (Err fault) old new → fault ≡ Write → OutputFails old new
failed fault old new h is = h.0 (ap Err is)

-- a first part was sent, and then a write failed
pub sent_first : (old new : SinkState) (text rest : List ℕ) (n : ℕ) → TookBytes old new (take n text) → OutputFails old new → Says old new (text ++ rest)
sent_first old new text rest n sent fails = (
  take n text,
  sent,
  (drop n text ++ rest, ap (λ w. w ++ rest) (sym (take-append-drop n text)) ∙ append_assoc (take n text) (drop n text) rest),
  inr fails,
)

-- a text was sent as far as the result says
pub says_sent : (r : Result Unit RunFault) (old new : SinkState) (text : List ℕ)
    → OnOk r (TookBytes old new text) → OnErr r ((n : ℕ) × TookBytes old new (take n text)) → IfErr r (λ e. e ≡ Write) → HeedsWrites r old new → Says old new text
says_sent (Ok u) old new text ok err only h = (text, ok, ([], sym (append-nil text)), inl refl)
says_sent (Err fault) old new text ok err only h =
    (take err.0 text, err.1, (drop err.0 text, sym (take-append-drop err.0 text)), inr (failed fault old new h only))

-- the same of bytes
pub says_bytes : (r : Result Unit DeviceFault) (old new : SinkState) (text : List ℕ)
    → OnOk r (TookBytes old new text) → OnErr r ((n : ℕ) × TookBytes old new (take n text)) → OnErr r (OutputFails old new) → Says old new text
says_bytes (Ok u) old new text ok err fails = (text, ok, ([], sym (append-nil text)), inl refl)
says_bytes (Err fault) old new text ok err fails = (take err.0 text, err.1, (drop err.0 text, sym (take-append-drop err.0 text)), inr fails)

-- a text was sent whole, and then another was told
pub sent_later : (old mid new : SinkState) (text rest : List ℕ) → TookBytes old mid text → NoWriteFails old mid → Says mid new rest → Says old new (text ++ rest)
sent_later old mid new text rest sent same s = (
  text ++ s.0,
  Appends-trans old.contents mid.contents new.contents text s.0 sent s.1,
  (s.2.0, ap (λ w. text ++ w) s.2.1 ∙ sym (append_assoc text s.0 s.2.0)),
  whole s.0 s.3,
)
  where
    whole : (said : List ℕ) → (said ≡ rest) ⊎ OutputFails mid new → (text ++ said ≡ text ++ rest) ⊎ OutputFails old new
    whole said (inl e) = inl (ap (λ w. text ++ w) e)
    whole said (inr fails) = inr (rw (sym same.0, sym same.1) fails)

-- ---- what goes with a status

-- with more names
pub told_of : (named named' : List ℕ → Type 0) (status : ℕ) (text : List ℕ)
    → ((name : List ℕ) → named name → named' name) → IsTold named status text → IsTold named' status text
told_of named named' status text more (inl outcome) = inl outcome
told_of named named' status text more (inr (inl file)) = inr (inl (file.0, more file.0 file.1, file.2, file.3))
told_of named named' status text more (inr (inr other)) = inr (inr other)

-- what was told of an outcome or of a fault goes with its status
module _ (named : List ℕ → Type 0) (status : ℕ) (old new : SinkState) where
  pub outcome_goes : (outcome : Result Ended RunFault) → status ≡ status_of outcome
      → (text : List ℕ) × TellsOutcome outcome text × Says old new text → (text : List ℕ) × IsTold named status text × Says old new text
  outcome_goes outcome e t = (t.0, inl (outcome, e, t.1), t.2)

  pub fault_goes : (fault : RunFault) → status ≡ status_of (Err fault)
      → (text : List ℕ) × TellsFault fault text × Says old new text → (text : List ℕ) × IsTold named status text × Says old new text
  fault_goes fault e t = (t.0, inl (Err fault, e, t.1), t.2)

-- nothing was told before
pub told_after : {D : Type 0} (state : D → SinkState) (a b c : D) (P : List ℕ → Type 0) → b ≡ a
    → (text : List ℕ) × P text × Says (state b) (state c) text → (text : List ℕ) × P text × Says (state a) (state c) text
told_after state a b c P same told = subst (λ d. (text : List ℕ) × P text × Says (state d) (state c) text) same told
