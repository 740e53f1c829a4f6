-- The words of a task, as they stand in memory.
use Rattle.std.proofs.Common.{◌≡◌, ◌≢◌, ℕ, List, false, Result, Ok, Err, sym, subst, ◌∙◌, arith}
use Rattle.std.proofs.lemmas.Bool.{false≢true}
use Rattle.squall_cli_lines.specs.declared.Ended.{Ended}
use Rattle.squall_cli_lines.specs.declared.Ended.TheVariants.{Fine, Refused}
use Rattle.squall_cli_lines.specs.declared.RunFault.{RunFault}
use Rattle.squall_cli_lines.specs.declared.RunFault.TheVariants.{Read, Write, NoMemory}
use Rattle.squall_cli_command.specs.declared.form.Form.{Form}
use Rattle.squall_cli_command.specs.declared.stream.Stream.{Stream}
use Rattle.squall_cli_command.specs.Line.{Job, check, course, run, race, stream}
use Rattle.squall_cli_ask.specs.Reads.{Bytes}
use Rattle.squall_cli_ask.specs.Told.{status_of, IsTold}
use Rattle.squall_cli_run.specs.Output.{IsWritten}
use Rattle.squall_cli_run.specs.Named.{IsNamed, IsToldFor}

-- the names of the files of a course, as they stand in memory
pub named_course : (job : Job) (form : Form) (old new old' new' : List ℕ) → job ≡ course form old' new' → old ≡ old' → new ≡ new'
    → (name : List ℕ) → IsNamed (course form old new) name → IsNamed job name
named_course job form old new old' new' is first second name named =
    subst (λ j. IsNamed j name) (sym is) (subst (λ n. IsNamed (course form old' n) name) second (subst (λ n. IsNamed (course form n new) name) first named))

-- the name of the one file of another task
pub named_check : (job : Job) (form : Form) (now file : List ℕ) → job ≡ check form file → now ≡ file → (name : List ℕ) → name ≡ now → IsNamed job name
named_check job form now file is same name named = subst (λ j. IsNamed j name) (sym is) (named ∙ same)

pub named_run : (job : Job) (now file : List ℕ) → job ≡ run file → now ≡ file → (name : List ℕ) → name ≡ now → IsNamed job name
named_run job now file is same name named = subst (λ j. IsNamed j name) (sym is) (named ∙ same)

pub named_race : (job : Job) (now file : List ℕ) → job ≡ race file → now ≡ file → (name : List ℕ) → name ≡ now → IsNamed job name
named_race job now file is same name named = subst (λ j. IsNamed j name) (sym is) (named ∙ same)

-- what was told of a task without board files
module _ (job : Job) (before after : Bytes) (status : ℕ) (text : List ℕ) where
  pub told_check : (form : Form) (plan : List ℕ) → job ≡ check form plan → IsTold (IsNamed job) status text → IsToldFor job before after status text
  told_check form plan is = subst (λ j. IsTold (IsNamed j) status text → IsToldFor j before after status text) (sym is) (λ t. t)

  pub told_course : (form : Form) (old new : List ℕ) → job ≡ course form old new → IsTold (IsNamed job) status text → IsToldFor job before after status text
  told_course form old new is = subst (λ j. IsTold (IsNamed j) status text → IsToldFor j before after status text) (sym is) (λ t. t)

  pub told_run : (file : List ℕ) → job ≡ run file → IsTold (IsNamed job) status text → IsToldFor job before after status text
  told_run file is = subst (λ j. IsTold (IsNamed j) status text → IsToldFor j before after status text) (sym is) (λ t. t)

  pub told_race : (file : List ℕ) → job ≡ race file → IsTold (IsNamed job) status text → IsToldFor job before after status text
  told_race file is = subst (λ j. IsTold (IsNamed j) status text → IsToldFor j before after status text) (sym is) (λ t. t)

  pub told_stream : (kind : Stream) (files : List (List ℕ)) → job ≡ stream kind files → IsTold (IsNamed job) status text → IsToldFor job before after status text
  told_stream kind files is = subst (λ j. IsTold (IsNamed j) status text → IsToldFor j before after status text) (sym is) (λ t. t)

-- help is no refusal
pub help_unrefused : (outcome : Result Ended RunFault) (shown written : List ℕ) → IsWritten outcome (record { text = shown; refused = false }) written → status_of outcome ≢ 1
help_unrefused (Ok Fine) shown written h e = omega (arith, e)
help_unrefused (Ok Refused) shown written h e = false≢true h.1
help_unrefused (Err Read) shown written h e = omega (arith, e)
help_unrefused (Err Write) shown written h e = omega (arith, e)
help_unrefused (Err NoMemory) shown written h e = omega (arith, e)

-- nor is a fault of words
pub fault_unrefused : (status : ℕ) → (status ≢ 4 → status ≡ 2) → status ≢ 1
fault_unrefused status bad one = let two = bad (λ four. omega (arith, four, one)) in omega (arith, two, one)
