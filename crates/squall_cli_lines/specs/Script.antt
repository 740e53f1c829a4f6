-- What a machine answers to lines, and what of it a run writes.
use Rattle.std.specs.Prelude.{◌≡◌, ℕ, ◌≤◌, ◌^◌, List, [], ◌∷◌, ◌++◌, length, take, Bool, true, false, Result, Ok, Err}
use Rattle.std.specs.List.{concat}
use Rattle.squall_cli_lines.specs.declared.Flow.{Flow}
use Rattle.squall_cli_lines.specs.declared.Flow.TheVariants.{On, End}
use Rattle.squall_cli_lines.specs.declared.Ended.{Ended}
use Rattle.squall_cli_lines.specs.declared.Ended.TheVariants.{Fine, Refused}
use Rattle.squall_cli_lines.specs.declared.RunFault.{RunFault}
use Rattle.squall_cli_lines.specs.declared.RunFault.TheVariants.{Read, Write, NoMemory}
use Rattle.squall_cli_lines.specs.Lines.{lines_of, whole_lines}

-- how many reads are made of one input at most: so many that no input that is of use has them
abbrev pub read_limit : ℕ
read_limit = 2 ^ 60

-- how many bytes one read gives at most
abbrev pub block_size : ℕ
block_size = 65536

-- The answers to some lines, one for each line in turn, which may be empty. If a line is bad its answer is the
-- last one, and no later line has one.
pub record Script : Type 0 where
  pub answers : List (List ℕ)
  pub refused : Bool

-- the script of no line
abbrev pub silence : Script
silence = record { answers = []; refused = false }

-- these answers, and then those of the script
abbrev pub after : List (List ℕ) → Script → Script
after texts script = record { answers = texts ++ script.answers; refused = script.refused }

-- the answer to a bad line, and no more
abbrev pub last_word : List ℕ → Script
last_word text = record { answers = text ∷ []; refused = true }

-- One line taken. A machine is given by the scripts that it may play to each list of lines. Let the new machine
-- play a script to some lines. Then the old one may play to the line and those lines this text, followed by that
-- script. At a bad line it may play this text and nothing more, whatever follows.
abbrev pub TakesLine : Flow → List ℕ → (List (List ℕ) → Script → Type 0) → (List (List ℕ) → Script → Type 0) → List ℕ → Type 0
TakesLine On text old new line = (lines : List (List ℕ)) (s : Script) → new lines s → old (line ∷ lines) (after (text ∷ []) s)
TakesLine End text old new line = (lines : List (List ℕ)) → old (line ∷ lines) (last_word text)

-- the text of a script: its answers, one after another
abbrev pub text_of : Script → List ℕ
text_of script = concat script.answers

-- the text is a prefix of the whole
abbrev pub IsPrefix : List ℕ → List ℕ → Type 0
IsPrefix text whole = (more : List ℕ) × (whole ≡ text ++ more)

-- what a run has written that read these bytes, by what it returned: answers of a script that the machine may play
abbrev pub IsOutcome : Result Ended RunFault → (List (List ℕ) → Script → Type 0) → List ℕ → List ℕ → Type 0
-- the answers to the lines read, of which none was bad
IsOutcome (Ok Fine) plays read written = (s : Script) × plays (lines_of read) s × (written ≡ text_of s) × (s.refused ≡ false)
-- the answers to the lines read, of which one was bad
IsOutcome (Ok Refused) plays read written = (s : Script) × plays (lines_of read) s × (written ≡ text_of s) × (s.refused ≡ true)
-- the answers to the lines that were read with their LF
IsOutcome (Err Read) plays read written = (s : Script) × plays (lines_of (whole_lines read)) s × (written ≡ text_of s)
-- a prefix of the answers to some first lines
IsOutcome (Err Write) plays read written = (n : ℕ) × (s : Script) × plays (take n (lines_of read)) s × IsPrefix written (text_of s)
-- the answers to some first lines, each whole
IsOutcome (Err NoMemory) plays read written = (n : ℕ) × (s : Script) × plays (take n (lines_of read)) s × (written ≡ text_of s)

-- a machine may play to the lines of this text a script that has no bad line
abbrev pub HasNoBadLine : (List (List ℕ) → Script → Type 0) → List ℕ → Type 0
HasNoBadLine plays text = (s : Script) × plays (lines_of text) s × (s.refused ≡ false)

-- What was done before the last read. What was read is what earlier reads gave, and then the last block, which is
-- empty if the last read failed or found the end. No line that came with its LF in earlier reads was bad, and what
-- is written begins with the answers to those lines.
pub record IsPrompt (plays : List (List ℕ) → Script → Type 0) (read written : List ℕ) : Type 0 where
  pub earlier : List ℕ
  pub last : List ℕ
  pub split : read ≡ earlier ++ last
  pub small : length last ≤ block_size
  pub script : Script
  pub played : plays (lines_of (whole_lines earlier)) script
  pub good : script.refused ≡ false
  pub answered : IsPrefix (text_of script) written

-- ---- machines with one script for each list of lines

-- to any lines it may play their script, and no other
abbrev pub PlaysOnly : (List (List ℕ) → Script) → List (List ℕ) → Script → Type 0
PlaysOnly script lines s = s ≡ script lines

-- line by line: to some first lines it answers what it answers first to all
abbrev pub IsByLine : (List (List ℕ) → Script) → Type 0
IsByLine script = (n : ℕ) (lines : List (List ℕ)) → (script (take n lines)).answers ≡ take n (script lines).answers

-- what a run of such a machine has written that read these bytes, by what it returned
abbrev pub IsOutcomeOf : Result Ended RunFault → (List (List ℕ) → Script) → List ℕ → List ℕ → Type 0
-- the answers to the lines read, of which none was bad
IsOutcomeOf (Ok Fine) script read written = (written ≡ text_of (script (lines_of read))) × ((script (lines_of read)).refused ≡ false)
-- the answers to the lines read, of which one was bad
IsOutcomeOf (Ok Refused) script read written = (written ≡ text_of (script (lines_of read))) × ((script (lines_of read)).refused ≡ true)
-- the answers to the lines that were read with their LF
IsOutcomeOf (Err Read) script read written = written ≡ text_of (script (lines_of (whole_lines read)))
-- a prefix of the answers
IsOutcomeOf (Err Write) script read written = IsPrefix written (text_of (script (lines_of read)))
-- the answers to some first lines, each whole
IsOutcomeOf (Err NoMemory) script read written = (n : ℕ) × (written ≡ concat (take n (script (lines_of read)).answers))
