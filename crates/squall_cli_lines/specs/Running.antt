-- What the loops of a run keep, for the contracts of the functions inside this crate that make up a run. No
-- promise cites these definitions.
use Rattle.std.specs.Prelude.{◌≡◌, ℕ, List, ◌++◌, take, true, Result, Ok, Err}
use Rattle.std.specs.List.{concat}
use Rattle.squall_cli_lines.specs.declared.Flow.{Flow}
use Rattle.squall_cli_lines.specs.declared.Flow.TheVariants.{On, End}
use Rattle.squall_cli_lines.specs.declared.RunFault.{RunFault}
use Rattle.squall_cli_lines.specs.declared.RunFault.TheVariants.{Read, Write, NoMemory}
use Rattle.squall_cli_lines.specs.Lines.{lines_of, whole_lines, IsOneLine}
use Rattle.squall_cli_lines.specs.Script.{Script, after, text_of, IsPrefix}

-- All the bytes read but those left are answered, by the text. The first machine is that of the
-- start. The machine of now answers what is left, and whatever follows it.
pub record Running (first now : List (List ℕ) → Script → Type 0) (read left text : List ℕ) : Type 0 where
  -- the bytes that are answered, and the answers
  pub whole : List ℕ
  pub done : List (List ℕ)
  pub split : read ≡ whole ++ left
  -- the answered bytes end at the end of a line
  pub closed : (tail : List ℕ) → whole_lines (whole ++ tail) ≡ whole ++ whole_lines tail
  pub lines : (tail : List ℕ) → lines_of (whole ++ tail) ≡ lines_of whole ++ lines_of tail
  pub answered : (more : List (List ℕ)) (s : Script) → now more s → first (lines_of whole ++ more) (after done s)
  pub written : text ≡ concat done

-- the text is the answers to some first lines, each whole
abbrev pub Begins : (List (List ℕ) → Script → Type 0) → List ℕ → List ℕ → Type 0
Begins plays read text = (n : ℕ) × (s : Script) × plays (take n (lines_of read)) s × (text ≡ text_of s)

-- the text is a prefix of the answers to some first lines
abbrev pub Cuts : (List (List ℕ) → Script → Type 0) → List ℕ → List ℕ → Type 0
Cuts plays read text = (n : ℕ) × (s : Script) × plays (take n (lines_of read)) s × IsPrefix text (text_of s)

-- the text is all the answers, and a line was bad
abbrev pub Finishes : (List (List ℕ) → Script → Type 0) → List ℕ → List ℕ → Type 0
Finishes plays read text = (s : Script) × plays (lines_of read) s × (text ≡ text_of s) × (s.refused ≡ true)

-- what was sent of the answers when a fault came, none of which is a read's
abbrev pub StopsBy : RunFault → (List (List ℕ) → Script → Type 0) → List ℕ → List ℕ → Type 0
StopsBy Read plays read sent = ⊥
StopsBy Write plays read sent = Cuts plays read sent
StopsBy NoMemory plays read sent = Begins plays read sent

-- What a block of input came to, for an old machine and the new one that it left. The run continues
-- with the start of a line left, or a bad line was answered, or a fault came.
abbrev pub TookBlock : Result Flow RunFault → (List (List ℕ) → Script → Type 0) → (List (List ℕ) → Script → Type 0) → List ℕ → List ℕ → List ℕ → Type 0
TookBlock (Ok On) old new read left sent = Running old new read left sent × IsOneLine left
TookBlock (Ok End) old new read left sent = Finishes old read sent
TookBlock (Err e) old new read left sent = StopsBy e old read sent
