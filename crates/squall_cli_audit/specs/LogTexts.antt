-- The log of a text (this project's logs).
use Rattle.std.specs.Prelude.{◌≡◌, ◌⊎◌, ℕ, ◌+◌, ◌==◌, ◌||◌, Bool, true, not, List, [], ◌∷◌, ◌++◌, map, filter, slice_index, None, Some, codes}
use Rattle.std.specs.Str.{bytes_eq}
use Rattle.squall_protocol.specs.declared.event.Node.{Node}
use Rattle.squall_judge.specs.declared.log.Entry.{Entry}
use Rattle.squall_judge.specs.declared.log.Log.{Log}
use Rattle.squall_cli_lines.specs.Lines.{lines_of}
use Rattle.squall_cli_lines.specs.Words.{words_of, without_cr}
use Rattle.squall_cli_audit.specs.LogLines.{node_line, entry_of}

-- ---- lines

-- A line says nothing that is judged if it has no word, if its first word begins with #, or if that is `forget`: that rows were removed is
-- no event of a world.
abbrev pub is_remark : List (List ℕ) → Bool
is_remark [] = true
is_remark (word ∷ words) = (slice_index word 0 == 35) || bytes_eq word (codes "forget")

-- the lines with their numbers, of which the first is n
abbrev pub numbered : ℕ → List (List ℕ) → List (ℕ × List ℕ)
numbered n [] = []
numbered n (line ∷ lines) = (n, line) ∷ numbered (n + 1) lines

abbrev pub is_filled : ℕ × List ℕ → Bool
is_filled line = not (is_remark (words_of line.1))

-- the lines of a text that say something, with their numbers, without their line ends
abbrev pub filled_lines : ℕ → List ℕ → List (ℕ × List ℕ)
filled_lines n text = filter is_filled (numbered n (map without_cr (lines_of text)))

-- ---- logs

-- each line says an entry of the node: these are the entries, and these are the numbers of the lines
pub record Says (m : Node) (lines : List (ℕ × List ℕ)) (entries : List Entry) (numbers : List ℕ) : Type 0 where
  pub said : map (λ (l : ℕ × List ℕ). entry_of m l.1) lines ≡ map Some entries
  pub counted : map (λ (l : ℕ × List ℕ). l.0) lines ≡ numbers

-- the first line names the node of the log, and each other one says an entry
abbrev pub AreLog : List (ℕ × List ℕ) → Log → List ℕ → Type 0
AreLog [] log numbers = ⊥
AreLog (first ∷ lines) log numbers = (node_line (words_of first.1) ≡ Some log.node) × Says log.node lines log.entries.items numbers

-- the text is the log, whose entries are in the lines of these numbers; lines count from 1
abbrev pub IsLogOf : List ℕ → Log → List ℕ → Type 0
IsLogOf text log numbers = AreLog (filled_lines 1 text) log numbers

-- ---- bad lines

-- the line of that number is the first that says no entry of the node
pub record IsFirstBad (m : Node) (lines : List (ℕ × List ℕ)) (number : ℕ) : Type 0 where
  pub before : List (ℕ × List ℕ)
  pub line : List ℕ
  pub after : List (ℕ × List ℕ)
  pub split : lines ≡ before ++ (number, line) ∷ after
  pub entries : List Entry
  pub numbers : List ℕ
  pub good : Says m before entries numbers
  pub bad : entry_of m line ≡ None

-- No line is there, and the first is wanted; the first names no node; or a later one says no entry of that node.
abbrev pub AreBad : List (ℕ × List ℕ) → ℕ → Type 0
AreBad [] n = n ≡ 1
AreBad (first ∷ lines) n =
    ((node_line (words_of first.1) ≡ None) × (n ≡ first.0)) ⊎ ((m : Node) × (node_line (words_of first.1) ≡ Some m) × IsFirstBad m lines n)

-- the line of that number is the first for which the text is no log
abbrev pub HasBadLine : List ℕ → ℕ → Type 0
HasBadLine text n = AreBad (filled_lines 1 text) n

-- ---- laws

-- both are the same log, with the same lines
pub record IsSameLog (a b : Log) (ns ms : List ℕ) : Type 0 where
  pub node : a.node ≡ b.node
  pub entries : a.entries.items ≡ b.entries.items
  pub numbers : ns ≡ ms

-- a text is at most one log
abbrev pub TextsAreOneLog : Type 0
TextsAreOneLog = (text : List ℕ) (a b : Log) (ns ms : List ℕ) → IsLogOf text a ns → IsLogOf text b ms → IsSameLog a b ns ms

-- a text with a bad line is no log
abbrev pub BadTextsAreNoLogs : Type 0
BadTextsAreNoLogs = (text : List ℕ) (n : ℕ) (log : Log) (ns : List ℕ) → HasBadLine text n → IsLogOf text log ns → ⊥
