-- Files with logs (this project's command line).
use Rattle.std.specs.Prelude.{◌≡◌, ℕ, List, [], ◌∷◌, take, Some}
use Rattle.std.specs.List.{slice_get}
use Rattle.squall_judge.specs.declared.log.Log.{Log}
use Rattle.squall_cli_audit.specs.LogTexts.{IsLogOf, HasBadLine}

-- a file: its name and its text
pub record FileValue : Type 0 where
  pub name : List ℕ
  pub text : List ℕ

abbrev pub file_with : List ℕ → List ℕ → FileValue
file_with name text = record { name = name; text = text }

-- each file has the text of a log: these are the logs, and these are the numbers of the lines of each
abbrev pub AreLogsOf : List FileValue → List Log → List (List ℕ) → Type 0
AreLogsOf [] [] [] = Unit {0}
AreLogsOf (f ∷ fs) (log ∷ logs) (ns ∷ nss) = IsLogOf f.text log ns × AreLogsOf fs logs nss
AreLogsOf [] (log ∷ logs) nss = ⊥
AreLogsOf [] [] (ns ∷ nss) = ⊥
AreLogsOf (f ∷ fs) [] nss = ⊥
AreLogsOf (f ∷ fs) (log ∷ logs) [] = ⊥

-- the first file that is the text of no log is the one at that index, counted from 0, for its line of that number
pub record IsFirstBadFile (files : List FileValue) (index number : ℕ) : Type 0 where
  pub file : FileValue
  pub there : slice_get files index ≡ Some file
  pub bad : HasBadLine file.text number
  pub logs : List Log
  pub numbers : List (List ℕ)
  pub good : AreLogsOf (take index files) logs numbers
