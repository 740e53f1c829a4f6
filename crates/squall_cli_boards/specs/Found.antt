-- What was found of files, seen as the definitions see it (this project).
use Rattle.std.specs.Prelude.{◌≡◌, Result, Ok, Err}
use Rattle.squall_cli_boards.specs.declared.known.Known.{Known}
use Rattle.squall_cli_boards.specs.Answers.{AnswerValue}
use Rattle.squall_cli_boards.specs.Known.{KnownValue}

-- a course and a board, without where they lie in memory
abbrev pub known_seen : Known → KnownValue
known_seen k = record { course = k.course; board = k.board }

-- it is the course with its board, or the answer that refuses a file
abbrev pub IsFound : Result Known AnswerValue → Result KnownValue AnswerValue → Type 0
IsFound (Ok k) found = found ≡ Ok (known_seen k)
IsFound (Err a) found = found ≡ Err a
