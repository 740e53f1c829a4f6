-- The queries of a board (this project): what it answers of loads, completions, openings and issues.
use Rattle.squall_report.specs.Facts.{LoadedKey, DonePart}
use Rattle.squall_report.specs.Queries.{Queries}
use Rattle.squall_board.specs.Boards.{BoardValue, opened_count, issued, says}

abbrev pub queries_of : BoardValue → Queries
queries_of b =
    record {
      loaded = λ c k. says b (LoadedKey c k);
      done = λ c. says b (DonePart c);
      opened = opened_count b;
      issued = issued b;
    }
