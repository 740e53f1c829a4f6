use Rattle.squall_board.specs.BoardQueriesLaws.{report_join, reports_join}
use Rattle.squall_board.proofs.facts_laws.taken_reports_join_queries.Goals as goal

pub returns : goal.returns
returns c = record { report = report_join; list = reports_join }
