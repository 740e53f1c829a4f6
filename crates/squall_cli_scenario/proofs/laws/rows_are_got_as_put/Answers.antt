use Rattle.squall_cli_scenario.proofs.GotAsPut.{got, other_rows}
use Rattle.squall_cli_scenario.proofs.laws.rows_are_got_as_put.Goals as goal

pub returns : goal.returns
returns c = record { put = got; others = other_rows; event = λ w v event answer h. h.2; refused = λ w v p k n command answer h. h.2 }
