use Rattle.std.proofs.Common.{◌≡◌, map}
use Rattle.squall_cli_race.specs.RaceFiles.{silent}
use Rattle.squall_cli_race.proofs.file.silent.Given as goal

abbrev pub invariant-loop : goal.invariant-loop
invariant-loop l = map (λ r. r.items) l.lists.items ≡ silent l.counter
