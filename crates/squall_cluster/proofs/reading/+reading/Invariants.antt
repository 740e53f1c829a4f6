use Rattle.std.proofs.Common.{◌+◌, ◌-◌, ◌*◌, length}
use Rattle.squall_cluster.proofs.reading.+reading.Given as goal

abbrev pub decreases-read_halves-scope-spawn_with : goal.decreases-read_halves-scope-spawn_with
decreases-read_halves-scope-spawn_with g l = 4 * length l.back.items + 1

abbrev pub decreases-read_halves-scope : goal.decreases-read_halves-scope
decreases-read_halves-scope g l = 4 * (length l.front.items + length l.back.items) - 2

abbrev pub decreases-read_all : goal.decreases-read_all
decreases-read_all g l = 4 * length l.seats.items

abbrev pub decreases-read_halves : goal.decreases-read_halves
decreases-read_halves g l = 4 * (length l.front.items + length l.back.items) - 1
