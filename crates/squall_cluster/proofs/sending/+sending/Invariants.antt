use Rattle.std.proofs.Common.{◌+◌, ◌-◌, ◌*◌, length}
use Rattle.squall_cluster.proofs.sending.+sending.Given as goal

abbrev pub decreases-send_halves-scope-spawn_with : goal.decreases-send_halves-scope-spawn_with
decreases-send_halves-scope-spawn_with g l = 4 * length l.back.items + 1

abbrev pub decreases-send_halves-scope : goal.decreases-send_halves-scope
decreases-send_halves-scope g l = 4 * (length l.front.items + length l.back.items) - 2

abbrev pub decreases-send_all : goal.decreases-send_all
decreases-send_all g l = 4 * length l.senders.items

abbrev pub decreases-send_halves : goal.decreases-send_halves
decreases-send_halves g l = 4 * (length l.front.items + length l.back.items) - 1
