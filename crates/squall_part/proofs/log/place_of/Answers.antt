use Rattle.std.proofs.Common.{◌≡◌, ◌<◌, ◌-◌, length, get_or, rules}
use Rattle.squall_part.proofs.Logs.{rising_apart, found_there}
use Rattle.squall_part.proofs.log.place_of.Goals as goal

pub returns-then-number : goal.returns-then-number
returns-then-number c =
    let within : length c.args.logs.now - 1 < length c.args.logs.now = search rules in
    let number : (get_or c.args.logs.now (length c.args.logs.now - 1) c.index-logs-count.result).course.number ≡ c.args.number = search rules in
    found_there c.args.number c.args.logs.now (length c.args.logs.now - 1) c.index-logs-count.result (rising_apart c.args.logs.now c.requires) within number
