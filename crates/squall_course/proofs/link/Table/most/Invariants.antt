use Rattle.std.proofs.Common.{◌≡◌, max, drop}
use Rattle.squall_course.specs.Links.{most_links}
use Rattle.squall_course.proofs.link.Table.most.Given as goal

abbrev pub invariant-loop-range : goal.invariant-loop-range
invariant-loop-range l = max l.most (most_links l.self (drop l.range-index l.ranges)) ≡ most_links l.self l.ranges
