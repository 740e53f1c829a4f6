use Rattle.std.proofs.Common.{◌≡◌, ◌++◌, length}
use Rattle.squall_cli_watch.specs.Changed.{changed_text}
use Rattle.squall_cli_watch.proofs.changed.add_changed.Given as goal

-- what is added, and what changes in the lines that are left, is what changes in all
abbrev pub invariant-loop-line : goal.invariant-loop-line
invariant-loop-line l = l.out.items ++ changed_text l.earlier l.rest ≡ l.fn.out.items ++ changed_text l.before l.after

abbrev pub decreases-loop-line : goal.decreases-loop-line
decreases-loop-line l = length l.rest
