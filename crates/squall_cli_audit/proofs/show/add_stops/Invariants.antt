use Rattle.std.specs.Prelude.{string_bytes}
use Rattle.std.proofs.Common.{◌≡◌, ◌++◌, drop, map}
use Rattle.squall_cli_audit.specs.AuditText.{refused_lines}
use Rattle.squall_cli_audit.proofs.show.add_stops.Given as goal

abbrev pub invariant-loop-i : goal.invariant-loop-i
invariant-loop-i l =
    string_bytes l.out ++ refused_lines (drop l.i l.files) (drop l.i (map (λ ns. ns.items) l.lines)) (drop l.i l.taken) (drop l.i l.causes)
    ≡ string_bytes l.fn.out ++ refused_lines l.files (map (λ ns. ns.items) l.lines) l.taken l.causes
