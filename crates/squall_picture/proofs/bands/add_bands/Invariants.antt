use Rattle.std.specs.Prelude.{string_bytes}
use Rattle.std.proofs.Common.{◌≡◌, ◌++◌, drop}
use Rattle.squall_picture.specs.Bands.{bands_text}
use Rattle.squall_picture.proofs.bands.add_bands.Given as goal

abbrev pub invariant-loop-status : goal.invariant-loop-status
invariant-loop-status l =
    string_bytes l.out ++ bands_text l.axis l.subplans (drop l.status-index l.moves) ≡ string_bytes l.fn.out ++ bands_text l.axis l.subplans l.moves
