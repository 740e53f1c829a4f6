use Rattle.std.specs.Prelude.{◌≡◌, map}
use Rattle.std.proofs.Common.{ap, sym, ◌∙◌}
use Rattle.std.specs.Arc.{arc_value}
use Rattle.squall_join.specs.Flats.{flat_map}
use Rattle.squall_status.specs.Tallies.{has_clash_above}
use Rattle.squall_status.proofs.Clashing.{board_found, board_finds}
use Rattle.squall_status.proofs.clash.clashes_above.Goals as goal

pub returns : goal.returns
returns c =
    let is : c.has_clash_above.result ≡ has_clash_above c.args.low (map (λ e. (e.0, flat_map arc_value e.1)) c.in_ok-entries.entries.items) =
    c.has_clash_above.ensures ∙ ap (λ es. has_clash_above c.args.low (map (λ e. (e.0, flat_map arc_value e.1)) es)) c.deref.ensures.value in
    ((λ h. board_found c.args.board.now c.args.low _ c.in_ok-entries.ensures.listed (sym is ∙ h)), (λ has. is ∙ board_finds c.args.board.now c.args.low _ c.in_ok-entries.ensures.listed has))
