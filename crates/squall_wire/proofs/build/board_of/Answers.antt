use Rattle.std.proofs.Common.{◌≡◌, ap, ◌∙◌}
use Rattle.squall_wire.specs.BoardOf.{with_openings, with_issues, with_cells, board_of_lists}
use Rattle.squall_wire.specs.Messages.{lists_of, lists_with}
use Rattle.squall_wire.specs.TurnLaws.{openings_rise, issues_rise}
use Rattle.squall_wire.specs.BoardOfLaws.{lists_kept}
use Rattle.squall_wire.proofs.build.board_of.Goals as goal

pub put_openings-requires : goal.put_openings-requires
put_openings-requires c = (openings_rise 0 c.args.openings.now c.requires.openings.turn).within

pub put_issues-requires : goal.put_issues-requires
put_issues-requires c = (issues_rise 0 c.args.issues.now c.requires.issues.turn).within

pub returns-clause-lists : goal.returns-clause-lists
returns-clause-lists c =
    let built : c.put_cells.new.board ≡ board_of_lists (lists_with c.args.openings.now c.args.issues.now c.args.cells.items) =
    c.in_ok-put_cells.ensures ∙ ap (λ b. with_cells b c.args.cells.items) (c.in_ok-put_issues.ensures ∙ ap (λ b. with_issues b c.args.issues.now) (c.in_ok-put_openings.ensures ∙ ap (λ b. with_openings b c.args.openings.now) c.new-board.ensures.empty)) in
    ap lists_of built ∙ lists_kept (lists_with c.args.openings.now c.args.issues.now c.args.cells.items) c.requires
