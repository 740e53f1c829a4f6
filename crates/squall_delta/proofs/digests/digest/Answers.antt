use Rattle.std.proofs.Common.{ap, subst, ◌∙◌, map, arith}
use Rattle.std.specs.Arc.{arc_value}
use Rattle.std.specs.List.{AllByRecursion}
use Rattle.squall_join.specs.Flats.{flat_map}
use Rattle.squall_wire.specs.Fits.{IsWordOpening}
use Rattle.squall_delta.specs.Hashes.{issue_row_of}
use Rattle.squall_delta.proofs.Digested.{digest_made, digest_fits}
use Rattle.squall_delta.proofs.digests.digest.Goals as goal

pub of_lists-requires : goal.of_lists-requires
of_lists-requires c = digest_fits (λ e. (e.0, flat_map arc_value e.1)) c.args.board.now c.in_ok-openings.openings.items c.in_ok-issue_rows.issue_rows.items c.in_ok-rows.rows.items c.in_ok-issues.issues.items c.entries.result.now
    (record {
      openings = c.in_ok-openings.ensures.openings;
      issue_rows = c.in_ok-issue_rows.ensures.rows ∙ ap (map (λ e. issue_row_of (e.0, flat_map arc_value e.1))) c.deref-2.ensures.value;
      issues = c.in_ok-issues.ensures.issues;
      rows = c.in_ok-rows.ensures.rows;
      cells = c.entries.ensures.entries ∙ c.cell_map.ensures.cells;
    })
    c.known.ensures.board
    (subst (AllByRecursion IsWordOpening) c.deref.ensures.value c.words_known.ensures)
    c.in_ok-issue_rows.ensures.words
    c.in_ok-rows.ensures.words
    (omega (arith, c.len.ensures, c.if-len-gt-MOST_ROWS.false))

pub returns : goal.returns
returns c = c.of_lists.ensures ∙ digest_made (λ e. (e.0, flat_map arc_value e.1)) c.args.board.now c.in_ok-openings.openings.items c.in_ok-issue_rows.issue_rows.items c.in_ok-rows.rows.items c.in_ok-issues.issues.items c.entries.result.now
    (record {
      openings = c.in_ok-openings.ensures.openings;
      issue_rows = c.in_ok-issue_rows.ensures.rows ∙ ap (map (λ e. issue_row_of (e.0, flat_map arc_value e.1))) c.deref-2.ensures.value;
      issues = c.in_ok-issues.ensures.issues;
      rows = c.in_ok-rows.ensures.rows;
      cells = c.entries.ensures.entries ∙ c.cell_map.ensures.cells;
    })
