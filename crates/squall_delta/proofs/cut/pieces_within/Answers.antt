use Rattle.std.proofs.lemmas.Result.{err_from_is_err_and}
use Rattle.squall_delta.specs.declared.cut.fault.CutFault.TheVariants.{TooLong}
use Rattle.squall_delta.proofs.Slices.{passed_on}
use Rattle.std.proofs.Common.{◌≡◌, map, sym, ap, subst, ◌∙◌}
use Rattle.std.specs.Arc.{arc_value}
use Rattle.squall_join.specs.Flats.{flat_map}
use Rattle.squall_board.specs.Listed.{cell_entry}
use Rattle.squall_delta.specs.Items.{items_of}
use Rattle.squall_delta.specs.Pieces.{AreCut, body_within}
use Rattle.squall_delta.specs.Cutting.{cut_with, uncut}
use Rattle.squall_delta.specs.PieceLaws.{openings_next, issues_next, cells_next, all_fed, fed_are_cut, cut_join, pieces_within_limit, each_within, openings_long, issues_long, cells_long, not_each_within, low_limit}
use Rattle.squall_delta.proofs.cut.pieces_within.Goals as goal

pub put_openings-requires-clause-next : goal.put_openings-requires-clause-next
put_openings-requires-clause-next c = openings_next (body_within c.args.limit) c.args.board.now (cut_with c.new-cutter.result.most c.new-cutter.result.finished.items c.new-cutter.result.piece) c.deref.result.now c.known.ensures.board (c.deref.ensures.value ∙ c.in_ok-openings.ensures.openings) (c.new-cutter.ensures.uncut ∙ ap uncut c.body_within.ensures.value)

pub put_issues-requires-clause-next : goal.put_issues-requires-clause-next
put_issues-requires-clause-next c = issues_next (body_within c.args.limit) (λ e. (e.0, flat_map arc_value e.1)) c.args.board.now (cut_with c.new-cutter.result.most c.new-cutter.result.finished.items c.new-cutter.result.piece) (cut_with c.put_openings.new.self.most c.put_openings.new.self.finished.items c.put_openings.new.self.piece) c.deref.result.now c.deref-2.result.now c.known.ensures.board (c.deref.ensures.value ∙ c.in_ok-openings.ensures.openings) (ap (map (λ e. (e.0, flat_map arc_value e.1))) c.deref-2.ensures.value ∙ c.in_ok-issues.ensures.issues) (c.new-cutter.ensures.uncut ∙ ap uncut c.body_within.ensures.value) c.in_ok-put_openings.ensures.fed

pub put_cells-requires-clause-next : goal.put_cells-requires-clause-next
put_cells-requires-clause-next c = cells_next (body_within c.args.limit) (λ e. (e.0, flat_map arc_value e.1)) (λ e. cell_entry e.0 e.1.now) c.args.board.now (cut_with c.new-cutter.result.most c.new-cutter.result.finished.items c.new-cutter.result.piece) (cut_with c.put_openings.new.self.most c.put_openings.new.self.finished.items c.put_openings.new.self.piece) (cut_with c.put_issues.new.self.most c.put_issues.new.self.finished.items c.put_issues.new.self.piece) c.deref.result.now c.deref-2.result.now c.deref-3.result.now c.known.ensures.board (c.deref.ensures.value ∙ c.in_ok-openings.ensures.openings) (ap (map (λ e. (e.0, flat_map arc_value e.1))) c.deref-2.ensures.value ∙ c.in_ok-issues.ensures.issues) (ap (map (λ e. cell_entry e.0 e.1.now)) c.deref-3.ensures.value ∙ c.in_ok-lent_cells.ensures) (c.new-cutter.ensures.uncut ∙ ap uncut c.body_within.ensures.value) c.in_ok-put_openings.ensures.fed c.in_ok-put_issues.ensures.fed

pub returns-clause-pieces : goal.returns-clause-pieces
returns-clause-pieces c = (subst (λ l. AreCut (body_within c.args.limit) c.args.board.now l) (sym c.in_ok-finish.ensures) (fed_are_cut (body_within c.args.limit) c.args.board.now (cut_with c.put_cells.new.self.most c.put_cells.new.self.finished.items c.put_cells.new.self.piece) c.known.ensures.board (all_fed (body_within c.args.limit) (λ e. (e.0, flat_map arc_value e.1)) (λ e. cell_entry e.0 e.1.now) c.args.board.now (cut_with c.new-cutter.result.most c.new-cutter.result.finished.items c.new-cutter.result.piece) (cut_with c.put_openings.new.self.most c.put_openings.new.self.finished.items c.put_openings.new.self.piece) (cut_with c.put_issues.new.self.most c.put_issues.new.self.finished.items c.put_issues.new.self.piece) (cut_with c.put_cells.new.self.most c.put_cells.new.self.finished.items c.put_cells.new.self.piece) c.deref.result.now c.deref-2.result.now c.deref-3.result.now c.known.ensures.board (c.deref.ensures.value ∙ c.in_ok-openings.ensures.openings) (ap (map (λ e. (e.0, flat_map arc_value e.1))) c.deref-2.ensures.value ∙ c.in_ok-issues.ensures.issues) (ap (map (λ e. cell_entry e.0 e.1.now)) c.deref-3.ensures.value ∙ c.in_ok-lent_cells.ensures) (c.new-cutter.ensures.uncut ∙ ap uncut c.body_within.ensures.value) c.in_ok-put_openings.ensures.fed c.in_ok-put_issues.ensures.fed c.in_ok-put_cells.ensures.fed)))

pub returns-clause-joined : goal.returns-clause-joined
returns-clause-joined c = cut_join (body_within c.args.limit) c.args.board.now c.in_ok-finish.field-0.items c.known.ensures.board (subst (λ l. AreCut (body_within c.args.limit) c.args.board.now l) (sym c.in_ok-finish.ensures) (fed_are_cut (body_within c.args.limit) c.args.board.now (cut_with c.put_cells.new.self.most c.put_cells.new.self.finished.items c.put_cells.new.self.piece) c.known.ensures.board (all_fed (body_within c.args.limit) (λ e. (e.0, flat_map arc_value e.1)) (λ e. cell_entry e.0 e.1.now) c.args.board.now (cut_with c.new-cutter.result.most c.new-cutter.result.finished.items c.new-cutter.result.piece) (cut_with c.put_openings.new.self.most c.put_openings.new.self.finished.items c.put_openings.new.self.piece) (cut_with c.put_issues.new.self.most c.put_issues.new.self.finished.items c.put_issues.new.self.piece) (cut_with c.put_cells.new.self.most c.put_cells.new.self.finished.items c.put_cells.new.self.piece) c.deref.result.now c.deref-2.result.now c.deref-3.result.now c.known.ensures.board (c.deref.ensures.value ∙ c.in_ok-openings.ensures.openings) (ap (map (λ e. (e.0, flat_map arc_value e.1))) c.deref-2.ensures.value ∙ c.in_ok-issues.ensures.issues) (ap (map (λ e. cell_entry e.0 e.1.now)) c.deref-3.ensures.value ∙ c.in_ok-lent_cells.ensures) (c.new-cutter.ensures.uncut ∙ ap uncut c.body_within.ensures.value) c.in_ok-put_openings.ensures.fed c.in_ok-put_issues.ensures.fed c.in_ok-put_cells.ensures.fed)))

pub returns-clause-fit : goal.returns-clause-fit
returns-clause-fit c = pieces_within_limit c.args.limit c.args.board.now c.in_ok-finish.field-0.items (subst (λ l. AreCut (body_within c.args.limit) c.args.board.now l) (sym c.in_ok-finish.ensures) (fed_are_cut (body_within c.args.limit) c.args.board.now (cut_with c.put_cells.new.self.most c.put_cells.new.self.finished.items c.put_cells.new.self.piece) c.known.ensures.board (all_fed (body_within c.args.limit) (λ e. (e.0, flat_map arc_value e.1)) (λ e. cell_entry e.0 e.1.now) c.args.board.now (cut_with c.new-cutter.result.most c.new-cutter.result.finished.items c.new-cutter.result.piece) (cut_with c.put_openings.new.self.most c.put_openings.new.self.finished.items c.put_openings.new.self.piece) (cut_with c.put_issues.new.self.most c.put_issues.new.self.finished.items c.put_issues.new.self.piece) (cut_with c.put_cells.new.self.most c.put_cells.new.self.finished.items c.put_cells.new.self.piece) c.deref.result.now c.deref-2.result.now c.deref-3.result.now c.known.ensures.board (c.deref.ensures.value ∙ c.in_ok-openings.ensures.openings) (ap (map (λ e. (e.0, flat_map arc_value e.1))) c.deref-2.ensures.value ∙ c.in_ok-issues.ensures.issues) (ap (map (λ e. cell_entry e.0 e.1.now)) c.deref-3.ensures.value ∙ c.in_ok-lent_cells.ensures) (c.new-cutter.ensures.uncut ∙ ap uncut c.body_within.ensures.value) c.in_ok-put_openings.ensures.fed c.in_ok-put_issues.ensures.fed c.in_ok-put_cells.ensures.fed)))

pub returns-clause-each : goal.returns-clause-each
returns-clause-each c = each_within c.args.limit c.args.board.now (all_fed (body_within c.args.limit) (λ e. (e.0, flat_map arc_value e.1)) (λ e. cell_entry e.0 e.1.now) c.args.board.now (cut_with c.new-cutter.result.most c.new-cutter.result.finished.items c.new-cutter.result.piece) (cut_with c.put_openings.new.self.most c.put_openings.new.self.finished.items c.put_openings.new.self.piece) (cut_with c.put_issues.new.self.most c.put_issues.new.self.finished.items c.put_issues.new.self.piece) (cut_with c.put_cells.new.self.most c.put_cells.new.self.finished.items c.put_cells.new.self.piece) c.deref.result.now c.deref-2.result.now c.deref-3.result.now c.known.ensures.board (c.deref.ensures.value ∙ c.in_ok-openings.ensures.openings) (ap (map (λ e. (e.0, flat_map arc_value e.1))) c.deref-2.ensures.value ∙ c.in_ok-issues.ensures.issues) (ap (map (λ e. cell_entry e.0 e.1.now)) c.deref-3.ensures.value ∙ c.in_ok-lent_cells.ensures) (c.new-cutter.ensures.uncut ∙ ap uncut c.body_within.ensures.value) c.in_ok-put_openings.ensures.fed c.in_ok-put_issues.ensures.fed c.in_ok-put_cells.ensures.fed).alone

pub returns-in_err-put_openings-clause-long : goal.returns-in_err-put_openings-clause-long
returns-in_err-put_openings-clause-long c = λ e.
    let p = err_from_is_err_and c.from_residual-in_err-put_openings.result c.from_residual-in_err-put_openings.ensures.1 in
    not_each_within c.args.limit c.args.board.now (openings_long (body_within c.args.limit) c.args.board.now (cut_with c.new-cutter.result.most c.new-cutter.result.finished.items c.new-cutter.result.piece) c.deref.result.now c.known.ensures.board (c.deref.ensures.value ∙ c.in_ok-openings.ensures.openings) (c.new-cutter.ensures.uncut ∙ ap uncut c.body_within.ensures.value) (c.put_openings.ensures.long (passed_on c.put_openings.result c.from_residual-in_err-put_openings.result c.in_err-put_openings.field-0.0 p.0 TooLong c.in_err-put_openings.was p.1 p.2 e)))

pub returns-in_err-put_openings-clause-low : goal.returns-in_err-put_openings-clause-low
returns-in_err-put_openings-clause-low c = λ e.
    let p = err_from_is_err_and c.from_residual-in_err-put_openings.result c.from_residual-in_err-put_openings.ensures.1 in
    low_limit c.args.limit (items_of c.args.board.now) (openings_long (body_within c.args.limit) c.args.board.now (cut_with c.new-cutter.result.most c.new-cutter.result.finished.items c.new-cutter.result.piece) c.deref.result.now c.known.ensures.board (c.deref.ensures.value ∙ c.in_ok-openings.ensures.openings) (c.new-cutter.ensures.uncut ∙ ap uncut c.body_within.ensures.value) (c.put_openings.ensures.long (passed_on c.put_openings.result c.from_residual-in_err-put_openings.result c.in_err-put_openings.field-0.0 p.0 TooLong c.in_err-put_openings.was p.1 p.2 e)))

pub returns-in_err-put_issues-clause-long : goal.returns-in_err-put_issues-clause-long
returns-in_err-put_issues-clause-long c = λ e.
    let p = err_from_is_err_and c.from_residual-in_err-put_issues.result c.from_residual-in_err-put_issues.ensures.1 in
    not_each_within c.args.limit c.args.board.now (issues_long (body_within c.args.limit) (λ e. (e.0, flat_map arc_value e.1)) c.args.board.now (cut_with c.new-cutter.result.most c.new-cutter.result.finished.items c.new-cutter.result.piece) (cut_with c.put_openings.new.self.most c.put_openings.new.self.finished.items c.put_openings.new.self.piece) c.deref.result.now c.deref-2.result.now c.known.ensures.board (c.deref.ensures.value ∙ c.in_ok-openings.ensures.openings) (ap (map (λ e. (e.0, flat_map arc_value e.1))) c.deref-2.ensures.value ∙ c.in_ok-issues.ensures.issues) (c.new-cutter.ensures.uncut ∙ ap uncut c.body_within.ensures.value) c.in_ok-put_openings.ensures.fed (c.put_issues.ensures.long (passed_on c.put_issues.result c.from_residual-in_err-put_issues.result c.in_err-put_issues.field-0.0 p.0 TooLong c.in_err-put_issues.was p.1 p.2 e)))

pub returns-in_err-put_issues-clause-low : goal.returns-in_err-put_issues-clause-low
returns-in_err-put_issues-clause-low c = λ e.
    let p = err_from_is_err_and c.from_residual-in_err-put_issues.result c.from_residual-in_err-put_issues.ensures.1 in
    low_limit c.args.limit (items_of c.args.board.now) (issues_long (body_within c.args.limit) (λ e. (e.0, flat_map arc_value e.1)) c.args.board.now (cut_with c.new-cutter.result.most c.new-cutter.result.finished.items c.new-cutter.result.piece) (cut_with c.put_openings.new.self.most c.put_openings.new.self.finished.items c.put_openings.new.self.piece) c.deref.result.now c.deref-2.result.now c.known.ensures.board (c.deref.ensures.value ∙ c.in_ok-openings.ensures.openings) (ap (map (λ e. (e.0, flat_map arc_value e.1))) c.deref-2.ensures.value ∙ c.in_ok-issues.ensures.issues) (c.new-cutter.ensures.uncut ∙ ap uncut c.body_within.ensures.value) c.in_ok-put_openings.ensures.fed (c.put_issues.ensures.long (passed_on c.put_issues.result c.from_residual-in_err-put_issues.result c.in_err-put_issues.field-0.0 p.0 TooLong c.in_err-put_issues.was p.1 p.2 e)))

pub returns-in_err-put_cells-clause-long : goal.returns-in_err-put_cells-clause-long
returns-in_err-put_cells-clause-long c = λ e.
    let p = err_from_is_err_and c.from_residual-in_err-put_cells.result c.from_residual-in_err-put_cells.ensures.1 in
    not_each_within c.args.limit c.args.board.now (cells_long (body_within c.args.limit) (λ e. (e.0, flat_map arc_value e.1)) (λ e. cell_entry e.0 e.1.now) c.args.board.now (cut_with c.new-cutter.result.most c.new-cutter.result.finished.items c.new-cutter.result.piece) (cut_with c.put_openings.new.self.most c.put_openings.new.self.finished.items c.put_openings.new.self.piece) (cut_with c.put_issues.new.self.most c.put_issues.new.self.finished.items c.put_issues.new.self.piece) c.deref.result.now c.deref-2.result.now c.deref-3.result.now c.known.ensures.board (c.deref.ensures.value ∙ c.in_ok-openings.ensures.openings) (ap (map (λ e. (e.0, flat_map arc_value e.1))) c.deref-2.ensures.value ∙ c.in_ok-issues.ensures.issues) (ap (map (λ e. cell_entry e.0 e.1.now)) c.deref-3.ensures.value ∙ c.in_ok-lent_cells.ensures) (c.new-cutter.ensures.uncut ∙ ap uncut c.body_within.ensures.value) c.in_ok-put_openings.ensures.fed c.in_ok-put_issues.ensures.fed (c.put_cells.ensures.long (passed_on c.put_cells.result c.from_residual-in_err-put_cells.result c.in_err-put_cells.field-0.0 p.0 TooLong c.in_err-put_cells.was p.1 p.2 e)))

pub returns-in_err-put_cells-clause-low : goal.returns-in_err-put_cells-clause-low
returns-in_err-put_cells-clause-low c = λ e.
    let p = err_from_is_err_and c.from_residual-in_err-put_cells.result c.from_residual-in_err-put_cells.ensures.1 in
    low_limit c.args.limit (items_of c.args.board.now) (cells_long (body_within c.args.limit) (λ e. (e.0, flat_map arc_value e.1)) (λ e. cell_entry e.0 e.1.now) c.args.board.now (cut_with c.new-cutter.result.most c.new-cutter.result.finished.items c.new-cutter.result.piece) (cut_with c.put_openings.new.self.most c.put_openings.new.self.finished.items c.put_openings.new.self.piece) (cut_with c.put_issues.new.self.most c.put_issues.new.self.finished.items c.put_issues.new.self.piece) c.deref.result.now c.deref-2.result.now c.deref-3.result.now c.known.ensures.board (c.deref.ensures.value ∙ c.in_ok-openings.ensures.openings) (ap (map (λ e. (e.0, flat_map arc_value e.1))) c.deref-2.ensures.value ∙ c.in_ok-issues.ensures.issues) (ap (map (λ e. cell_entry e.0 e.1.now)) c.deref-3.ensures.value ∙ c.in_ok-lent_cells.ensures) (c.new-cutter.ensures.uncut ∙ ap uncut c.body_within.ensures.value) c.in_ok-put_openings.ensures.fed c.in_ok-put_issues.ensures.fed (c.put_cells.ensures.long (passed_on c.put_cells.result c.from_residual-in_err-put_cells.result c.in_err-put_cells.field-0.0 p.0 TooLong c.in_err-put_cells.was p.1 p.2 e)))
