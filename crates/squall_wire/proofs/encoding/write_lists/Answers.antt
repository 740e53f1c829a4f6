use Rattle.std.proofs.Common.{◌<◌, ◌++◌, ℕ, length, List, ap, subst, ◌∙◌}
use Rattle.std.proofs.lemmas.Result.{err_from_is_err_and}
use Rattle.std.specs.Arc.{arc_value}
use Rattle.squall_join.specs.Flats.{flat_map}
use Rattle.squall_wire.specs.Limits.{body_limit}
use Rattle.squall_wire.specs.Spelling.{spell_list, spell_opening}
use Rattle.squall_wire.specs.declared.encoding.EncodeFault.TheVariants.{TooLong}
use Rattle.squall_wire.proofs.Bodies.{issues_spelled, version_spelled, issues_long, lists_written, lists_fit}
use Rattle.squall_wire.proofs.Written.{passed_on}
use Rattle.squall_wire.proofs.encoding.write_lists.Goals as goal

pub returns-in_err-write_some-clause-long : goal.returns-in_err-write_some-clause-long
returns-in_err-write_some-clause-long c = λ e.
    let p = err_from_is_err_and c.from_residual-in_err-write_some.result c.from_residual-in_err-write_some.ensures.1 in
    issues_long c.args.board.now c.args.out.now.items c.write_all.new.out.items _
    (c.in_ok-write_all.ensures.written ∙ ap (λ os. c.args.out.now.items ++ spell_list spell_opening os) (c.deref.ensures.value ∙ c.in_ok-openings.ensures.openings))
    (issues_spelled (λ e. (e.0, flat_map arc_value e.1)) c.args.board.now c.deref-2.result.now c.in_ok-issues.issues.items c.deref-2.ensures.value c.in_ok-issues.ensures.issues)
    (c.write_some.ensures.long cc)

pub returns-in_err-write_cells-clause-long : goal.returns-in_err-write_cells-clause-long
returns-in_err-write_cells-clause-long c = λ e.
    let p = err_from_is_err_and c.from_residual-in_err-write_cells.result c.from_residual-in_err-write_cells.ensures.1 in
    subst (λ (v : List ℕ). body_limit < length v) (lists_written c.args.board.now c.args.out.now.items c.write_all.new.out.items c.write_some.new.out.items _
    (c.in_ok-write_all.ensures.written ∙ ap (λ os. c.args.out.now.items ++ spell_list spell_opening os) (c.deref.ensures.value ∙ c.in_ok-openings.ensures.openings))
    (issues_spelled (λ e. (e.0, flat_map arc_value e.1)) c.args.board.now c.deref-2.result.now c.in_ok-issues.issues.items c.deref-2.ensures.value c.in_ok-issues.ensures.issues)
    c.in_ok-write_some.ensures.written)
    (c.write_cells.ensures.long (passed_on c.write_cells.result c.from_residual-in_err-write_cells.result c.in_err-write_cells.field-0.0 p.0 TooLong c.in_err-write_cells.was p.1 p.2 e))

pub returns-clause-written : goal.returns-clause-written
returns-clause-written c = c.in_ok-write_cells.ensures.written ∙ lists_written c.args.board.now c.args.out.now.items c.write_all.new.out.items c.write_some.new.out.items _
    (c.in_ok-write_all.ensures.written ∙ ap (λ os. c.args.out.now.items ++ spell_list spell_opening os) (c.deref.ensures.value ∙ c.in_ok-openings.ensures.openings))
    (issues_spelled (λ e. (e.0, flat_map arc_value e.1)) c.args.board.now c.deref-2.result.now c.in_ok-issues.issues.items c.deref-2.ensures.value c.in_ok-issues.ensures.issues)
    c.in_ok-write_some.ensures.written

pub returns-clause-version : goal.returns-clause-version
returns-clause-version c = version_spelled (λ e. (e.0, flat_map arc_value e.1)) c.args.board.now c.deref-3.result.now c.in_ok-issues.issues.items c.version_of.result c.deref-3.ensures.value c.in_ok-issues.ensures.issues c.version_of.ensures

pub returns-clause-lists : goal.returns-clause-lists
returns-clause-lists c = lists_fit (λ e. (e.0, flat_map arc_value e.1)) c.args.board.now c.deref.result.now c.in_ok-openings.openings.items c.deref-2.result.now c.in_ok-issues.issues.items c.known.ensures.board
    c.deref.ensures.value c.in_ok-openings.ensures.openings c.in_ok-write_all.ensures.known c.deref-2.ensures.value c.in_ok-issues.ensures.issues c.in_ok-write_some.ensures.known c.in_ok-write_cells.ensures.known
