use Rattle.std.specs.Prelude.{Option, None, Some, option_copied, is_some, false}
use Rattle.std.proofs.Common.{◌≡◌, Bor, refl, sym, ap, ◌∙◌}
use Rattle.std.proofs.lemmas.Bool.{true≢false}
use Rattle.std.specs.Ordering.{nat_cmp}
use Rattle.std.specs.FinMap.Entries.{find}
use Rattle.squall_status.proofs.AfterNews.{no_number, no_sub}
use Rattle.squall_status.proofs.renewed.has_cells.Goals as goal

not_there : {T : Type 0} (o : Option (Bor T)) → is_some o ≡ false → None ≡ option_copied o
not_there None e = refl
not_there (Some x) e = absurd (true≢false e)

pub returns-in-None : goal.returns-in-None
returns-in-None c = λ e part. no_number c.args.board.now c.args.number c.args.sub part (c.in-None.ensures ∙ ap (find nat_cmp c.args.number) c.cell_map.ensures.cells)

pub returns-in-Some : goal.returns-in-Some
returns-in-Some c = λ e part.
    no_sub c.args.board.now c.args.number c.args.sub part c.in-Some.subs.now (c.in-Some.ensures ∙ ap (find nat_cmp c.args.number) c.cell_map.ensures.cells)
    (not_there c.get-in-Some.result (sym c.is_some.ensures ∙ e) ∙ c.get-in-Some.ensures)
