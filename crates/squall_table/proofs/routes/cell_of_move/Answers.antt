use Rattle.std.proofs.Common.{◌≡◌, None, sym, subst, ◌∙◌}
use Rattle.squall_report.specs.Cells.{place_at, place_of}
use Rattle.squall_table.proofs.Coming.{no_place, nowhere}
use Rattle.squall_table.proofs.routes.cell_of_move.Goals as goal

pub returns-in-None : goal.returns-in-None
returns-in-None c k =
    let none : place_of c.args.number c.args.moved.now.sub c.args.moved.now.dest ≡ None = subst (λ p. place_of c.args.number c.args.moved.now.sub p ≡ None) c.get.ensures.value (sym c.new.ensures ∙ c.in-None.is) in
    nowhere c.args.board.now (place_at c.args.number c.args.moved.now.sub c.args.moved.now.dest) k c.known.ensures.facts (no_place c.args.number c.args.moved.now.sub c.args.moved.now.dest none)
