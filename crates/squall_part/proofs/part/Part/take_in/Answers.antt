use Rattle.std.proofs.Common.{◌≡◌, ◌<◌, ◌≤◌, set, subst, sym, rules}
use Rattle.std.specs.Prelude.{OnOk}
use Rattle.squall_key.specs.Keys.{top}
use Rattle.std.proofs.lemmas.Result.{on_ok_weaker}
use Rattle.squall_board.specs.Takes.{TakesReport}
use Rattle.squall_part.specs.Parts.{IsPart}
use Rattle.squall_part.specs.Loading.{after_load}
use Rattle.squall_part.specs.Steps.{IsLoadPlace}
use Rattle.squall_part.proofs.Steps.{loaded_after, loaded_valid}
use Rattle.squall_part.proofs.part.Part.take_in.Goals as goal

pub invariant_of-self : goal.invariant_of-self
invariant_of-self c =
    let place = subst (λ p. IsLoadPlace p c.args.chunk.now c.args.at) (sym c.self.view_is) c.requires.place in
    let lt : c.args.chunk.now.span.lo < c.args.chunk.now.span.hi = search rules in
    let le : c.args.chunk.now.span.hi ≤ top = search rules in
    let valid = loaded_valid _ c.args.chunk.now c.args.at c.index_mut-log.result.now c.load.new.board c.load.new.held c.load.new.self.loaded c.self.invariant place c.index_mut-log.ensures.value c.load.result c.span.result c.args.report.now c.span.ensures c.requires.report lt le
    c.load.ensures.valid (on_ok_weaker c.load.result (λ (k : TakesReport c.self.inside.board c.args.report.now c.load.new.board). k.tells) c.load.ensures.takes) c.load.ensures.held c.load.ensures.loaded c.load.ensures.err in
    subst (λ l. IsPart (record { id = c.self.inside.id; first = c.self.inside.first; board = c.load.new.board; held = c.load.new.held; logs = set c.self.inside.logs.items c.args.at l })) (sym c.load.ensures.same) valid

pub returns-clause-ok : goal.returns-clause-ok
returns-clause-ok c =
    let place = subst (λ p. IsLoadPlace p c.args.chunk.now c.args.at) (sym c.self.view_is) c.requires.place in
    let after = loaded_after _ c.args.chunk.now c.args.at c.index_mut-log.result.now c.load.new.board c.load.new.held c.load.new.self.loaded c.self.invariant place c.index_mut-log.ensures.value c.load.result c.args.self.now c.span.result c.args.report.now c.self.view_is c.span.ensures c.requires.report
    (on_ok_weaker c.load.result (λ (k : TakesReport c.self.inside.board c.args.report.now c.load.new.board). k.joined) c.load.ensures.takes) c.load.ensures.held c.load.ensures.loaded in
    subst (λ l. OnOk c.load.result (record { id = c.self.inside.id; first = c.self.inside.first; board = c.load.new.board; held = c.load.new.held; logs = set c.self.inside.logs.items c.args.at l } ≡ after_load c.args.self.now c.args.chunk.now)) (sym c.load.ensures.same) after
