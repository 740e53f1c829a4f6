use Rattle.std.proofs.Common.{◌≡◌, ◌<◌, true, false, get_or, refl, rules, arith}
use Rattle.std.proofs.lemmas.Grind.{common_steps}
use Rattle.squall_part.specs.Parts.{opened_at}
use Rattle.squall_part.specs.Steps.{IsLoadPlace}
use Rattle.squall_part.proofs.Steps.{stranger, may_load}
use Rattle.squall_part.proofs.part.Part.place_for.Goals as goal

pub returns-then-not-fits-clause-err : goal.returns-then-not-fits-clause-err
returns-then-not-fits-clause-err c =
    let p = c.args.self.now in
    let place : IsLoadPlace p c.args.chunk.now c.in-Some.at = rw c.number.ensures.value at c.in-Some.ensures.some in
    let course : c.course.result.now ≡ (get_or c.args.self.now.logs c.in-Some.at c.index.result.now).course = search rules in
    let no : c.fits.result ≡ false = search rules in
    let opened : c.args.chunk.now.sub < opened_at p c.args.chunk.now.number = search rules in
    (stranger p c.args.chunk.now c.in-Some.at c.index.result.now c.course.result.now c.fits.result place course c.fits.ensures no, (λ x k. opened), refl)

pub returns-clause-ok : goal.returns-clause-ok
returns-clause-ok c =
    let p = c.args.self.now in
    let place : IsLoadPlace p c.args.chunk.now c.in-Some.at = rw c.number.ensures.value at c.in-Some.ensures.some in
    let course : c.course.result.now ≡ (get_or c.args.self.now.logs c.in-Some.at c.index.result.now).course = search rules in
    let yes : c.fits.result ≡ true = search rules in
    let here : c.args.chunk.now.dest ≡ p.id = grind (arith, common_steps) in
    let opened : c.args.chunk.now.sub < opened_at p c.args.chunk.now.number = search rules in
    (may_load p c.args.chunk.now c.in-Some.at c.index.result.now c.course.result.now c.fits.result place course c.fits.ensures yes here opened, place)
