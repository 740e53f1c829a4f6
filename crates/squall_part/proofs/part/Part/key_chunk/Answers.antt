use Rattle.std.proofs.Common.{◌≡◌, ◌+◌, ◌<◌, true, false, Some, refl, ap, ◌∙◌, rules, arith}
use Rattle.std.proofs.lemmas.Grind.{common_steps}
use Rattle.squall_key.specs.Keys.{top}
use Rattle.squall_span.specs.Spans.{has, interval}
use Rattle.squall_plan.specs.Ranges.{owner_of}
use Rattle.squall_course.specs.Subplans.{subplan_of}
use Rattle.squall_part.specs.Parts.{course_of_part, given_by}
use Rattle.squall_part.specs.Giving.{IsChunkOf}
use Rattle.squall_part.proofs.Given.{plans_at, goes, goes_there, given_here}
use Rattle.squall_part.proofs.part.Part.key_chunk.Goals as goal

pub returns-then-has : goal.returns-then-has
returns-then-has c =
    let p = c.args.self.now in
    let current = c.in_ok-sub.ensures.current in
    let sub : subplan_of (course_of_part p).old (course_of_part p).new c.args.key ≡ Some c.in_ok-sub.sub = grind (arith, common_steps) in
    let owner : owner_of (course_of_part p).old c.args.key ≡ p.id = grind (arith, common_steps) in
    let here = given_here p c.args.at c.index-log.result.now c.known.ensures c.requires in
    let given : has (given_by p (course_of_part p).number) c.args.key ≡ true = ap (λ s. has s c.args.key) here ∙ search rules in
    (c.in_ok-sub.sub, current, goes p c.args.key c.in_ok-sub.sub sub owner, given, refl)

pub returns-then-not-has : goal.returns-then-not-has
returns-then-not-has c =
    let p = c.args.self.now in
    let current = c.in_ok-sub.ensures.current in
    let sub : subplan_of (course_of_part p).old (course_of_part p).new c.args.key ≡ Some c.in_ok-sub.sub = grind (arith, common_steps) in
    let owner : owner_of (course_of_part p).old c.args.key ≡ p.id = grind (arith, common_steps) in
    let here = given_here p c.args.at c.index-log.result.now c.known.ensures c.requires in
    let given : has (given_by p (course_of_part p).number) c.args.key ≡ false = ap (λ s. has s c.args.key) here ∙ search rules in
    let held : has p.held c.args.key ≡ false = search rules in
    (c.in_ok-sub.sub, current, goes p c.args.key c.in_ok-sub.sub sub owner, given, held, refl)

pub returns : goal.returns
returns c =
    let p = c.args.self.now in
    let current = c.in_ok-sub.ensures.current in
    let sub : subplan_of (course_of_part p).old (course_of_part p).new c.args.key ≡ Some c.in_ok-sub.sub = grind (arith, common_steps) in
    let owner : owner_of (course_of_part p).old c.args.key ≡ p.id = grind (arith, common_steps) in
    let here = given_here p c.args.at c.index-log.result.now c.known.ensures c.requires in
    let given : has (given_by p (course_of_part p).number) c.args.key ≡ false = ap (λ s. has s c.args.key) here ∙ search rules in
    let held : has p.held c.args.key ≡ true = search rules in
    let span : c.chunk_of.result.span ≡ interval c.args.key (c.args.key + 1) = search rules in
    let plans = plans_at p (course_of_part p) c.args.at c.index-log.result.now c.known.ensures c.requires in
    let lt : c.args.key < top = search rules in
    let there = goes_there p c.args.key c.in_ok-sub.sub plans lt sub owner in
    let chunk : IsChunkOf p c.in_ok-sub.sub c.chunk_of.result = record { number = search rules; sub_plan = search rules; source = search rules; dest = there ∙ ap Some (search rules) } in
    (c.in_ok-sub.sub, current, goes p c.args.key c.in_ok-sub.sub sub owner, given, held, span, chunk, refl)
