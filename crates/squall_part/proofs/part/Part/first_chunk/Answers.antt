use Rattle.std.proofs.Common.{◌≡◌, ℕ, [], None, refl, sym, subst, ◌∙◌, rules, arith}
use Rattle.std.proofs.lemmas.Bool.{false≢true}
use Rattle.std.proofs.lemmas.Grind.{common_steps}
use Rattle.squall_span.specs.Spans.{has, IsSet, first_keys}
use Rattle.squall_course.specs.Subplans.{dest_of}
use Rattle.squall_part.specs.Parts.{course_of_part}
use Rattle.squall_part.specs.Giving.{is_left}
use Rattle.squall_part.proofs.Given.{plans_at, none_left, zero_max}
use Rattle.squall_part.proofs.part.Part.first_chunk.Goals as goal

pub returns-in_default : goal.returns-in_default
returns-in_default c =
    let p = c.args.self.now in
    let current = c.in_ok-sub.ensures.current in
    let plans = plans_at p (course_of_part p) c.args.at c.index.result.now c.known.ensures c.requires in
    let e : c.dest.result ≡ dest_of (course_of_part p).old (course_of_part p).new c.in_ok-sub.sub p.id = search rules in
    (c.in_ok-sub.sub, current, none_left p c.in_ok-sub.sub c.dest.result c.known.ensures plans e c.in_default.is, refl)

pub returns-in_default-first_keys : goal.returns-in_default-first_keys
returns-in_default-first_keys c =
    let p = c.args.self.now in
    let current = c.in_ok-sub.ensures.current in
    let keys : (k : ℕ) → has c.in_ok-left.left k ≡ is_left p c.in_ok-sub.sub k = λ k. (let o = c.in_ok-outgoing.ensures k in let m = c.in_ok-left.ensures.keys k in grind (arith, common_steps)) in
    let none : None ≡ first_keys c.args.max c.in_ok-left.left = sym c.in_default-first_keys.is ∙ c.first_keys.ensures.value in
    let some : c.in_ok-left.left ≡ [] → ⊥ = λ e. false≢true (sym c.if-is_empty.false ∙ c.is_empty.ensures.value.1 e) in
    let z = zero_max c.args.max c.in_ok-left.left (is_left p c.in_ok-sub.sub) (subst IsSet c.left.view_is c.left.invariant) keys none some in
    (c.in_ok-sub.sub, current, z.0, z.1, refl)
