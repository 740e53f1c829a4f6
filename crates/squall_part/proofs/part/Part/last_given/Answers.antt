use Rattle.std.proofs.Common.{◌≡◌, ◌+◌, ◌-◌, ◌<◌, true, false, length, get_or, take, Some, sym, ap, subst, ◌∙◌, rules, arith}
use Rattle.std.proofs.lemmas.List.{get_or_default}
use Rattle.squall_part.specs.Logs.{gave, last_of}
use Rattle.squall_part.specs.Parts.{Log}
use Rattle.squall_part.proofs.Latest.{latest, earlier}
use Rattle.squall_part.proofs.part.Part.last_given.Goals as goal

pub returns-then-gave : goal.returns-then-gave
returns-then-gave c =
    let p = c.args.self.now in
    let at = c.loop-at.at - 1 in
    let d : Log = c.index-then-gave.result.now in
    let up : at + 1 ≡ c.loop-at.at = omega (arith, c.loop-at-test.true) in
    let within : at < length p.logs = omega (arith, c.loop-at-test.true, c.loop-at.invariant.0) in
    let here : d ≡ get_or p.logs at d = search rules in
    let e : Log = c.index.result.now in
    let there : e ≡ get_or p.logs at e = search rules in
    let same : e ≡ d = there ∙ get_or_default p.logs at e d within ∙ sym here in
    let tried : gave p c.args.key e ≡ true = search rules in
    let passes = subst (λ (l : Log). gave p c.args.key l ≡ true) same tried in
    let some = subst (λ (l : Log). 0 < l.course.number) same (c.gave.ensures.number c.if-gave.true) in
    ap Some here
    ∙ sym (latest (gave p c.args.key) p.logs at d c.known.ensures.rising within (subst (λ (l : Log). 0 < l.course.number) here some) (ap (gave p c.args.key) (sym here) ∙ passes))
    ∙ ap (λ k. last_of (gave p c.args.key) (take k p.logs)) up ∙ c.loop-at.invariant.1

pub loop-at-preserved : goal.loop-at-preserved
loop-at-preserved c =
    let p = c.args.self.now in
    let at = c.loop-at.at - 1 in
    let d : Log = c.index.result.now in
    let up : at + 1 ≡ c.loop-at.at = omega (arith, c.loop-at-test.true) in
    let within : at < length p.logs = omega (arith, c.loop-at-test.true, c.loop-at.invariant.0) in
    let here : d ≡ get_or p.logs at d = search rules in
    let fails : gave p c.args.key d ≡ false = search rules in (
      omega (arith, c.loop-at.invariant.0),
      sym (earlier (gave p c.args.key) p.logs at d within (ap (gave p c.args.key) (sym here) ∙ fails))
          ∙ ap (λ k. last_of (gave p c.args.key) (take k p.logs)) up ∙ c.loop-at.invariant.1,
    )
