use Rattle.std.proofs.Common.{◌≡◌, ◌++◌, ap, sym, ◌∙◌, subst, ℕ, length, length-append, arith, All, Vec, Global}
use Rattle.std.proofs.lemmas.List.Elements.{All-append}
use Rattle.squall_cluster.specs.Race.{Read}
use Rattle.squall_cluster.proofs.reading.+reading.Goals as goal

pub read_halves-scope-returns-in-Ok-append : goal.read_halves-scope-returns-in-Ok-append
read_halves-scope-returns-in-Ok-append g t c =
    let one = c.in_ok-all.all.items in
    let other = c.in_ok-rest.rest.items in
    let P : Vec ℕ Global → Type 0 = λ r. Read g.K.Constants.allowed g.K.Constants.first g.K.Constants.opening c.captures.keys.now r.items in
    let is : c.append.new.self.items ≡ one ++ other = c.in-Ok-append.ensures.items in
    let a = c.in_ok-all.ensures in
    let b = c.in_ok-rest.ensures in
    let e = c.in-Ok.ensures.ok in
    let count : length other ≡ length c.captures.back.items = b.0 ∙ ap (λ p. p.count) e ∙ c.of-promise.ensures.count ∙ c.len.ensures ∙ omega (arith, c.captures.back.ok) in (
      ap length is ∙ omega (arith, length-append one other, a.0, count),
      subst (All P) (sym is) (All-append P one other a.1 (subst (λ k. All (λ r. Read g.K.Constants.allowed g.K.Constants.first g.K.Constants.opening k.now r.items) other) c.of-promise.ensures.keys (subst (λ p. All (λ r. Read g.K.Constants.allowed g.K.Constants.first g.K.Constants.opening p.keys.now r.items) other) e b.1))),
    )
