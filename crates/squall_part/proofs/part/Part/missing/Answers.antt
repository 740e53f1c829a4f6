use Rattle.std.proofs.Common.{◌≡◌, ℕ, ◌&&◌, not, get_or, subst, rules}
use Rattle.squall_span.specs.Spans.{has}
use Rattle.squall_part.proofs.New.{missing_are}
use Rattle.squall_part.proofs.part.Part.missing.Goals as goal

pub returns-clause-new : goal.returns-clause-new
returns-clause-new c =
    let p = c.args.self.now in
    let same : c.log.inside.loaded ≡ (get_or p.logs c.args.at c.index-log.result.now).loaded = search rules in
    let unheld = subst (λ v. (k : ℕ) → has c.in_ok-missing.missing k ≡ (has c.in_ok-unloaded.unloaded k && not (has v.held k))) c.self.view_is c.in_ok-missing.ensures.keys in
    missing_are p c.args.chunk.now c.args.at c.index-log.result.now c.in_ok-keys.keys c.in_ok-unloaded.unloaded c.in_ok-missing.missing c.log.inside.loaded
    c.known.ensures c.requires same (rw c.span.ensures at c.in_ok-keys.ensures) c.in_ok-unloaded.ensures.keys unheld
