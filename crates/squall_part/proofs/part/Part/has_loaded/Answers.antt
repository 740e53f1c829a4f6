use Rattle.std.proofs.Common.{◌≡◌, ◌<◌, get_or, rules, arith}
use Rattle.squall_span.specs.SpanLaws.{inside}
use Rattle.squall_part.proofs.Steps.{has_all, lacks_some}
use Rattle.squall_part.proofs.part.Part.has_loaded.Goals as goal

pub returns-in-Complete : goal.returns-in-Complete
returns-in-Complete c =
    let p = c.args.self.now in
    let same : c.log.inside.loaded ≡ (get_or c.args.self.now.logs c.args.at c.index-log.result.now).loaded = search rules in
    has_all p c.args.chunk.now c.args.at c.index-log.result.now c.log.inside.loaded c.known.ensures c.requires same (rw c.span.ensures at c.in-Complete.ensures)

pub returns-in-NotStarted : goal.returns-in-NotStarted
returns-in-NotStarted c =
    let p = c.args.self.now in
    let same : c.log.inside.loaded ≡ (get_or c.args.self.now.logs c.args.at c.index-log.result.now).loaded = search rules in
    let lt : c.args.chunk.now.span.lo < c.args.chunk.now.span.hi = search rules in
    let h = inside c.args.chunk.now.span c.args.chunk.now.span.lo (omega arith) lt in
    let none = rw c.span.ensures at c.in-NotStarted.ensures in
    lacks_some p c.args.chunk.now c.args.at c.index-log.result.now c.log.inside.loaded c.known.ensures c.requires same c.args.chunk.now.span.lo h (none c.args.chunk.now.span.lo h)

pub returns-in-Partial : goal.returns-in-Partial
returns-in-Partial c =
    let p = c.args.self.now in
    let same : c.log.inside.loaded ≡ (get_or c.args.self.now.logs c.args.at c.index-log.result.now).loaded = search rules in
    let some = rw c.span.ensures at c.in-Partial.ensures in
    lacks_some p c.args.chunk.now c.args.at c.index-log.result.now c.log.inside.loaded c.known.ensures c.requires same some.1.0 some.1.1 some.1.2
