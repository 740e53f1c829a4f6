use Rattle.squall_span.specs.Spans.{interval}
use Rattle.squall_protocol.specs.Chunks.{chunk_with}
use Rattle.squall_store_log.proofs.Payloads.{other_chunk}
use Rattle.squall_store_log.proofs.parts.chunk_at.Goals as goal

pub returns-in_default-clause-none : goal.returns-in_default-clause-none
returns-in_default-clause-none c =
    let n : _ = c.in_ok-numbers.numbers in
    other_chunk (chunk_with n.number n.sub n.source n.dest (interval n.lo n.hi)) c.args.bytes.now c.in_ok-numbers.rest.now c.in_default.ensures.words c.in_ok-numbers.ensures.some
    c.in_default.ensures.none
