-- What C sees of chunks and replies (this project).
use Rattle.std.specs.Prelude.{ℕ, nat_lt, nat_le, ◌&&◌, Option, None, if◌then◌else◌}
use Rattle.std.specs.Option.{option_and_then}
use Rattle.squall_key.specs.Keys.{top, part_limit}
use Rattle.squall_span.specs.Spans.{Interval, span_at}
use Rattle.squall_errand.specs.declared.errand.Reply.{Reply}
use Rattle.squall_errand.specs.declared.errand.Reply.TheVariants.{Held, Moved, Pending, Behind, Elsewhere}
use Rattle.squall_protocol.specs.Chunks.{ChunkValue, chunk_of}
use Rattle.squall_c_parts.specs.declared.chunks.CChunk.{CChunk}
use Rattle.squall_c_parts.specs.declared.chunks.CAnswer.{CAnswer}

-- ---- chunks

abbrev pub c_chunk : ChunkValue → CChunk
c_chunk c = record { lo = c.span.lo; hi = c.span.hi; number = c.number; sub = c.sub; source = c.source; dest = c.dest }

-- the chunk of the span, if the numbers lie within their limits
abbrev pub chunk_on : CChunk → Interval → Option ChunkValue
chunk_on c span = if nat_lt c.source part_limit && nat_lt c.dest part_limit then chunk_of c.number c.sub c.source c.dest span else None

-- the chunk of these numbers, if there is one
abbrev pub chunk_in : CChunk → Option ChunkValue
chunk_in c = if nat_le c.hi top then option_and_then (chunk_on c) (span_at c.lo c.hi) else None

-- ---- replies

abbrev pub answer_with : ℕ → ℕ → ℕ → CAnswer
answer_with reply part number = record { reply = reply; part = part; number = number }

abbrev pub c_answer : Reply → CAnswer
c_answer Held = answer_with 0 0 0
c_answer (Moved dest number) = answer_with 1 dest number
c_answer (Pending source) = answer_with 2 source 0
c_answer Behind = answer_with 3 0 0
c_answer (Elsewhere dest) = answer_with 4 dest 0
