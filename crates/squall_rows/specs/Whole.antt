-- A chunk is loaded whole, or not at all (this project).
use Rattle.std.specs.Prelude.{◌≡◌, ℕ, true, Some}
use Rattle.std.specs.List.{slice_get}
use Rattle.squall_span.specs.Spans.{span_has}
use Rattle.squall_protocol.specs.Chunks.{ChunkValue}
use Rattle.squall_protocol.specs.Worlds.{WorldValue}
use Rattle.squall_protocol.specs.Promises.{IsReached}

-- of any two keys of a chunk both are loaded, or neither is
abbrev pub ChunksLoadWhole : Type 0
ChunksLoadWhole =
    (w : WorldValue) (i j k : ℕ) (x : ChunkValue) → IsReached w → slice_get w.chunks i ≡ Some x → span_has x.span j ≡ true → span_has x.span k ≡ true
    → w.loaded x.number x.dest j ≡ w.loaded x.number x.dest k
