-- Chunks that were given, and where each is. Only contracts of private functions use these definitions.
use Rattle.std.specs.Prelude.{◌≡◌, ℕ, List, Some}
use Rattle.std.specs.List.{slice_get}
use Rattle.std.specs.declared.cmp.Ordering.{Ordering}
use Rattle.std.specs.BTreeMap.{BTreeMap, get}
use Rattle.squall_protocol.specs.Chunks.{ChunkValue}
use Rattle.squall_judge.specs.declared.content.Content.{Content}
use Rattle.squall_judge.specs.contracts.content.ContentOrd.TheImpl as content_ord

-- the order of what is in chunks
abbrev pub contents : Content → Content → Ordering
contents = (content_ord.ghosts).cmp

-- what is in a chunk, each part of it by itself
abbrev pub content_of : ChunkValue → Content
content_of x = record { number = x.number; sub = x.sub; source = x.source; dest = x.dest; lo = x.span.lo; hi = x.span.hi }

-- the map leads from what is in a chunk of the list to an index of that chunk
abbrev pub AreFound : List ChunkValue → BTreeMap Content ℕ → Type 0
AreFound chunks places = (i : ℕ) (x : ChunkValue) → slice_get chunks i ≡ Some x → (j : ℕ) × (get contents places (content_of x) ≡ Some j) × (slice_get chunks j ≡ Some x)
