-- What a node of the C library gives, loads, finishes and replies (this project).
use Rattle.std.specs.Prelude.{◌≡◌, ℕ, nat_lt, nat_le, Bool, true, false, List, Option, None, Some, Result, Ok, Err}
use Rattle.squall_key.specs.Keys.{top}
use Rattle.squall_span.specs.Spans.{Interval, first_span, spans_beyond}
use Rattle.squall_c_values.specs.declared.spans.CSpan.{CSpan}
use Rattle.squall_c_values.specs.Values.{c_span}
use Rattle.squall_report.specs.declared.report.ReportKind.{ReportKind}
use Rattle.squall_report.specs.Issues.{PlanPair}
use Rattle.squall_errand.specs.declared.errand.Reply.{Reply}
use Rattle.squall_protocol.specs.Chunks.{ChunkValue}
use Rattle.squall_part.specs.declared.giving.GiveFault.{GiveFault}
use Rattle.squall_part.specs.declared.loading.Load.{Load}
use Rattle.squall_part.specs.declared.loading.LoadFault.{LoadFault}
use Rattle.squall_part.specs.declared.finishing.FinishFault.{FinishFault}
use Rattle.squall_part.specs.Parts.{PartValue, course_of_part}
use Rattle.squall_part.specs.Giving.{IsGiven, IsGivenAt, after_close}
use Rattle.squall_part.specs.Loading.{IsLoaded, IsFresh, IsFinished}
use Rattle.squall_part.specs.Serving.{IsReply}
use Rattle.squall_c_parts.specs.declared.chunks.CChunk.{CChunk}
use Rattle.squall_c_parts.specs.declared.chunks.CAnswer.{CAnswer}
use Rattle.squall_c_parts.specs.PartStatus.{ok, limit, give_status, load_status, fresh_status, finish_status}
use Rattle.squall_c_parts.specs.PartValues.{c_chunk, chunk_in, c_answer}
use Rattle.squall_c_parts.specs.Nodes.{NodeValue, with_part}

-- ---- gifts

-- the chunk that is given is written, and else nothing
abbrev pub chunk_after : Result ChunkValue GiveFault → CChunk → CChunk
chunk_after (Ok chunk) before = c_chunk chunk
chunk_after (Err fault) before = before

-- the partition gives as this relation says, its chunk is written, and the status says how it ended
pub record GivesSo (IsAnswer : PartValue → Result ChunkValue GiveFault → PartValue → Type 0) (old : NodeValue) (before : CChunk) (new : NodeValue) (after : CChunk) (status : ℕ) : Type 0 where
  pub answer : Result ChunkValue GiveFault
  pub part : PartValue
  pub is : IsAnswer old.part answer part
  pub node : new ≡ with_part old part
  pub chunk : after ≡ chunk_after answer before
  pub told : status ≡ give_status answer

-- the first keys, at most so many
abbrev pub Gives : ℕ → NodeValue → CChunk → NodeValue → CChunk → ℕ → Type 0
Gives most old before new after status = GivesSo (λ p answer q. IsGiven p most answer q) old before new after status

-- one key, if the rank is one of a key
abbrev pub gives_at_if : Bool → ℕ → NodeValue → CChunk → NodeValue → CChunk → ℕ → Type 0
gives_at_if true rank old before new after status = GivesSo (λ p answer q. IsGivenAt p rank answer q) old before new after status
gives_at_if false rank old before new after status = (status ≡ limit) × (new ≡ old) × (after ≡ before)

abbrev pub GivesAt : ℕ → NodeValue → CChunk → NodeValue → CChunk → ℕ → Type 0
GivesAt rank old before new after status = gives_at_if (nat_lt rank top) rank old before new after status

-- the partition closes the newest course that it knows, and answers the number of that course
abbrev pub Closes : NodeValue → NodeValue → ℕ → Type 0
Closes old new number = (number ≡ (course_of_part old.part).number) × (new ≡ with_part old (after_close old.part))

-- ---- loads

-- the partition takes the chunk, and the status says how it ended
pub record LoadsChunk (chunk : ChunkValue) (old new : NodeValue) (status : ℕ) : Type 0 where
  pub answer : Result Load LoadFault
  pub part : PartValue
  pub is : IsLoaded old.part chunk answer part
  pub node : new ≡ with_part old part
  pub told : status ≡ load_status answer

abbrev pub loads_in : Option ChunkValue → NodeValue → NodeValue → ℕ → Type 0
loads_in None old new status = (status ≡ limit) × (new ≡ old)
loads_in (Some chunk) old new status = LoadsChunk chunk old new status

-- the same of the chunk of these numbers, if there is one
abbrev pub Loads : CChunk → NodeValue → NodeValue → ℕ → Type 0
Loads chunk old new status = loads_in (chunk_in chunk) old new status

-- the span as C sees it; one without a key if there is none
abbrev pub span_or_none : Option Interval → CSpan
span_or_none (Some s) = c_span s
span_or_none None = record { lo = top; hi = top }

-- the first span of the new keys that ends above the bound is written, and nothing if the chunk may not be loaded
abbrev pub fresh_span : ℕ → Result (List Interval) LoadFault → CSpan → CSpan
fresh_span from (Ok keys) before = span_or_none (first_span (spans_beyond from keys))
fresh_span from (Err fault) before = before

-- the new keys of the chunk are looked at from the bound on, and the status says how it ended
pub record FindsFresh (chunk : ChunkValue) (from : ℕ) (n : NodeValue) (before after : CSpan) (status : ℕ) : Type 0 where
  pub answer : Result (List Interval) LoadFault
  pub is : IsFresh n.part chunk answer
  pub span : after ≡ fresh_span from answer before
  pub told : status ≡ fresh_status answer

abbrev pub finds_if : Bool → ChunkValue → ℕ → NodeValue → CSpan → CSpan → ℕ → Type 0
finds_if true chunk from n before after status = FindsFresh chunk from n before after status
finds_if false chunk from n before after status = (status ≡ limit) × (after ≡ before)

abbrev pub finds_in : Option ChunkValue → ℕ → NodeValue → CSpan → CSpan → ℕ → Type 0
finds_in None from n before after status = (status ≡ limit) × (after ≡ before)
finds_in (Some chunk) from n before after status = finds_if (nat_le from top) chunk from n before after status

-- the same of the chunk of these numbers, if there is one, and if the rank is one of a bound
abbrev pub Finds : CChunk → ℕ → NodeValue → CSpan → CSpan → ℕ → Type 0
Finds chunk from n before after status = finds_in (chunk_in chunk) from n before after status

-- the partition finishes the sub-plan, and the status says how it ended
pub record Finishes (sub : ℕ) (old new : NodeValue) (status : ℕ) : Type 0 where
  pub answer : Result (ReportKind PlanPair) FinishFault
  pub part : PartValue
  pub is : IsFinished old.part sub answer part
  pub node : new ≡ with_part old part
  pub told : status ≡ finish_status answer

-- ---- replies

-- the partition's reply is written
pub record Replies (rank number : ℕ) (n : NodeValue) (after : CAnswer) (status : ℕ) : Type 0 where
  pub reply : Reply
  pub is : IsReply n.part rank number reply
  pub answer : after ≡ c_answer reply
  pub told : status ≡ ok

abbrev pub serves_if : Bool → ℕ → ℕ → NodeValue → CAnswer → CAnswer → ℕ → Type 0
serves_if true rank number n before after status = Replies rank number n after status
serves_if false rank number n before after status = (status ≡ limit) × (after ≡ before)

-- the same, if the rank is one of a key
abbrev pub Serves : ℕ → ℕ → NodeValue → CAnswer → CAnswer → ℕ → Type 0
Serves rank number n before after status = serves_if (nat_lt rank top) rank number n before after status
