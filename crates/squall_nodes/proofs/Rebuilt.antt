-- A partition that is rebuilt stands for what the one before it stood for.
use Rattle.std.proofs.Common.{◌≡◌, ℕ, sym, ap, subst, ◌∙◌}
use Rattle.squall_span.specs.Spans.{has}
use Rattle.squall_report.specs.Queries.{SameQueries}
use Rattle.squall_board.specs.BoardQueries.{queries_of}
use Rattle.squall_protocol.specs.declared.event.Node.TheVariants.{Part}
use Rattle.squall_protocol.specs.Worlds.{WorldValue}
use Rattle.squall_part.specs.Parts.{PartValue}
use Rattle.squall_replay.specs.Calls.{IsSamePart}
use Rattle.squall_nodes.specs.Standing.{StandsForPart}

pub rebuilt_stands : (w : WorldValue) (p : ℕ) (a c : PartValue) → StandsForPart w p a → IsSamePart a c → StandsForPart w p c
rebuilt_stands w p a c x same = record {
  there = x.there;
  limit = x.limit;
  id = sym same.id ∙ x.id;
  first = x.first ∙ same.first;
  told = subst (λ board. SameQueries (w.facts (Part p)) (queries_of board)) same.board x.told;
  held = λ k. x.held k ∙ ap (λ s. has s k) same.held;
  closed = λ n. x.closed n ∙ same.closed n;
  given = λ n k. x.given n k ∙ ap (λ s. has s k) (same.given n);
  loaded = λ n k. x.loaded n k ∙ ap (λ s. has s k) (same.loaded n);
}
