-- The keys of a chunk that are new to a partition.
use Rattle.std.proofs.Common.{◌≡◌, ℕ, ◌<◌, ◌≤◌, ◌||◌, ◌&&◌, not, Bool, true, false, List, [], ◌∷◌, get_or, refl, sym, ap, ◌∙◌}
use Rattle.std.proofs.Math.Bool.{or-false, and-true}
use Rattle.squall_key.specs.Keys.{top}
use Rattle.squall_span.specs.Spans.{Interval, has, span_has, minus}
use Rattle.squall_span.specs.SpanLaws.{has-minus, has-union, set-minus}
use Rattle.squall_protocol.specs.Chunks.{ChunkValue}
use Rattle.squall_part.specs.Parts.{PartValue, Log, IsPart, loaded_in, loaded_by}
use Rattle.squall_part.specs.Loading.{AllLoaded, is_new, after_load}
use Rattle.squall_part.specs.Steps.{IsLoadPlace}
use Rattle.squall_part.proofs.Known.{log_at}
use Rattle.squall_part.proofs.Changed.{one_set, loaded_set}

-- no key is new of a chunk that was loaded before
pub none_new : (p : PartValue) (c : ChunkValue) (k : ℕ) → AllLoaded p c → false ≡ is_new p c k
none_new p c k all = by (span_has c.span k) (has (loaded_by p c.number) k) (all k)
  where
    by : (inside loaded : Bool) → (inside ≡ true → loaded ≡ true) → false ≡ ((inside && not loaded) && not (has p.held k))
    by true loaded here = ap (λ b. not b && not (has p.held k)) (sym (here refl))
    by false loaded here = refl

-- the keys of the chunk that the log of its course and the held keys lack
pub missing_are : (p : PartValue) (c : ChunkValue) (at : ℕ) (d : Log) (keys unloaded missing loaded : List Interval) → IsPart p → IsLoadPlace p c at
    → loaded ≡ (get_or p.logs at d).loaded → keys ≡ c.span ∷ [] → ((k : ℕ) → has unloaded k ≡ (has keys k && not (has loaded k)))
    → ((k : ℕ) → has missing k ≡ (has unloaded k && not (has p.held k))) → (k : ℕ) → has missing k ≡ is_new p c k
missing_are p c at d keys unloaded missing loaded is place e f g h k =
    h k ∙ ap (λ x. x && not (has p.held k)) (
    g k ∙ ap (λ s. has s k && not (has loaded k)) f ∙ ap (λ x. x && not (has loaded k)) (or-false (span_has c.span k))
    ∙ ap (λ s. span_has c.span k && not (has s k)) (e ∙ sym (ap loaded_in (log_at p c.number place.0 at d is place.1 place.2))))

-- a load adds the new keys to those that are held
pub added : (p : PartValue) (c : ChunkValue) (k : ℕ) → IsPart p → c.span.lo < c.span.hi → c.span.hi ≤ top → has (after_load p c).held k ≡ (has p.held k || is_new p c k)
added p c k is lt le =
    let loaded = loaded_by p c.number in
    has-union p.held (minus (c.span ∷ []) loaded) k is.held.0 (set-minus (c.span ∷ []) loaded (one_set c.span lt le) (loaded_set p.logs c.number is.logs)).0
    ∙ ap (λ x. has p.held k || x) (has-minus (c.span ∷ []) loaded k ∙ ap (λ x. x && not (has loaded k)) (or-false (span_has c.span k)))
    ∙ by (has p.held k) (span_has c.span k && not (has loaded k))
  where
    by : (held there : Bool) → (held || there) ≡ (held || (there && not held))
    by true there = refl
    by false there = sym (and-true there)
