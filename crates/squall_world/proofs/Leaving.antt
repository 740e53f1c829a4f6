-- Where keys are, as partitions find it out: a course begins from a plan that has them there.
use Rattle.std.proofs.Common.{◌≡◌, ◌≢◌, ℕ, ◌<◌, ◌≤◌, Bool, true, false, List, [], ◌∷◌, Option, None, Some, Ok, refl, sym, ap, subst, ◌∙◌, inl, inr, ⊎_elim, arith}
use Rattle.std.specs.Prelude.{is_some}
use Rattle.std.specs.List.{AllByRecursion}
use Rattle.std.proofs.lemmas.Bool.{cases_lt, false≢true}
use Rattle.squall_key.specs.Keys.{top}
use Rattle.squall_span.specs.Spans.{has, span_has}
use Rattle.squall_span.specs.SpanLaws.{inside}
use Rattle.squall_plan.specs.declared.range.PlanRange.{PlanRange}
use Rattle.squall_plan.specs.Ranges.{owner_of, IsTiling, AreRanges}
use Rattle.squall_plan.specs.PlanLaws.{owner_first, owner_later}
use Rattle.squall_course.specs.Change.{Change}
use Rattle.squall_course.specs.Subplans.{moves}
use Rattle.squall_course.proofs.Moved.{within as within_span}
use Rattle.squall_part.specs.Parts.{PartValue, closed_by}
use Rattle.squall_protocol.specs.declared.event.Node.TheVariants.{Part}
use Rattle.squall_protocol.specs.declared.answer.Answer.{Answer}
use Rattle.squall_protocol.specs.declared.answer.Answer.TheVariants.{Begun, Refused}
use Rattle.squall_protocol.specs.declared.answer.Refusal.TheVariants.{Running, NoNumber}
use Rattle.squall_protocol.specs.Worlds.{WorldValue, is_part, last_course}
use Rattle.squall_protocol.specs.Steps.{IsPlan, LeavesAt, IsWhereLeft, HoldsOwn, BeginFromStep}
use Rattle.squall_protocol.specs.Promises.{IsReached}
use Rattle.squall_protocol.proofs.ProtocolLaws.{holder_there, left_held, own_left, moves_apart, apart_moves}
use Rattle.squall_world.specs.Nets.{NetValue, PeerValue, IsNet, place_of, newest_of}
use Rattle.squall_world.specs.Views.{view}
use Rattle.squall_world.specs.Acts.{Loses, HasKeys}
use Rattle.squall_world.specs.Events.{HasPart, HasRange, IsLeftIn, IsBeginFromIn}
use Rattle.squall_world.proofs.Courses.{last_seen}
use Rattle.squall_world.proofs.Nodes.{part_there, part_seen_there}
use Rattle.squall_world.proofs.Seen.{part_stands, still}
use Rattle.squall_world.proofs.Beginning.{course_keeps, course_from_steps}

-- ---- the range of a key

-- a key of a tiling lies in a range of it, whose partition is its owner
record InRange (P : PlanRange → Type 0) (rs : List PlanRange) (k : ℕ) : Type 0 where
  range : PlanRange
  is : P range
  keys : span_has range.span k ≡ true
  owner : owner_of rs k ≡ range.part

in_tiling : (P : PlanRange → Type 0) (rs : List PlanRange) (from to k : ℕ) → IsTiling from to rs → AllByRecursion P rs → from ≤ k → k < to → InRange P rs k
in_tiling P [] from to k tiles all ge lt = let same : from ≡ to = tiles in absurd (omega (arith, ge, lt, same))
in_tiling P (r ∷ rs) from to k tiles all ge lt = elim (cases_lt k r.span.hi) [
  | inl below ↦
      let low : r.span.lo ≤ k = (let at : r.span.lo ≡ from = tiles.0 in omega (arith, ge, at)) in
      record { range = r; is = all.0; keys = inside r.span k low below; owner = owner_first k r rs low below }
  | inr above ↦
      let rest = in_tiling P rs r.span.hi to k tiles.2 all.1 above lt in
      record { range = rest.range; is = rest.is; keys = rest.keys; owner = owner_later k r rs above ∙ rest.owner }
]

-- ---- what the world says of a key that is left

module _ (w : WorldValue) (reached : IsReached w) (k p : ℕ) (key : k < top) (left : LeavesAt w w.last k p) where
  -- the partition at which it is left is there
  pub left_there : is_part w p ≡ true
  left_there = holder_there w reached p k key (left_held w reached k p key left)

  -- if it is to leave that partition, that gives no more
  pub left_closed : owner_of (w.old w.last) k ≢ owner_of (w.new w.last) k → owner_of (w.old w.last) k ≡ p → w.closed w.last p ≡ true
  left_closed moving from = ⊎_elim
      (λ (x : (p ≡ owner_of (w.new w.last) k) × (owner_of (w.old w.last) k ≢ owner_of (w.new w.last) k → w.loaded w.last p k ≡ true)). absurd (moving (from ∙ x.0)))
      (λ (x : (p ≡ owner_of (w.old w.last) k) × (owner_of (w.old w.last) k ≢ owner_of (w.new w.last) k) × (w.given w.last p k ≡ false) × (w.closed w.last p ≡ true)). x.3)
      left

module _ (n : NetValue) (net : IsNet n) (reached : IsReached (view n)) where
  -- ---- from ranges to keys

  -- the partition of a key holds it, and gives no more if the key is to leave it
  record HasKey (p k : ℕ) : Type 0 where
    held : (view n).held p k ≡ true
    closed : owner_of ((view n).old (view n).last) k ≢ owner_of ((view n).new (view n).last) k → owner_of ((view n).old (view n).last) k ≡ p → (view n).closed (view n).last p ≡ true

  has_key : (r : PlanRange) (k : ℕ) → HasRange n r → span_has r.span k ≡ true → HasKey r.part k
  has_key r k x keys =
      let stands = part_stands n r.part x.at x.peer x.part net x.has in
      record {
        held = stands.held k ∙ x.keys.held k keys;
        closed = λ moving from.
            let last = last_seen n net in
            stands.closed (view n).last
            ∙ ap (λ (c : Change). closed_by x.part c.number) last
            ∙ x.keys.closed (k, keys, subst (λ (c : Change). moves c.old c.new k ≡ true) last (moves_apart ((view n).old (view n).last) ((view n).new (view n).last) k moving), subst (λ (c : Change). owner_of c.old k ≡ r.part) last from);
      }

  pub left_in : (old : List PlanRange) → IsPlan old → IsLeftIn n old → IsWhereLeft (view n) old
  left_in old is all = own_left (view n) reached old (λ p. record {
    held = λ k key owner. (at p k key owner).held;
    closed = λ k key owner moving from. (at p k key owner).closed moving from;
  })
    where
      at : (p k : ℕ) → k < top → owner_of old k ≡ p → HasKey p k
      at p k key owner =
          let r = in_tiling (HasRange n) old 0 top k is.canonical.tiles all (omega arith) key in
          subst (λ q. HasKey q k) (sym r.owner ∙ owner) (has_key r.range k r.is r.keys)

  -- ---- from keys to ranges

  found : (p : ℕ) (o : Option ℕ) → place_of n (Part p) ≡ o → is_some o ≡ true → (at : ℕ) × (peer : PeerValue) × (a : PartValue) × HasPart n p at peer a
  found p None e is = absurd (false≢true is)
  found p (Some at) e is = let t = part_there n p at net e in (at, t.peer, t.part, record { place = e; there = t.there; role = t.role; id = t.id })

  range_in : (r : PlanRange) → r.span.lo < r.span.hi → r.span.hi ≤ top → ((k : ℕ) → span_has r.span k ≡ true → LeavesAt (view n) (view n).last k r.part) → HasRange n r
  range_in r some high left =
      let first : span_has r.span r.span.lo ≡ true = inside r.span r.span.lo (omega arith) some in
      let there = left_there (view n) reached r.span.lo r.part (omega (arith, some, high)) (left r.span.lo first) in
      let f = found r.part (place_of n (Part r.part)) refl (sym (part_seen_there n r.part) ∙ there) in
      let stands = part_stands n r.part f.0 f.1 f.2 net f.3 in
      let last = last_seen n net in
      record {
        at = f.0;
        peer = f.1;
        part = f.2;
        has = f.3;
        keys = record {
          held = λ k keys. sym (stands.held k) ∙ left_held (view n) reached k r.part (low k keys) (left k keys);
          closed = λ x.
              let moving = apart_moves ((view n).old (view n).last) ((view n).new (view n).last) x.0 (subst (λ (c : Change). moves c.old c.new x.0 ≡ true) (sym last) x.2) in
              let from = subst (λ (c : Change). owner_of c.old x.0 ≡ r.part) (sym last) x.3 in
              ap (λ (c : Change). closed_by f.2 c.number) (sym last) ∙ sym (stands.closed (view n).last) ∙ left_closed (view n) reached x.0 r.part (low x.0 x.1) (left x.0 x.1) moving from;
        };
      }
    where
      low : (k : ℕ) → span_has r.span k ≡ true → k < top
      low k keys = let b = within_span r.span k keys in omega (arith, b, high)

  ranges_in : (rs : List PlanRange) (from : ℕ) → IsTiling from top rs → AreRanges rs → ((k : ℕ) → from ≤ k → k < top → LeavesAt (view n) (view n).last k (owner_of rs k)) → AllByRecursion (HasRange n) rs
  ranges_in [] from tiles are left = tt
  ranges_in (r ∷ rs) from tiles are left = (
    range_in r tiles.1 are.0.1 (λ k keys.
        let b = within_span r.span k keys in
        let at : r.span.lo ≡ from = tiles.0 in
        let high : r.span.hi ≤ top = are.0.1 in
        subst (LeavesAt (view n) (view n).last k) (owner_first k r rs b.0 b.1) (left k (omega (arith, at, b)) (omega (arith, b, high)))),
    ranges_in rs r.span.hi tiles.2 are.1 (λ k ge lt. subst (LeavesAt (view n) (view n).last k) (owner_later k r rs ge) (left k (let at : r.span.lo ≡ from = tiles.0 in let some : r.span.lo < r.span.hi = tiles.1 in omega (arith, at, some, ge)) lt)),
  )

  pub in_left : (old : List PlanRange) → IsPlan old → IsWhereLeft (view n) old → IsLeftIn n old
  in_left old is left = ranges_in old 0 is.canonical.tiles is.ranges (λ k ge lt. left k lt)

-- ---- the step

pub begin_from_keeps : (n : NetValue) (old new : List PlanRange) (answer : Answer) (m : NetValue) → IsNet n → IsBeginFromIn n old new (Ok answer) m → IsNet m
begin_from_keeps n old new (Refused Running) m net h = subst IsNet (sym h.1) net
begin_from_keeps n old new (Refused NoNumber) m net h = course_keeps n old new (Refused NoNumber) m net h.1
begin_from_keeps n old new (Begun number parts) m net h = course_keeps n old new (Begun number parts) m net h.1
begin_from_keeps n old new _ m net h = absurd h.1

pub begin_from_steps : (n : NetValue) (old new : List PlanRange) (answer : Answer) (m : NetValue) → IsNet n → IsReached (view n) → IsPlan old → IsBeginFromIn n old new (Ok answer) m → BeginFromStep (view n) old new answer (view m)
begin_from_steps n old new (Refused Running) m net reached is h = ((λ left. h.0 (in_left n net reached old is left)), still n m h.1)
begin_from_steps n old new (Refused NoNumber) m net reached is h = course_from_steps n old new (Refused NoNumber) m net (left_in n net reached old is h.0) h.1
begin_from_steps n old new (Begun number parts) m net reached is h = course_from_steps n old new (Begun number parts) m net (left_in n net reached old is h.0) h.1
begin_from_steps n old new _ m net reached is h = absurd h.1
