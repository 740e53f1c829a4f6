use Rattle.std.proofs.Common.{◌≡◌, ◌∷◌, ◌+◌, ◌||◌, ℕ, drop, ap, subst, ◌∙◌, rules}
use Rattle.squall_span.specs.Spans.{has, spans_beyond}
use Rattle.squall_span.specs.Within.{spans_before}
use Rattle.squall_span.proofs.Places.{from_place}
use Rattle.squall_span.proofs.Nearing.{Beside, beside_more}
use Rattle.squall_span.proofs.near.listed_near.Goals as goal

pub loop-span-preserved : goal.loop-span-preserved
loop-span-preserved c =
    let s = c.span-item.result in
    let there = c.args.set.now in
    let rest : drop c.loop-span.span-index c.args.own.now ≡ s ∷ drop (c.loop-span.span-index + 1) c.args.own.now = from_place c.args.own.now c.loop-span.span-index s (search rules) (search rules) in
    let here = subst (Beside c.args.own.now there c.loop-span.list.items) rest c.loop-span.invariant in
    let keys : (k : ℕ) → has c.add_below.new.list.items k ≡ (has c.loop-span.list.items k || has (spans_before s.hi (spans_beyond s.lo there)) k) =
    λ k. c.in_ok-add_below.ensures.keys k ∙ (λ i. has c.loop-span.list.items k || has (spans_before (c.hi.ensures.value i) (c.spans_beyond.ensures.value i)) k) ∙ ap (λ b. has c.loop-span.list.items k || has (spans_before s.hi (spans_beyond b there)) k) c.lo.ensures.value in
    beside_more c.args.own.now there c.loop-span.list.items (drop (c.loop-span.span-index + 1) c.args.own.now) c.add_below.new.list.items s
    c.spans_beyond.ensures.set.0 c.in_ok-add_below.ensures.set here keys
