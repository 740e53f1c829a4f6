use Rattle.std.proofs.Common.{sym, subst, ◌∷◌, []}
use Rattle.squall_span.proofs.Merging.{Merging, merging_pushed, merging_next, merging_starts, merging_done}
use Rattle.squall_span.proofs.sweep.push_spans.Goals as goal

pub loop-next-init : goal.loop-next-init
loop-next-init c =
    subst (λ l. Merging c.args.out.now.items (c.args.span ∷ c.args.rest) c.push_span.new.out.items l []) (sym c.into_iter-next-iterator.ensures.into_iter_gives)
    (merging_pushed c.args.out.now.items c.push_span.new.out.items c.args.rest c.args.span c.requires.canonical c.requires.starts c.requires.rest c.in_ok-push_span.ensures)

pub push_span-requires-in-loop-next-clause-starts : goal.push_span-requires-in-loop-next-clause-starts
push_span-requires-in-loop-next-clause-starts c =
    merging_starts c.args.out.now.items (c.args.span ∷ c.args.rest) c.loop-next.out.items c.loop-next.next-iterator c.next.new.self c.in-Some.next c.in-Some.ensures.steps c.loop-next.invariant

pub loop-next-preserved : goal.loop-next-preserved
loop-next-preserved c =
    merging_next c.args.out.now.items (c.args.span ∷ c.args.rest) c.loop-next.out.items c.push_span-in-loop-next.new.out.items c.loop-next.next-iterator c.next.new.self c.in-Some.next c.in-Some.ensures.steps c.in_ok-push_span-2.ensures c.loop-next.invariant

pub returns : goal.returns
returns c =
    merging_done c.args.out.now.items (c.args.span ∷ c.args.rest) c.loop-next.out.items c.loop-next.next-iterator c.requires.canonical c.requires.rest c.in-None.ensures.steps.0 c.loop-next.invariant
