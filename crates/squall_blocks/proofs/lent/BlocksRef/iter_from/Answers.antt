use Rattle.std.proofs.Common.{◌∙◌, sym, subst, ap, ◌+◌, refl, drop}
use Rattle.squall_blocks.specs.Entries.{RiseFrom, beyond}
use Rattle.squall_blocks.proofs.Blocked.{rises_by, sought_by, none_beyond, read_rises}
use Rattle.squall_blocks.proofs.Iterating.{full_rest, walk_is}
use Rattle.squall_blocks.proofs.lent.BlocksRef.iter_from.Goals as goal

pub ended-at-requires : goal.ended-at-requires
ended-at-requires g c = rises_by c.self.inside.lasts.now c.self.inside.lasts.now c.self.inside.blocks.now c.self.invariant refl

pub returns-then-at-self : goal.returns-then-at-self
returns-then-at-self g c =
    let m = sought_by c.self.inside.lasts.now c.self.inside.lasts.now c.self.inside.blocks.now c.args.key c.ended-at.result c.self.invariant refl c.ended-at.ensures in
    c.over.ensures ∙ sym (ap (beyond c.args.key) (sym c.self.view_is)
    ∙ none_beyond c.args.key c.self.inside.blocks.now c.ended-at.result c.self.invariant.full c.self.invariant.rise m c.if-at-self.true)

pub ended-place-requires : goal.ended-place-requires
ended-place-requires g c =
    subst (RiseFrom 0) c.index-self-at.is (read_rises c.self.inside.blocks.now c.ended-at.result c.index-self-at.result c.self.invariant.rise c.if-at-self.false c.index-self-at.is)

pub over-requires-2-clause-full : goal.over-requires-2-clause-full
over-requires-2-clause-full g c = full_rest c.self.inside.blocks.now c.self.inside.blocks.now (c.ended-at.result + 1) c.self.invariant.full refl

pub returns : goal.returns
returns g c =
    let m = sought_by c.self.inside.lasts.now c.self.inside.lasts.now c.self.inside.blocks.now c.args.key c.ended-at.result c.self.invariant refl c.ended-at.ensures in
    c.over-2.ensures
    ∙ walk_is c.self.inside.blocks.now c.self.inside.blocks.now c.lists.result.0.now c.lists.result.1.now c.index-self-at.result c.args.key c.ended-at.result c.ended-place.result c.self.invariant.full c.self.invariant.rise m
    c.if-at-self.false c.index-self-at.is (ap (beyond c.args.key) c.index-self-at.is ∙ c.ended-place.ensures.beyond ∙ ap (λ l. drop c.ended-place.result l) (sym c.index-self-at.is)) (c.lists.ensures.both ∙ sym c.index-self-at.is) refl
    ∙ ap (beyond c.args.key) c.self.view_is
