use Rattle.std.proofs.Common.{◌∙◌, sym, subst, ap, refl}
use Rattle.std.specs.Prelude.{slice_get}
use Rattle.squall_blocks.specs.Entries.{RiseFrom, beyond}
use Rattle.squall_blocks.proofs.Blocked.{rises_by, sought_by, none_beyond, first_beyond, read_rises}
use Rattle.squall_blocks.proofs.lent.BlocksRef.above.Goals as goal

pub ended-at-requires : goal.ended-at-requires
ended-at-requires g c = rises_by c.self.inside.lasts.now c.self.inside.lasts.now c.self.inside.blocks.now c.self.invariant refl

pub returns-then-at-self : goal.returns-then-at-self
returns-then-at-self g c =
    let m = sought_by c.self.inside.lasts.now c.self.inside.lasts.now c.self.inside.blocks.now c.args.key c.ended-at.result c.self.invariant refl c.ended-at.ensures in
    sym (ap (λ l. slice_get (beyond c.args.key l) 0) (sym c.self.view_is)
    ∙ ap (λ l. slice_get l 0) (none_beyond c.args.key c.self.inside.blocks.now c.ended-at.result c.self.invariant.full c.self.invariant.rise m c.if-at-self.true))

pub above-requires : goal.above-requires
above-requires g c =
    subst (RiseFrom 0) c.index-self-at.is (read_rises c.self.inside.blocks.now c.ended-at.result c.index-self-at.result c.self.invariant.rise c.if-at-self.false c.index-self-at.is)

pub returns : goal.returns
returns g c =
    let m = sought_by c.self.inside.lasts.now c.self.inside.lasts.now c.self.inside.blocks.now c.args.key c.ended-at.result c.self.invariant refl c.ended-at.ensures in
    c.above.ensures
    ∙ ap (λ l. slice_get (beyond c.args.key l) 0) (sym c.index-self-at.is)
    ∙ first_beyond c.args.key c.self.inside.blocks.now c.ended-at.result c.index-self-at.result c.self.invariant.full c.self.invariant.rise m c.if-at-self.false c.index-self-at.is
    ∙ ap (λ l. slice_get (beyond c.args.key l) 0) c.self.view_is
