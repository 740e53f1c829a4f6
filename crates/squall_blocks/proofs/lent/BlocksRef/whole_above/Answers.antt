use Rattle.std.proofs.Common.{[], ◌≡◌, ◌∙◌, sym, subst, ap, refl}
use Rattle.std.proofs.lemmas.List.{get_or_read}
use Rattle.std.specs.Prelude.{slice_get, IfSome}
use Rattle.squall_blocks.specs.Entries.{RiseFrom, beyond, up_to, last_from}
use Rattle.squall_blocks.proofs.Blocked.{rises_by, sought_by, none_beyond, first_beyond, read_rises, ends_before}
use Rattle.squall_blocks.proofs.lent.BlocksRef.whole_above.Goals as goal

pub ended-at-requires : goal.ended-at-requires
ended-at-requires g c = rises_by c.self.inside.lasts.now c.self.inside.lasts.now c.self.inside.blocks.now c.self.invariant refl

pub returns-then-at-self-clause-entry : goal.returns-then-at-self-clause-entry
returns-then-at-self-clause-entry g c =
    let m = sought_by c.self.inside.lasts.now c.self.inside.lasts.now c.self.inside.blocks.now c.args.key c.ended-at.result c.self.invariant refl c.ended-at.ensures in
    sym (ap (λ l. slice_get (beyond c.args.key l) 0) (sym c.self.view_is)
    ∙ ap (λ l. slice_get l 0) (none_beyond c.args.key c.self.inside.blocks.now c.ended-at.result c.self.invariant.full c.self.invariant.rise m c.if-at-self.true))

pub whole_above-requires : goal.whole_above-requires
whole_above-requires g c =
    subst (RiseFrom 0) c.index-self-at.is (read_rises c.self.inside.blocks.now c.ended-at.result c.index-self-at.result c.self.invariant.rise c.if-at-self.false c.index-self-at.is)

pub returns-clause-begin : goal.returns-clause-begin
returns-clause-begin g c =
    let m = sought_by c.self.inside.lasts.now c.self.inside.lasts.now c.self.inside.blocks.now c.args.key c.ended-at.result c.self.invariant refl c.ended-at.ensures in
    let last = c.last_before-last.result in
    let here = ap (λ l. last_from last (up_to c.args.key l)) (sym c.index-self-at.is) in
    let there =
    ends_before c.self.inside.lasts.now c.self.inside.lasts.now c.self.inside.blocks.now c.index-self-at.result c.args.key c.ended-at.result last (last_from last (up_to c.args.key c.index-self-at.result)) c.args.least c.self.invariant refl m
    c.last_before-last.ensures.none c.last_before-last.ensures.some (get_or_read c.self.inside.blocks.now c.ended-at.result c.index-self-at.result c.if-at-self.false c.index-self-at.is []) refl in
    subst (λ n. IfSome c.whole_above.result (λ l. l.0 ≡ n)) (here ∙ there ∙ ap (λ l. last_from c.args.least (up_to c.args.key l)) c.self.view_is) c.whole_above.ensures.begin

pub returns-clause-entry : goal.returns-clause-entry
returns-clause-entry g c =
    let m = sought_by c.self.inside.lasts.now c.self.inside.lasts.now c.self.inside.blocks.now c.args.key c.ended-at.result c.self.invariant refl c.ended-at.ensures in
    c.whole_above.ensures.entry
    ∙ ap (λ l. slice_get (beyond c.args.key l) 0) (sym c.index-self-at.is)
    ∙ first_beyond c.args.key c.self.inside.blocks.now c.ended-at.result c.index-self-at.result c.self.invariant.full c.self.invariant.rise m c.if-at-self.false c.index-self-at.is
    ∙ ap (λ l. slice_get (beyond c.args.key l) 0) c.self.view_is
