use Rattle.std.proofs.Common.{◌∙◌, [], sym, subst, ap, refl}
use Rattle.std.proofs.lemmas.List.{get_or_read, get_or_past}
use Rattle.squall_blocks.specs.Entries.{RiseFrom, up_to, last_from}
use Rattle.squall_blocks.proofs.Blocked.{rises_by, sought_by, read_rises, ends_before}
use Rattle.squall_blocks.proofs.lent.BlocksRef.end_before.Goals as goal

pub ended-at-requires : goal.ended-at-requires
ended-at-requires g c = rises_by c.self.inside.lasts.now c.self.inside.lasts.now c.self.inside.blocks.now c.self.invariant refl

pub end_before-requires : goal.end_before-requires
end_before-requires g c =
    subst (RiseFrom 0) c.index-self-at.is (read_rises c.self.inside.blocks.now c.ended-at.result c.index-self-at.result c.self.invariant.rise c.if-at-self.false c.index-self-at.is)

pub returns-then-at-self : goal.returns-then-at-self
returns-then-at-self g c =
    let m = sought_by c.self.inside.lasts.now c.self.inside.lasts.now c.self.inside.blocks.now c.args.key c.ended-at.result c.self.invariant refl c.ended-at.ensures in
    ends_before c.self.inside.lasts.now c.self.inside.lasts.now c.self.inside.blocks.now [] c.args.key c.ended-at.result c.last_before-last.result c.last_before-last.result c.args.least c.self.invariant refl m
    c.last_before-last.ensures.none c.last_before-last.ensures.some (sym (get_or_past c.self.inside.blocks.now c.ended-at.result [] c.if-at-self.true)) refl
    ∙ ap (λ l. last_from c.args.least (up_to c.args.key l)) c.self.view_is

pub returns : goal.returns
returns g c =
    let m = sought_by c.self.inside.lasts.now c.self.inside.lasts.now c.self.inside.blocks.now c.args.key c.ended-at.result c.self.invariant refl c.ended-at.ensures in
    ends_before c.self.inside.lasts.now c.self.inside.lasts.now c.self.inside.blocks.now c.index-self-at.result c.args.key c.ended-at.result c.last_before-last.result c.end_before.result c.args.least c.self.invariant refl m
    c.last_before-last.ensures.none c.last_before-last.ensures.some (get_or_read c.self.inside.blocks.now c.ended-at.result c.index-self-at.result c.if-at-self.false c.index-self-at.is [])
    (c.end_before.ensures ∙ ap (λ l. last_from c.last_before-last.result (up_to c.args.key l)) (sym c.index-self-at.is))
    ∙ ap (λ l. last_from c.args.least (up_to c.args.key l)) c.self.view_is
