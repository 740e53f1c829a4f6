use Rattle.std.proofs.Common.{◌≡◌, ℕ, List, [], ◌∷◌, sym, subst}
use Rattle.squall_blocks.specs.Entries.{replaced}
use Rattle.squall_table.specs.declared.routes.Heard.TheVariants.{All}
use Rattle.squall_table.specs.LegEntries.{legs_from}
use Rattle.squall_table.specs.Legs.{said}
use Rattle.squall_table.specs.Patching.{IsRenewed}
use Rattle.squall_table.proofs.OneLoad.{ok_weaker}
use Rattle.squall_table.proofs.load.prepare_load.Goals as goal

pub returns-in-Ok-clause-after : goal.returns-in-Ok-clause-after
returns-in-Ok-clause-after c =
    let m = c.in-Ok.made in
    let made : IsRenewed c.args.course.now (said All) (c.args.load.span ∷ []) (legs_from 0 c.args.whole) (legs_from 0 (replaced m.lo m.hi m.fresh c.args.whole)) =
    subst (λ (es : List (ℕ × ℕ)). IsRenewed c.args.course.now (said All) (c.args.load.span ∷ []) (legs_from 0 es) (legs_from 0 (replaced m.lo m.hi m.fresh es))) c.lent.ensures c.in-Ok.ensures.legs in
    ok_weaker c.of.result (λ p. p.1 ≡ replaced m.lo m.hi m.fresh c.args.whole) (λ p. IsRenewed c.args.course.now (said All) (c.args.load.span ∷ []) (legs_from 0 c.args.whole) (legs_from 0 p.1))
    (λ p is. subst (λ (es : List (ℕ × ℕ)). IsRenewed c.args.course.now (said All) (c.args.load.span ∷ []) (legs_from 0 c.args.whole) (legs_from 0 es)) (sym is) made) c.of.ensures.after
