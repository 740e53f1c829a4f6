use Rattle.std.proofs.Common.{subst, ap, ◌∙◌}
use Rattle.squall_plan.specs.Ranges.{owner_of}
use Rattle.squall_table.specs.Legs.{Legs}
use Rattle.squall_table.specs.LegLaws.{are_legs, grown}
use Rattle.squall_table.specs.LegEntries.{legs_from}
use Rattle.squall_table.proofs.table.RouteTable.legs.Goals as goal

pub returns : goal.returns
returns c =
    let ys = c.copy_entries.new.out.items in
    let l : Legs (owner_of (legs_from 0 c.lent.result)) c.lo.result c.hi.result ys = grown _ _ _ _ _ c.new-legs.ensures.items c.in_ok-copy_entries.ensures in
    let of : Legs (owner_of c.args.self.now) c.lo.result c.hi.result ys = subst (λ ls. Legs (owner_of ls) c.lo.result c.hi.result ys) (ap (legs_from 0) c.lent.ensures ∙ c.self.view_is) l in
    let lo : Legs (owner_of c.args.self.now) c.args.span.now.lo c.hi.result ys = subst (λ n. Legs (owner_of c.args.self.now) n c.hi.result ys) c.lo.ensures.value of in
    are_legs _ _ _ _ (subst (λ n. Legs (owner_of c.args.self.now) c.args.span.now.lo n ys) c.hi.ensures.value lo)
