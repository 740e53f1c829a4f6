use Rattle.std.proofs.Common.{◌≡◌, List, length, Ok, refl, ◌∙◌, rules, vec_len}
use Rattle.std.specs.List.{splice}
use Rattle.std.proofs.lemmas.Iterator.Adapters.{YieldsList-from_vec, items_from_extend}
use Rattle.squall_blocks.proofs.ready.splice_both.Goals as goal

pub returns-clause-items : goal.returns-clause-items
returns-clause-items g c =
    let e = c.in_ok-_gone.ensures.items in
    let len : vec_len c.args.fresh_items ≡ length c.args.fresh_items.items = search rules in
    items_from_extend {E = Unit {0}} {all = c.args.fresh_items.items} {P = λ (zs : List g.row.U.Denot). c.splice.new.self.items ≡ splice c.args.items.now.items c.args.first c.args.end zs} {s = e.0} (Ok tt) (e.0, e.1, refl, e.4, e.3) (YieldsList-from_vec c.args.fresh_items.items e.2.0 (e.2.1 ∙ len))
