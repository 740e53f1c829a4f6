use Rattle.std.proofs.Common.{rules, ◌≡◌, ◌∙◌, sym, subst, Some, length, vec_len}
use Rattle.std.specs.BTreeMap.{Updates}
use Rattle.squall_judge.specs.Found.{contents, content_of, AreFound}
use Rattle.squall_judge.proofs.Found.{one_more}
use Rattle.squall_judge.proofs.given.Given.push.Goals as goal

pub invariant_of-self-2 : goal.invariant_of-self-2
invariant_of-self-2 c =
    let len : vec_len c.reserve.new.self ≡ length c.reserve.new.self.items = search rules in
    subst (λ xs. AreFound xs c.insert.new.self) (sym c.push_reserved.ensures.items)
    (one_more c.reserve.new.self.items c.args.chunk c.self.inside.places c.insert.new.self
    (subst (λ xs. AreFound xs c.self.inside.places) (sym c.in_ok-reserve.ensures.items) c.self.invariant)
    (subst (λ n. Updates contents c.self.inside.places c.insert.new.self (content_of c.args.chunk) (Some n)) (c.len-at.ensures ∙ len)
    (subst (λ k. Updates contents c.self.inside.places c.insert.new.self k (Some c.len-at.result)) c.content_of.ensures c.in_ok-insert.ensures.updates)))
