use Rattle.std.proofs.Common.{◌≡◌, Bool, List, ℕ, nat_eq, subst, ◌∙◌}
use Rattle.std.specs.Bool.{Decides}
use Rattle.std.specs.Cmp.Lexicographic.{pointwise, bytes_decides}
use Rattle.std.proofs.lemmas.Bool.Decides.{Decides-at}
use Rattle.squall_log.specs.Entries.{sum_of}
use Rattle.squall_log.proofs.check.is_sum.Goals as goal

compared : (r : Bool) (a b w : List ℕ) → r ≡ pointwise nat_eq a b → b ≡ w → Decides r (a ≡ w)
compared r a b w e same = subst (λ (z : List ℕ). Decides r (a ≡ z)) same (Decides-at r (pointwise nat_eq a b) e (bytes_decides a b))

pub returns : goal.returns
returns c = compared c.eq.result c.args.sum.now c.as_slice.result.now (sum_of c.args.bytes.now) c.eq.ensures (c.as_slice.ensures ∙ c.sum_of.ensures)
