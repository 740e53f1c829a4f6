use Rattle.std.proofs.Common.{◌≡◌, ◌++◌, List, ℕ, ◌∙◌, ap, subst, arith}
use Rattle.std.proofs.lemmas.Bool.Decides.{not_from_Decides}
use Rattle.squall_log.proofs.Heads.{two_parts, damaged_after_head}
use Rattle.squall_log.specs.Entries.{head, IsDamaged}
use Rattle.squall_log.proofs.entry.payload_in.Goals as goal

pub returns-then-not-is_sum-clause-end : goal.returns-then-not-is_sum-clause-end
returns-then-not-is_sum-clause-end c =
    let sum : List ℕ = c.split_at.result.0.now in
    let rest : List ℕ = c.split_at.result.1.now in
    let payload : List ℕ = c.split_at-2.result.0.now in
    let after : List ℕ = c.split_at-2.result.1.now in
    let inner : payload ++ after ≡ rest = two_parts c.args.size rest payload after c.split_at-2.ensures.front c.split_at-2.ensures.back in
    let outer : sum ++ rest ≡ c.args.bytes.now = two_parts 4 c.args.bytes.now sum rest c.split_at.ensures.front c.split_at.ensures.back in
    let parts : sum ++ (payload ++ after) ≡ c.args.bytes.now = ap (λ (z : List ℕ). sum ++ z) inner ∙ outer in
    subst (λ (z : List ℕ). IsDamaged (head c.args.size ++ z)) parts
    (damaged_after_head c.args.size sum payload after c.requires (omega (arith, c.split_at.ensures.front_len)) (omega (arith, c.split_at-2.ensures.front_len))
    (not_from_Decides c.is_sum.result c.is_sum.ensures c.if-not-is_sum.true))
