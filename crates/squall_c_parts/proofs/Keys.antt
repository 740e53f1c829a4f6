-- A demand for the key of a rank.
use Rattle.std.proofs.Common.{◌≡◌, ℕ, ◌<◌, nat_lt, Bool, true, sym, subst, arith}
use Rattle.std.proofs.lemmas.Bool.Decides.{nat_tests}
use Rattle.squall_key.specs.Keys.{top}
use Rattle.squall_part.specs.Giving.{IsGivenAt}
use Rattle.squall_c_parts.specs.declared.chunks.CChunk.{CChunk}
use Rattle.squall_c_parts.specs.Nodes.{NodeValue}
use Rattle.squall_c_parts.specs.PartCalls.{GivesSo, gives_at_if, GivesAt}

is_below : (m n : ℕ) → m < n → nat_lt m n ≡ true
is_below m n lt = grind (arith, nat_tests)

-- the key of the rank is given so
pub at_key : (rank key : ℕ) (old : NodeValue) (before : CChunk) (new : NodeValue) (after : CChunk) (status : ℕ) → rank < top → key ≡ rank → GivesSo (λ p answer q. IsGivenAt p key answer q) old before new after status → GivesAt rank old before new after status
at_key rank key old before new after status lt e h =
    subst (λ (b : Bool). gives_at_if b rank old before new after status) (sym (is_below rank top lt))
    (subst (λ (k : ℕ). GivesSo (λ p answer q. IsGivenAt p k answer q) old before new after status) e h)
