-- What is left of the letters that a count of 64 bits can hold.
use Rattle.std.proofs.Common.{◌≡◌, ◌<◌, ◌-◌, ◌^◌, Bool, true, false, not, ◌∷◌, [], length, sym, ap, arith, length-append}
use Rattle.std.specs.Prelude.{MatchBool}
use Rattle.std.proofs.lemmas.Bool.{false≢true}
use Rattle.squall_cluster.specs.Owners.{Owning, Finished, Idle}

-- one more is published, so fewer are left
pub fewer_left : (took : Bool) (before after : Owning) → MatchBool took (Finished before after) (Idle before after) → not took ≡ false → length after.published < 2 ^ 64 → 2 ^ 64 - length after.published < 2 ^ 64 - length before.published
fewer_left true before after f e lt =
    let more = ap length f.1 in
    let one = length-append before.published (f.0 ∷ []) in
    omega (arith, more, one, lt)
fewer_left false before after f e lt = absurd (false≢true (sym e))
