use Rattle.std.specs.Prelude.{◌≡◌, ℕ, List, refl, Err}
use Rattle.std.proofs.lemmas.Result.{err_from_is_err_and}
use Rattle.squall_wire.specs.declared.fault.WireFault.{WireFault}
use Rattle.squall_wire.specs.Reading.{frame_at, message_at}
use Rattle.squall_c_frames.specs.WholeFrames.{whole_at}
use Rattle.squall_c_frames.proofs.single.whole.Goals as goal

-- the fault of the head comes first
head_first : (bytes : List ℕ) (fault : WireFault) → frame_at bytes ≡ Err fault → whole_at bytes ≡ Err fault
unfolding message_at
head_first bytes fault is = rw is refl

pub returns-in_err-look_at_head-clause-answer : goal.returns-in_err-look_at_head-clause-answer
returns-in_err-look_at_head-clause-answer c =
    let p = err_from_is_err_and c.from_residual.result c.from_residual.ensures.1 in
    rw (p.1, p.2) (λ _. head_first _ _ c.in_err-look_at_head.ensures.fault)
