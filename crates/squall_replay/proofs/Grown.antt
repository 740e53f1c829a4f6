-- A log with one call more.
use Rattle.std.proofs.Common.{◌≡◌, ℕ, zero, suc, ◌<◌, List, [], ◌∷◌, ◌++◌, length, take, get_or, refl, subst, arith}
use Rattle.squall_part.specs.Parts.{PartValue, IsPart}
use Rattle.squall_replay.specs.declared.call.Call.{Call}
use Rattle.squall_replay.specs.declared.call.Answer.{Answer}
use Rattle.squall_replay.specs.Calls.{Happens, Replays, Leads}

grown : (p q r : PartValue) (cs : List Call) (n : ℕ) (c d : Call) (a : Answer) (xs : List Answer) → n < length cs → c ≡ get_or cs n d → Replays p (take n cs) xs q → Happens q c a r → IsPart r → Replays p (take (suc n) cs) (xs ++ a ∷ []) r
grown p q r [] n c d a xs lt at h now is = absurd (omega (arith, lt))
grown p q r (j ∷ js) zero c d a [] lt at h now is = (r, is, subst (λ v. Happens v j a r) h (subst (λ v. Happens q v a r) at now), refl)
grown p q r (j ∷ js) zero c d a (x ∷ xs) lt at h now is = absurd h
grown p q r (j ∷ js) (suc n) c d a [] lt at h now is = absurd h
grown p q r (j ∷ js) (suc n) c d a (x ∷ xs) lt at h now is = (h.0, h.1, h.2, grown h.0 q r js n c d a xs (omega (arith, lt)) at h.3 now is)

pub one_more : (p q r : PartValue) (cs : List Call) (n : ℕ) (c d : Call) (a : Answer) → n < length cs → c ≡ get_or cs n d → Leads p (take n cs) q → Happens q c a r → IsPart r → Leads p (take (suc n) cs) r
one_more p q r cs n c d a lt at h now is = (h.0 ++ a ∷ [], grown p q r cs n c d a h.0 lt at h.1 now is)
