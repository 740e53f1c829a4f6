-- What holds by the value of a test.
use Rattle.std.proofs.Common.{◌≡◌, Bool, true, false, sym}
use Rattle.std.proofs.lemmas.Bool.{false≢true}
use Rattle.std.specs.Prelude.{MatchBool}

pub matched_both : (t : Bool) (P Q : Type 0) → P → Q → MatchBool t P Q
matched_both true P Q p q = p
matched_both false P Q p q = q

pub matched_true : (t : Bool) (P Q : Type 0) → t ≡ true → P → MatchBool t P Q
matched_true true P Q e p = p
matched_true false P Q e p = absurd (false≢true e)

pub matched_false : (t : Bool) (P Q : Type 0) → t ≡ false → Q → MatchBool t P Q
matched_false true P Q e q = absurd (false≢true (sym e))
matched_false false P Q e q = q
