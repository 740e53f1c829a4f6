-- Deltas and reports of one load.
use Rattle.std.proofs.Common.{◌≡◌, Bool, true, false, Option, Some, None, Result, Ok, Err, List, [], ◌∷◌, length, get_or, refl, sym, ap, arith}
use Rattle.std.specs.Prelude.{◌||◌, ◌&&◌, IfSome, IfOk}

-- if all keys of a span are brought, the keys of that one span are those that are brought
pub all_brought : (inside brought : Bool) → (inside ≡ true → brought ≡ true) → (inside || false) ≡ (inside && brought)
all_brought true b f = sym (f refl)
all_brought false b f = refl

-- what is known of an option's value in two ways
pub some_both : {X : Type 0} (r : Option X) (P Q R : X → Type 0) → ((x : X) → P x → Q x → R x) → IfSome r P → IfSome r Q → IfSome r R
some_both (Some x) P Q R f p q = f x p q
some_both None P Q R f p q = p

pub ok_weaker : {X E : Type 0} (r : Result X E) (P Q : X → Type 0) → ((x : X) → P x → Q x) → IfOk r P → IfOk r Q
ok_weaker (Ok x) P Q f p = f x p
ok_weaker (Err e) P Q f p = p

-- a list of one
pub alone : {X : Type 0} (xs : List X) (x : X) → length xs ≡ 1 → x ≡ get_or xs 0 x → x ∷ [] ≡ xs
alone [] x e is = absurd (omega (arith, e))
alone (y ∷ []) x e is = ap (λ z. z ∷ []) is
alone (y ∷ z ∷ zs) x e is = absurd (omega (arith, e))
