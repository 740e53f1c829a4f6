-- What stands after the first word of a line, its blanks taken off.
use Rattle.std.proofs.Common.{◌≡◌, ℕ, Bool, true, false, List, [], ◌∷◌, one-add, ap, refl}
use Rattle.squall_cli_lines.specs.Words.{is_blank, is_letter, from_first, after_first_word}

again_by : (b : ℕ) (bs : List ℕ) (v : Bool) → is_blank b ≡ v → from_first is_letter (from_first is_letter bs) ≡ from_first is_letter bs → from_first is_letter (from_first is_letter (b ∷ bs)) ≡ from_first is_letter (b ∷ bs)
again_by b bs true e h = rw (e, one-add) h
again_by b bs false e h = rw e (rw e refl)

-- blanks are taken off once
from_letter_again : (bs : List ℕ) → from_first is_letter (from_first is_letter bs) ≡ from_first is_letter bs
from_letter_again [] = refl
from_letter_again (b ∷ bs) = again_by b bs (is_blank b) refl (from_letter_again bs)

-- the blanks before the first word do not matter
pub after_first_word_again : (bs : List ℕ) → after_first_word (from_first is_letter bs) ≡ after_first_word bs
after_first_word_again bs = ap (λ w. from_first is_letter (from_first is_blank w)) (from_letter_again bs)
