-- Lists of letters, of parcels and of senders.
use Rattle.std.proofs.Common.{◌≡◌, ℕ, List, [], ◌∷◌, ◌++◌, length, refl, ap, sym, ◌∙◌, arith, append-nil}
use Rattle.crossbeam_queue.specs.Fifo.{Held}
use Rattle.squall_board.specs.Boards.{BoardValue}
use Rattle.squall_cluster_inbox.specs.declared.letter.Parcel.{Parcel}
use Rattle.squall_cluster_inbox.specs.declared.knows.Knows.{Knows}
use Rattle.squall_cluster_inbox.specs.Letters.{Allowance, IsLetter, AreLetters, letters_of}
use Rattle.squall_cluster_inbox.specs.Inbox.{of, posted}

pub letters_of-snoc : (xs : List Parcel) (m : Parcel) → letters_of (xs ++ m ∷ []) ≡ letters_of xs ++ m.letter ∷ []
letters_of-snoc [] m = refl
letters_of-snoc (x ∷ xs) m = ap (λ l. x.letter ∷ l) (letters_of-snoc xs m)

pub letters_snoc : (allowed : Allowance) (xs : List BoardValue) (x : BoardValue) → AreLetters allowed xs → IsLetter allowed x → AreLetters allowed (xs ++ x ∷ [])
letters_snoc allowed [] x h m = (m, tt)
letters_snoc allowed (y ∷ ys) x h m = (h.0, letters_snoc allowed ys x h.1 m)

-- what an empty inbox tells
pub emptied : (v : Knows) → Held 0 (λ items. length v.vouched ≡ v.made → (p : ℕ) → of p (v.taken ++ items) ≡ posted p v.vouched) → length v.vouched ≡ v.made → (p : ℕ) → of p v.taken ≡ posted p v.vouched
emptied v h all p = ap (of p) (sym (append-nil v.taken) ∙ ap (λ l. v.taken ++ l) (sym (nothing h.0 h.1))) ∙ h.2 all p
  where
    nothing : (xs : List Parcel) → length xs ≡ 0 → xs ≡ []
    nothing [] e = refl
    nothing (x ∷ xs) e = absurd (omega arith)
