-- What is taken, what of it is published, and the ends of a new cluster.
use Rattle.std.proofs.Common.{◌≡◌, ℕ, ◌+◌, List, [], ◌∷◌, ◌++◌, length, Bool, true, false, suc, refl, sym, ap, ◌∙◌, subst, arith, append-nil, length-append, MatchBool}
use Rattle.atomic_table.specs.Seated.{TableId}
use Rattle.squall_board.specs.Boards.{BoardValue}
use Rattle.squall_cluster_inbox.specs.declared.letter.Parcel.{Parcel}
use Rattle.squall_cluster_inbox.specs.Letters.{letters_of}
use Rattle.squall_cluster_inbox.specs.Ends.{Posting, posting_of, Numbered, vouching}
use Rattle.squall_cluster_inbox.proofs.Lists.{letters_of-snoc}
use Rattle.squall_cluster.specs.Owners.{Owning, owning_with, Fresh}

-- a letter that is taken while none is in hand
pub took_keeps : (taken taken' : List Parcel) (published hand hand' : List BoardValue) (m : Parcel) → letters_of taken ≡ published ++ hand → hand ≡ [] → taken' ≡ taken ++ m ∷ [] → hand' ≡ m.letter ∷ [] → letters_of taken' ≡ published ++ hand'
took_keeps taken taken' published hand hand' m was none grown laid =
    ap letters_of grown ∙ letters_of-snoc taken m ∙ ap (λ l. l ++ m.letter ∷ []) (was ∙ ap (λ l. published ++ l) none ∙ append-nil published) ∙ ap (λ l. published ++ l) (sym laid)

pub turned : (b : Bool) (hand old new : List BoardValue) (taken taken' : List Parcel) → MatchBool b (length hand ≡ 1) (hand ≡ []) → new ≡ old ++ hand → (hand ≡ [] → taken' ≡ taken)
    → MatchBool b ((x : BoardValue) × (new ≡ old ++ x ∷ [])) ((taken' ≡ taken) × (new ≡ old))
turned true [] old new taken taken' one is same = absurd (omega arith)
turned true (x ∷ []) old new taken taken' one is same = (x, is)
turned true (x ∷ y ∷ ys) old new taken taken' one is same = absurd (omega arith)
turned false hand old new taken taken' none is same = (same none, is ∙ ap (λ l. old ++ l) none ∙ append-nil old)

pub vouching-snoc : (xs : List Posting) (s : Posting) (known : List (ℕ × List BoardValue)) → vouching (xs ++ s ∷ []) known ≡ (s.from, s.posted) ∷ vouching xs known
vouching-snoc [] s known = refl
vouching-snoc (x ∷ xs) s known = vouching-snoc xs s ((x.from, x.posted) ∷ known)

abbrev new_posting : TableId → ℕ → Posting
new_posting inbox from = posting_of inbox from []

numbered_more : (inbox : TableId) (n : ℕ) (xs : List Posting) (s : Posting) → Numbered inbox n xs → s ≡ new_posting inbox (n + length xs) → Numbered inbox n (xs ++ s ∷ [])
numbered_more inbox n [] s h is = (is ∙ ap (new_posting inbox) (omega arith), tt)
numbered_more inbox n (x ∷ xs) s h is = (h.0, numbered_more inbox (suc n) xs s h.1 (is ∙ ap (new_posting inbox) (omega arith)))

-- one sender more
pub fresh_more : (o o' : Owning) (senders : List Posting) (s : Posting) → Fresh o senders → s ≡ new_posting o.inbox o.made → o' ≡ record o { made = o.made + 1 } → Fresh o' (senders ++ s ∷ [])
fresh_more o o' senders s h is now =
    let inbox : o'.inbox ≡ o.inbox = ap (λ (o : Owning). o.inbox) now in
    let made : o.made ≡ length senders = ap (λ (o : Owning). o.made) h.0 in
    let count : o.made + 1 ≡ length (senders ++ s ∷ []) = omega (arith, length-append senders (s ∷ [])) in
    let step : record o { made = o.made + 1 } ≡ owning_with o.inbox (o.made + 1) = ap (λ (a : Owning). record a { made = o.made + 1 }) h.0 in (
      now ∙ step ∙ ap (owning_with o.inbox) count ∙ ap (λ (t : TableId). owning_with t (length (senders ++ s ∷ []))) (sym inbox),
      subst (λ (t : TableId). Numbered t 0 (senders ++ s ∷ [])) (sym inbox) (numbered_more o.inbox 0 senders s h.1 (is ∙ ap (new_posting o.inbox) (made ∙ omega arith))),
    )
