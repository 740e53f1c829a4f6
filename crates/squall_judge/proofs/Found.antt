-- Chunks that are found by what is in them.
use Rattle.std.proofs.Common.{◌≡◌, ◌⊎◌, ℕ, ◌++◌, ◌∷◌, [], List, length, Bool, true, false, Some, refl, ◌∙◌, subst, ⊎_elim}
use Rattle.std.specs.List.{slice_get}
use Rattle.std.specs.declared.cmp.Ordering.{Ordering}
use Rattle.std.specs.declared.cmp.Ordering.TheVariants.{Less, Equal, Greater}
use Rattle.std.specs.Ordering.{is_eq, nat_cmp, ordering_then}
use Rattle.std.specs.BTreeMap.{BTreeMap, get, is_at, Updates}
use Rattle.std.proofs.lemmas.Map.Lookups.{exact_unsigned}
use Rattle.squall_protocol.specs.ListLaws.{at_front, at_end, at_either}
use Rattle.squall_protocol.specs.Chunks.{ChunkValue, chunk_with}
use Rattle.squall_judge.specs.declared.content.Content.{Content}
use Rattle.squall_judge.specs.Found.{contents, content_of, AreFound}

first_equal : (a b : Ordering) → ordering_then a b ≡ Equal → (a ≡ Equal) × (b ≡ Equal)
first_equal Less b e = absurd (cc)
first_equal Equal b e = (refl, e)
first_equal Greater b e = absurd (cc)

is_equal : (a : Ordering) → is_eq a ≡ true → a ≡ Equal
is_equal Less e = absurd (cc)
is_equal Equal e = refl
is_equal Greater e = absurd (cc)

same_parts : (n s p q l h m t f g a b : ℕ) → n ≡ m → s ≡ t → p ≡ f → q ≡ g → l ≡ a → h ≡ b → chunk_with n s p q (record { lo = l; hi = h }) ≡ chunk_with m t f g (record { lo = a; hi = b })
same_parts n s p q l h m t f g a b u v w x y z = cc

-- chunks with the same in them are the same
one_content : (x y : ChunkValue) → contents (content_of x) (content_of y) ≡ Equal → x ≡ y
one_content x y e =
    let number = first_equal (nat_cmp x.number y.number) _ e in
    let sub = first_equal (nat_cmp x.sub y.sub) _ number.1 in
    let source = first_equal (nat_cmp x.source y.source) _ sub.1 in
    let dest = first_equal (nat_cmp x.dest y.dest) _ source.1 in
    let lo = first_equal (nat_cmp x.span.lo y.span.lo) (nat_cmp x.span.hi y.span.hi) dest.1 in
    same_parts x.number x.sub x.source x.dest x.span.lo x.span.hi y.number y.sub y.source y.dest y.span.lo y.span.hi (exact_unsigned x.number y.number number.0)
    (exact_unsigned x.sub y.sub sub.0) (exact_unsigned x.source y.source source.0) (exact_unsigned x.dest y.dest dest.0) (exact_unsigned x.span.lo y.span.lo lo.0) (exact_unsigned x.span.hi y.span.hi lo.1)

-- they stay found when one more is given
pub one_more : (xs : List ChunkValue) (x : ChunkValue) (old new : BTreeMap Content ℕ) → AreFound xs old → Updates contents old new (content_of x) (Some (length xs)) → AreFound (xs ++ x ∷ []) new
one_more xs x old new found put i y at = ⊎_elim
    (λ (before : slice_get xs i ≡ Some y). earlier (found i y before) (is_at (contents (content_of x)) (content_of y)) refl)
    (λ (last : (i ≡ length xs) × (x ≡ y)). newest last.1)
    (at_either xs x i y at)
  where
    Is : Type 0
    Is = (j : ℕ) × (get contents new (content_of y) ≡ Some j) × (slice_get (xs ++ x ∷ []) j ≡ Some y)

    newest : x ≡ y → Is
    newest e = subst (λ z. (j : ℕ) × (get contents new (content_of z) ≡ Some j) × (slice_get (xs ++ x ∷ []) j ≡ Some z)) e (length xs, put.1, at_end xs x)

    earlier : (j : ℕ) × (get contents old (content_of y) ≡ Some j) × (slice_get xs j ≡ Some y) → (b : Bool) → is_at (contents (content_of x)) (content_of y) ≡ b → Is
    earlier there true e = newest (one_content x y (is_equal (contents (content_of x) (content_of y)) e))
    earlier there false e = (there.0, put.2 (content_of y) e ∙ there.1, at_front xs (x ∷ []) there.0 y there.2)
