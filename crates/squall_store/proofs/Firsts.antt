-- The first key of a range.
use Rattle.std.proofs.Common.{◌≡◌, ℕ, ◌≤◌, ◌<◌, List, ◌∷◌, Option, Some, None, arith, false, refl, subst}
use Rattle.std.specs.Ordering.{nat_cmp, is_gt}
use Rattle.std.specs.List.{slice_get}
use Rattle.std.specs.Option.{IsSome, IfSome}
use Rattle.std.specs.BTreeMap.{BTreeMap, get}
use Rattle.std.specs.BTreeMap.Range.{IsRangeOf, IsInRange, IsEntryInRange, IsLeBy, IsLtBy}
use Rattle.std.specs.declared.ops.Bound.TheVariants.{Included, Excluded}
use Rattle.squall_store.specs.Memory.{Values, IsEmptyFrom}

-- none, unless there is some
none_unless : {X : Type 0} (o : Option X) → (IsSome o → ⊥) → o ≡ None
none_unless None f = refl
none_unless (Some x) f = absurd (f refl)

in_range : (from to k : ℕ) → from ≤ k → k < to → IsInRange nat_cmp (Included from) (Excluded to) k
in_range from to k low high = grind arith

below_end : (a b : ℕ) → IsLtBy nat_cmp a b → a < b
below_end a b less = grind arith

not_before : (a b : ℕ) → is_gt (nat_cmp a b) ≡ false → b < a → ⊥
not_before a b h low = grind arith

-- a key before the first one of a range has no value
pub before_first : (m : BTreeMap ℕ (List ℕ)) (rows : Values) (r rest : List (ℕ × List ℕ)) (e : ℕ × List ℕ) (from to : ℕ) → m.entries ≡ rows → IsRangeOf nat_cmp (Included from) (Excluded to) m r → r ≡ e ∷ rest → IsEmptyFrom rows from e.0
before_first m rows r rest e from to view is first = subst (λ es. IsEmptyFrom es from e.0) view empty
  where
    inside : IsEntryInRange nat_cmp (Included from) (Excluded to) m e
    inside = subst (λ xs. IfSome (slice_get xs 0) (IsEntryInRange nat_cmp (Included from) (Excluded to) m)) first is.1

    least : (k : ℕ) → from ≤ k → k < e.0 → IsSome (get nat_cmp m k) → ⊥
    least k low high some =
        let end = below_end e.0 to inside.0.1 in
        let found = is.2 k (in_range from to k low (omega (arith, high, end))) some in
        not_before e.0 k (subst (λ xs. IfSome (slice_get xs 0) (λ x. IsLeBy nat_cmp x.0 k)) first found) high

    empty : IsEmptyFrom m.entries from e.0
    empty k low high = none_unless (get nat_cmp m k) (least k low high)
