-- What is left of the entries of a map beyond another.
use Rattle.std.proofs.Common.{◌≡◌, ℕ, ◌+◌, ◌<◌, ◌≤◌, Bool, T, List, [], ◌∷◌, ◌++◌, length, get_or, take, Option, Some, sym, ap, subst, ◌∙◌, arith}
use Rattle.std.specs.declared.cmp.Ordering.{Ordering}
use Rattle.std.specs.declared.cmp.Ordering.TheVariants.{Less}
use Rattle.std.specs.Cmp.{IsTotalOrder}
use Rattle.std.specs.FinMap.Entries.{is_sorted, find}
use Rattle.std.proofs.lemmas.List.{get_or_default, take_more, flat_map_more}
use Rattle.squall_join.specs.Entries.{IsPlace, IsFrom}
use Rattle.squall_join.specs.Rests.{found_beyond, entry_of, entry_beyond, map_beyond}
use Rattle.squall_join.proofs.Places.{sorted_at}

-- one more entry
pub rests_more : {K V : Type 0} (R : K → K → Ordering) (covered : V → V → Bool) (beyond : V → V → V) (es fs out new : List (K × V)) (i : ℕ) (x : K × V) (found : Option V) → i < length es → x ≡ get_or es i x → found ≡ find R x.0 fs → out ≡ map_beyond R covered beyond (take i es) fs → new ≡ out ++ entry_of x.0 (found_beyond covered beyond (Some x.1) found) → new ≡ map_beyond R covered beyond (take (i + 1) es) fs
rests_more R covered beyond es fs out new i x found within is found_is so_far more =
    more ∙ ap (λ f. out ++ entry_of x.0 (found_beyond covered beyond (Some x.1) f)) found_is
    ∙ ap (λ l. l ++ entry_beyond R covered beyond fs x) so_far
    ∙ flat_map_more (entry_beyond R covered beyond fs) [] (take i es) x
    ∙ ap (λ l. map_beyond R covered beyond l fs) (sym (take_more es i x within ∙ ap (λ y. take i es ++ y ∷ []) (sym is)))

-- the first `at` entries of fs have smaller keys than each entry of es from i on
pub record IsBelow {K V : Type 0} (R : K → K → Ordering) (es fs : List (K × V)) (i at : ℕ) : Type 0 where
  pub in_range : at ≤ length fs
  pub less : (j k : ℕ) (d : K × V) → j < at → i ≤ k → k < length es → R (get_or fs j d).0 (get_or es k d).0 ≡ Less

module _ {K V : Type 0} {R : K → K → Ordering} (o : IsTotalOrder R) (es fs : List (K × V)) (sorted : T (is_sorted R es)) where
  pub none_below : IsBelow R es fs 0 0
  none_below = record {
    in_range = omega arith;
    less = λ j k d lt le within. absurd (omega arith);
  }

  pub from_below : (i at : ℕ) (x : K × V) → i < length es → x ≡ get_or es i x → IsBelow R es fs i at → IsFrom R fs x.0 at
  from_below i at x within is m = record {
    in_range = m.in_range;
    less_before = λ j d lt. subst (λ (y : K × V). R (get_or fs j d).0 y.0 ≡ Less) (sym (is ∙ get_or_default es i x d within)) (m.less j i d lt (omega arith) within);
  }

  pub next_below : (i at : ℕ) (x : K × V) → i < length es → x ≡ get_or es i x → IsPlace R fs x.0 at → IsBelow R es fs (i + 1) at
  next_below i at x within is p = record {
    in_range = p.in_range;
    less = λ j k d lt le in_es. o.trans _ _ _ (p.less_before j d lt) (subst (λ (y : K × V). R y.0 (get_or es k d).0 ≡ Less) (sym (is ∙ get_or_default es i x d within)) (sorted_at o es sorted i k d (omega arith) in_es));
  }
