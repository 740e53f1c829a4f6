-- Swatches of the legend, one after another.
use Rattle.std.proofs.Common.{◌≡◌, ℕ, ◌+◌, List, [], ◌∷◌, ◌++◌, sym, ap, ◌∙◌, arith}
use Rattle.std.specs.List.{flat_map, range_with_len}
use Rattle.std.proofs.lemmas.List.{flat_map_more, map-id}
use Rattle.std.proofs.lemmas.List.FromFn.{map-range_with_len_more}

-- one more number
range_more : (n : ℕ) → range_with_len 0 (n + 1) ≡ range_with_len 0 n ++ n ∷ []
range_more n =
    sym (map-id (range_with_len 0 (n + 1))) ∙ map-range_with_len_more (λ (x : ℕ). x) 0 n n (omega arith) ∙ ap (λ xs. xs ++ n ∷ []) (map-id (range_with_len 0 n))

-- one more swatch, behind those of the numbers below its own
pub swatches_more : (f : ℕ → List ℕ) (first now : List ℕ) (n : ℕ) → now ≡ first ++ flat_map f (range_with_len 0 n)
    → now ++ f n ≡ first ++ flat_map f (range_with_len 0 (n + 1))
swatches_more f first now n is =
    ap (λ bs. bs ++ f n) is ∙ flat_map_more f first (range_with_len 0 n) n ∙ ap (λ xs. first ++ flat_map f xs) (sym (range_more n))
