-- Pairs, each half of which is joined on its own (join semilattices: Shapiro et al. 2011).
use Rattle.squall_join.specs.declared.pair.Pair.{Pair}

module _ {A B : Type 0} where
  -- the pair of two values
  abbrev pub pair_of : A → B → Pair A B
  pair_of a b = record { first = a; second = b }

  -- what holds of a pair: of each half, what holds of its type
  abbrev pub pair_is : (A → Type 0) → (B → Type 0) → Pair A B → Type 0
  pair_is P Q x = P x.first × Q x.second

  -- the joins of the halves
  abbrev pub pair_join : (A → A → A) → (B → B → B) → Pair A B → Pair A B → Pair A B
  pair_join f g x y = pair_of (f x.first y.first) (g x.second y.second)
