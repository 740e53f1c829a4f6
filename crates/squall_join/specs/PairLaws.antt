-- The laws of pairs (join semilattices: Shapiro et al. 2011).
use Rattle.std.specs.Prelude.{◌≡◌}
use Rattle.squall_join.specs.Laws.{JoinLaws}
use Rattle.squall_join.specs.Pairs.{pair_of, pair_is, pair_join}

module _ {A B : Type 0} where
  pub same_pair : (a c : A) (b d : B) → a ≡ c → b ≡ d → pair_of a b ≡ pair_of c d
  same_pair a c b d p q = λ i. pair_of (p i) (q i)

  pub pair_laws : {P : A → Type 0} {Q : B → Type 0} {a : A} {b : B} {f : A → A → A} {g : B → B → B} → JoinLaws P a f → JoinLaws Q b g → JoinLaws (pair_is P Q) (pair_of a b) (pair_join f g)
  pair_laws l m = record {
    bottom_is = (l.bottom_is, m.bottom_is);
    closed = λ x y p q. (l.closed _ _ p.0 q.0, m.closed _ _ p.1 q.1);
    assoc = λ x y z p q r. same_pair _ _ _ _ (l.assoc _ _ _ p.0 q.0 r.0) (m.assoc _ _ _ p.1 q.1 r.1);
    comm = λ x y p q. same_pair _ _ _ _ (l.comm _ _ p.0 q.0) (m.comm _ _ p.1 q.1);
    idem = λ x p. same_pair _ _ _ _ (l.idem _ p.0) (m.idem _ p.1);
    neutral = λ x p. same_pair _ _ _ _ (l.neutral _ p.0) (m.neutral _ p.1);
  }
