-- The laws of sets of keys under their union (join semilattices: Shapiro et al. 2011).
use Rattle.std.specs.Prelude.{◌≡◌, ◌↔◌, ℕ, Bool, true, false, ◌||◌, List, [], refl}
use Rattle.std.proofs.Common.{sym, ap, ◌∙◌}
use Rattle.squall_span.specs.Spans.{Interval, has, IsSet, union}
use Rattle.squall_span.specs.SpanLaws.{set-union, has-union, same_spans, union_assoc, union_comm, union_idem}
use Rattle.squall_join.specs.Laws.{JoinLaws}

pub set_laws : JoinLaws IsSet [] union
set_laws = record {
  bottom_is = (tt, tt);
  closed = set-union;
  assoc = λ x y z a b c. union_assoc x y z a.0 b.0 c.0;
  comm = λ x y a b. union_comm x y a.0 b.0;
  idem = λ x a. union_idem x a.0;
  neutral = λ x a. refl;
}

or_absorbs : (x y : Bool) → (x || y) ≡ x → y ≡ true → x ≡ true
or_absorbs true y e h = refl
or_absorbs false y e h = sym e ∙ h

or_within : (x y : Bool) → (y ≡ true → x ≡ true) → (x || y) ≡ x
or_within true y h = refl
or_within false true h = sym (h refl)
or_within false false h = refl

-- the union with a set is no more than this one if each key of that set is here
pub covers_by_keys : (a b : List Interval) → IsSet a → IsSet b → (union a b ≡ a) ↔ ((k : ℕ) → has b k ≡ true → has a k ≡ true)
covers_by_keys a b c d = (
  λ e k h. or_absorbs (has a k) (has b k) (sym (has-union a b k c.0 d.0) ∙ ap (λ l. has l k) e) h,
  λ all. same_spans (union a b) a (set-union a b c d) c (λ k _. has-union a b k c.0 d.0 ∙ or_within (has a k) (has b k) (all k)),
)
