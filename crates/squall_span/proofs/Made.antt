-- The set that an operation makes, by its keys.
use Rattle.std.proofs.Common.{◌≡◌, ℕ, Bool, true, false, List, [], ◌∷◌, refl, sym, ap, ◌∙◌, subst, arith}
use Rattle.std.specs.Prelude.{Result, Ok, Err, IfOk}
use Rattle.std.proofs.Math.Bool.{and_comm}
use Rattle.std.specs.Prelude.{◌&&◌, ◌||◌, not, nat_lt, nat_le}
use Rattle.squall_span.specs.Spans.{Interval, has, IsCanonical, IsSet, union, minus, meet, keys_below, keys_from, spans_beyond}
use Rattle.squall_span.specs.BeyondLaws.{has_beyond}
use Rattle.squall_span.specs.Within.{HasBeside}
use Rattle.squall_span.proofs.Sweeping.{first_least}
use Rattle.squall_span.specs.SpanLaws.{same_lists, has-union, has-minus, has-meet, has-below, has-from, canonical-minus, canonical-meet, canonical-below, canonical-from, set-minus, set-meet, set-below, set-from}

pub made_minus : (a b made : List Interval) → IsSet a → IsSet b → IsCanonical made → ((k : ℕ) → has made k ≡ (has a k && not (has b k))) → made ≡ minus a b
made_minus a b made c d e keys = same_lists made (minus a b) e (canonical-minus a b c.0 d.0) (λ k. keys k ∙ sym (has-minus a b k))

pub made_meet : (a b made : List Interval) → IsSet a → IsSet b → IsCanonical made → ((k : ℕ) → has made k ≡ (has a k && has b k)) → made ≡ meet a b
made_meet a b made c d e keys = same_lists made (meet a b) e (canonical-meet a b c.0 d.0) (λ k. keys k ∙ sym (has-meet a b k))

pub made_below : (bound : ℕ) (a made : List Interval) → IsSet a → IsCanonical made → ((k : ℕ) → has made k ≡ (has a k && nat_lt k bound)) → made ≡ keys_below bound a
made_below bound a made c e keys = same_lists made (keys_below bound a) e (canonical-below bound a c.0) (λ k. keys k ∙ sym (has-below bound a k))

pub made_from : (bound : ℕ) (a made : List Interval) → IsSet a → IsCanonical made → ((k : ℕ) → has made k ≡ (has a k && nat_le bound k)) → made ≡ keys_from bound a
made_from bound a made c e keys = same_lists made (keys_from bound a) e (canonical-from bound a c.0) (λ k. keys k ∙ sym (has-from bound a k))

-- what is made is a set
pub minus_set : (a b made : List Interval) → IsSet a → IsSet b → IsCanonical made → ((k : ℕ) → has made k ≡ (has a k && not (has b k))) → IsSet made
minus_set a b made c d e keys = subst IsSet (sym (made_minus a b made c d e keys)) (set-minus a b c d)

pub meet_set : (a b made : List Interval) → IsSet a → IsSet b → IsCanonical made → ((k : ℕ) → has made k ≡ (has a k && has b k)) → IsSet made
meet_set a b made c d e keys = subst IsSet (sym (made_meet a b made c d e keys)) (set-meet a b c d)

pub below_set : (bound : ℕ) (a made : List Interval) → IsSet a → IsCanonical made → ((k : ℕ) → has made k ≡ (has a k && nat_lt k bound)) → IsSet made
below_set bound a made c e keys = subst IsSet (sym (made_below bound a made c e keys)) (set-below bound a c)

pub from_set : (bound : ℕ) (a made : List Interval) → IsSet a → IsCanonical made → ((k : ℕ) → has made k ≡ (has a k && nat_le bound k)) → IsSet made
from_set bound a made c e keys = subst IsSet (sym (made_from bound a made c e keys)) (set-from bound a c)

-- ---- what is made beside other spans

and_not_beside : (x y z : Bool) → (x ≡ true → y ≡ z) → (x && not y) ≡ (x && not z)
and_not_beside true y z f = ap not (f refl)
and_not_beside false y z f = refl

pub minus_beside : (own read a b others made : List Interval) → read ≡ own → own ≡ a → IsSet a → IsSet b → ((k : ℕ) → has read k ≡ true → has others k ≡ has b k) → IsCanonical made → ((k : ℕ) → has made k ≡ (has read k && not (has others k))) → made ≡ minus a b
minus_beside own read a b others made r o c d beside e keys =
    made_minus a b made c d e (λ k. keys k ∙ and_not_beside (has read k) (has others k) (has b k) (beside k) ∙ ap (λ l. has l k && not (has b k)) (r ∙ o))

pub union_keys : {E : Type 0} (a b : List Interval) (r : Result (List Interval) E) → IsSet a → IsSet b → IfOk r (λ s. s ≡ union a b) → IfOk r (λ s. (k : ℕ) → has s k ≡ (has a k || has b k))
union_keys a b (Ok s) c d is = λ k. ap (λ l. has l k) is ∙ has-union a b k c.0 d.0
union_keys a b (Err e) c d is = tt

-- ---- the first set without the second, of which only what ends beyond the first key was looked at

pub minus_none : (a b made : List Interval) → a ≡ [] → IsSet b → made ≡ [] → made ≡ minus a b
minus_none a b made e d is =
    made_minus a b made (subst IsSet (sym e) (tt, tt)) d (subst IsCanonical (sym is) tt) (λ k. ap (λ l. has l k) is ∙ sym (ap (λ l. has l k && not (has b k)) e))

pub minus_beyond : (a b others made rest : List Interval) (s : Interval) (lo : ℕ) → IsSet a → IsSet b → a ≡ s ∷ rest → lo ≡ s.lo → others ≡ spans_beyond lo b → IsCanonical made → ((k : ℕ) → has made k ≡ (has (s ∷ rest) k && not (has others k))) → made ≡ minus a b
minus_beyond a b others made rest s lo c d is at e canonical keys =
    minus_beside (s ∷ rest) (s ∷ rest) a b others made refl (sym is) c d
    (λ k h. ap (λ l. has l k) e ∙ has_beyond lo k b (let le = first_least s rest k (subst IsCanonical is c.0) h in omega (arith, at, le))) canonical keys

-- ---- what is made of the spans of the second set beside the first

pub near_minus : (a b near : List Interval) → IsSet a → IsSet b → IsSet near → HasBeside a b near → minus a near ≡ minus a b
near_minus a b near c d e beside =
    made_minus a b (minus a near) c d (canonical-minus a near c.0 e.0) (λ k. has-minus a near k ∙ and_not_beside (has a k) (has near k) (has b k) (beside k))

and_beside : (x y z : Bool) → (x ≡ true → y ≡ z) → (x && y) ≡ (x && z)
and_beside true y z f = f refl
and_beside false y z f = refl

pub near_meet : (a b near : List Interval) → IsSet a → IsSet b → IsSet near → HasBeside a b near → meet a near ≡ meet a b
near_meet a b near c d e beside =
    made_meet a b (meet a near) c d (canonical-meet a near c.0 e.0) (λ k. has-meet a near k ∙ and_beside (has a k) (has near k) (has b k) (beside k))

pub meet_near : (a b near : List Interval) → IsSet a → IsSet b → IsSet near → HasBeside b a near → meet near b ≡ meet a b
meet_near a b near c d e beside =
    made_meet a b (meet near b) c d (canonical-meet near b e.0 d.0)
    (λ k. has-meet near b k ∙ and_comm (has near k) (has b k) ∙ and_beside (has b k) (has near k) (has a k) (beside k) ∙ and_comm (has b k) (has a k))

pub minus_keys : {E : Type 0} (a b : List Interval) (r : Result (List Interval) E) → IfOk r (λ s. s ≡ minus a b) → IfOk r (λ s. (k : ℕ) → has s k ≡ (has a k && not (has b k)))
minus_keys a b (Ok s) is = λ k. ap (λ l. has l k) is ∙ has-minus a b k
minus_keys a b (Err e) is = tt

pub meet_keys : {E : Type 0} (a b : List Interval) (r : Result (List Interval) E) → IfOk r (λ s. s ≡ meet a b) → IfOk r (λ s. (k : ℕ) → has s k ≡ (has a k && has b k))
meet_keys a b (Ok s) is = λ k. ap (λ l. has l k) is ∙ has-meet a b k
meet_keys a b (Err e) is = tt
