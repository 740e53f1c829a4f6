-- Laws of what messages tell, joined one after another.
use Rattle.std.specs.Prelude.{◌≡◌, ℕ, ◌+◌, ◌<◌, ◌≤◌, zero, suc, length, List, [], ◌∷◌, ◌++◌, Option, None, Some, refl}
use Rattle.std.proofs.Common.{sym, ap, ◌∙◌, get_or, drop, subst}
use Rattle.std.proofs.lemmas.List.{drop_more, drop_all}
use Rattle.std.specs.List.{AllByRecursion}
use Rattle.squall_board.specs.Boards.{BoardValue, IsBoard, empty_board, board_join}
use Rattle.squall_board.specs.BoardLaws.{board_laws, join_is, empty_is}
use Rattle.squall_wire.specs.declared.message.Message.{Message}
use Rattle.squall_wire.specs.declared.message.Message.TheVariants.{Delta, Digest}
use Rattle.squall_wire.specs.DigestValue.{DigestValue}
use Rattle.squall_wire.specs.Messages.{IsMessage}
use Rattle.squall_delta.specs.Pieces.{joined_boards}
use Rattle.squall_c_frames.specs.Joined.{deltas_of, last_digest, JoinsMessage}

pub joined_is : (ms : List Message) → AllByRecursion IsMessage ms → IsBoard (joined_boards (deltas_of ms))
joined_is [] all = empty_is
joined_is (Delta b ∷ ms) all = join_is b (joined_boards (deltas_of ms)) all.0.content (joined_is ms all.1)
joined_is (Digest d ∷ ms) all = joined_is ms all.1

pub join_after : (board : BoardValue) → IsBoard board → board_join board empty_board ≡ board
join_after board is = board_laws.neutral board is.nested

pub join_before : (board : BoardValue) → IsBoard board → board_join empty_board board ≡ board
join_before board is = board_laws.comm empty_board board empty_is.nested is.nested ∙ join_after board is

next_is : (old new : BoardValue) (m : Message) → IsBoard old → IsMessage m → JoinsMessage old m new → IsBoard new
next_is old new (Delta b) is message joins = subst IsBoard (sym joins) (join_is old b is message.content)
next_is old new (Digest d) is message joins = subst IsBoard (sym joins) is

next_joins : (old new : BoardValue) (m : Message) (ms : List Message) → IsBoard old → IsMessage m → AllByRecursion IsMessage ms → JoinsMessage old m new → board_join new (joined_boards (deltas_of ms)) ≡ board_join old (joined_boards (deltas_of (m ∷ ms)))
next_joins old new (Delta b) ms is message all joins =
    ap (λ (x : BoardValue). board_join x (joined_boards (deltas_of ms))) joins ∙ board_laws.assoc old b (joined_boards (deltas_of ms)) is.nested message.content.nested (joined_is ms all).nested
next_joins old new (Digest d) ms is message all joins = ap (λ (x : BoardValue). board_join x (joined_boards (deltas_of ms))) joins

all_from : (ms : List Message) (i : ℕ) → AllByRecursion IsMessage ms → AllByRecursion IsMessage (drop i ms)
all_from ms zero all = all
all_from [] (suc i) all = tt
all_from (m ∷ ms) (suc i) all = all_from ms i all.1

abbrev to_come : ℕ → List Message → BoardValue
to_come i ms = joined_boards (deltas_of (drop i ms))

message_at : (ms : List Message) (i : ℕ) (m : Message) → i < length ms → m ≡ get_or ms i m → drop i ms ≡ m ∷ drop (i + 1) ms
message_at ms i m within is = drop_more ms i m within ∙ ap (λ (y : Message). y ∷ drop (i + 1) ms) (sym is)

-- one message more is joined, and is no longer to come
pub joined_next : (old new : BoardValue) (ms : List Message) (i : ℕ) (m : Message) → i < length ms → m ≡ get_or ms i m → AllByRecursion IsMessage ms → JoinsMessage old m new → IsBoard old → IsBoard new × (board_join new (to_come (i + 1) ms) ≡ board_join old (to_come i ms))
joined_next old new ms i m within is all joins board =
    let at = message_at ms i m within is in
    let here : AllByRecursion IsMessage (m ∷ drop (i + 1) ms) = subst (λ (xs : List Message). AllByRecursion IsMessage xs) at (all_from ms i all) in
    (next_is old new m board here.0 joins, next_joins old new m (drop (i + 1) ms) board here.0 here.1 joins ∙ ap (λ (xs : List Message). board_join old (joined_boards (deltas_of xs))) (sym at))

-- past the last message nothing is to come
pub joined_all : (board : BoardValue) (ms : List Message) (i : ℕ) → length ms ≤ i → IsBoard board → board_join board (to_come i ms) ≡ board
joined_all board ms i past is = ap (λ (xs : List Message). board_join board (joined_boards (deltas_of xs))) (drop_all i ms past) ∙ join_after board is

-- one delta alone is what its message tells
pub one_delta : (ms : List Message) (m : Message) (b : BoardValue) → length ms ≡ 1 → get_or ms 0 m ≡ m → m ≡ Delta b → 0 < length ms → AllByRecursion IsMessage ms → b ≡ joined_boards (deltas_of ms)
one_delta [] m b one at is some all = absurd (let bad : ⊥ = cc in bad)
one_delta (n ∷ []) m b one at is some all = alone n b (at ∙ is) all.0
  where
    alone : (n : Message) (b : BoardValue) → n ≡ Delta b → IsMessage n → b ≡ joined_boards (deltas_of (n ∷ []))
    alone n b e message = subst (λ (x : Message). IsMessage x → b ≡ joined_boards (deltas_of (x ∷ []))) (sym e) (λ (is : IsMessage (Delta b)). sym (join_after b is.content)) message
one_delta (n ∷ (o ∷ ms)) m b one at is some all = absurd (let bad : ⊥ = cc in bad)

-- ---- the last digest

pub last_delta : (d : Option DigestValue) (ms : List Message) (b : BoardValue) → last_digest d (ms ++ Delta b ∷ []) ≡ last_digest d ms
last_delta d [] b = refl
last_delta d (Delta c ∷ ms) b = last_delta d ms b
last_delta d (Digest e ∷ ms) b = last_delta (Some e) ms b

pub last_is : (d : Option DigestValue) (ms : List Message) (e : DigestValue) → last_digest d (ms ++ Digest e ∷ []) ≡ Some e
last_is d [] e = refl
last_is d (Delta c ∷ ms) e = last_is d ms e
last_is d (Digest f ∷ ms) e = last_is (Some f) ms e

-- after a digest there is always one
always : (e : DigestValue) (ms : List Message) → (f : DigestValue) × (last_digest (Some e) ms ≡ Some f)
always e [] = (e, refl)
always e (Delta c ∷ ms) = always e ms
always e (Digest f ∷ ms) = always f ms

some_none : (e : DigestValue) → Some e ≡ None → ⊥
some_none e h = cc

-- a digest that comes in place of the one before
pub last_some : (d : Option DigestValue) (ms : List Message) (e : DigestValue) → last_digest None ms ≡ Some e → last_digest d ms ≡ Some e
last_some d [] e h = absurd (some_none e (sym h))
last_some d (Delta c ∷ ms) e h = last_some d ms e h
last_some d (Digest f ∷ ms) e h = h

pub last_none : (d : Option DigestValue) (ms : List Message) → last_digest None ms ≡ None → last_digest d ms ≡ d
last_none d [] h = refl
last_none d (Delta c ∷ ms) h = last_none d ms h
last_none d (Digest f ∷ ms) h = absurd (some_none (always f ms).0 (sym (always f ms).1 ∙ h))
