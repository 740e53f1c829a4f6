-- What a message does to a world.
use Rattle.std.proofs.Common.{◌≡◌, ℕ, ◌<◌, Bool, true, false, List, length, get_or, Some, Ok, inl, inr, refl, sym, ap, subst, ◌∙◌}
use Rattle.std.specs.Prelude.{not}
use Rattle.std.specs.List.{slice_get}
use Rattle.std.proofs.lemmas.Bool.{false≢true}
use Rattle.std.proofs.lemmas.Option.{slice_get-get_or, same_Some}
use Rattle.squall_board.specs.Boards.{BoardValue}
use Rattle.squall_protocol.specs.declared.event.Node.{Node}
use Rattle.squall_protocol.specs.declared.answer.Answer.TheVariants.{Delivered}
use Rattle.squall_world.specs.Nets.{PeerValue, NetValue, MessageValue, place_of}
use Rattle.squall_world.specs.Events.{IsHearing, IsOld, news_of, IsDeliverIn}
use Rattle.squall_world.proofs.Standing.{put_is}
use Rattle.squall_world.proofs.Demands.{put_in}

-- what is read at a place within the list stands there
pub there : {A : Type 0} (xs : List A) (i : ℕ) (x : A) → i < length xs → x ≡ get_or xs i x → slice_get xs i ≡ Some x
there xs i x within read = slice_get-get_or xs i x within ∙ ap Some (sym read)

-- two reads of one place
twice : {A : Type 0} (xs : List A) (i : ℕ) (x y : A) → i < length xs → x ≡ get_or xs i x → y ≡ get_or xs i y → x ≡ y
twice xs i x y within a b = same_Some x y (sym (there xs i x within a) ∙ there xs i y within b)

-- a node that knew less is told what it did not know
pub delivered : (n m : NetValue) (i at : ℕ) (node : Node) (x : MessageValue) (a b c : PeerValue) (news : BoardValue) → m ≡ put_in n at c n.chunks
    → place_of n node ≡ Some at → slice_get n.messages i ≡ Some x → at < length n.peers → a ≡ get_or n.peers at a → b ≡ get_or n.peers at b
    → news ≡ news_of n a x → IsHearing b news x c → IsDeliverIn n i node (Ok Delivered) m
delivered n m i at node x a b c news put place here within read-a read-b new hearing =
    let same = twice n.peers at b a within read-b read-a in (
      at,
      x,
      a,
      place,
      here,
      there n.peers at a within read-a,
      inr (c, subst (λ v. IsHearing a v x c) new (subst (λ p. IsHearing p news x c) same hearing), put ∙ λ i. record n { peers = put_is at c n.peers i }),
    )

-- a node that knew as much is told nothing
pub known_already : (n : NetValue) (i at : ℕ) (node : Node) (x : MessageValue) (a : PeerValue) → place_of n node ≡ Some at → slice_get n.messages i ≡ Some x → at < length n.peers → a ≡ get_or n.peers at a → IsOld a x → IsDeliverIn n i node (Ok Delivered) n
known_already n i at node x a place here within read old = (at, x, a, place, here, there n.peers at a within read, inl (old, refl))

-- it is false that it is not so
pub from_not : (r : Bool) → not r ≡ false → r ≡ true
from_not true e = refl
from_not false e = absurd (false≢true (sym e))
