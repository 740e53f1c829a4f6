-- What contracts see of the ends of an inbox (this project).
use Rattle.std.specs.Prelude.{◌≡◌, ℕ, List, [], ◌∷◌, length}
use Prim.Native.Nat.{suc}
use Rattle.atomic_table.specs.Seated.{TableId}
use Rattle.crossbeam_queue.specs.Passes.{Pass, view}
use Rattle.crossbeam_queue.specs.Fifo.{Held}
use Rattle.squall_board.specs.Boards.{BoardValue}
use Rattle.squall_cluster_inbox.specs.declared.letter.Parcel.{Parcel}
use Rattle.squall_cluster_inbox.specs.declared.knows.Knows.{Knows}
use Rattle.squall_cluster_inbox.specs.Inbox.{of, posted, AreLast}

-- what a pass of the inbox knows
abbrev pub knows_of : Pass Parcel Knows → Knows
knows_of hand = view hand

-- for how many letters an inbox has room
abbrev pub room_of : TableId → ℕ
room_of inbox = inbox.slots

-- a sender: its inbox, its number, and all that it posted
pub record Posting : Type 0 where
  pub inbox : TableId
  pub from : ℕ
  pub posted : List BoardValue

abbrev pub posting_of : TableId → ℕ → List BoardValue → Posting
posting_of inbox from letters = record { inbox = inbox; from = from; posted = letters }

-- at one moment as many parcels waited as the inbox has room for, those of this sender being its last
abbrev pub FoundFull : Posting → Type 0
FoundFull s = Held (room_of s.inbox) (λ items. AreLast (of s.from items) s.posted)

-- the taker: its inbox, what it took, how many senders were made, and what those posted that it vouches for
pub record Taking : Type 0 where
  pub inbox : TableId
  pub taken : List Parcel
  pub made : ℕ
  pub vouched : List (ℕ × List BoardValue)

-- a taker that took nothing, after that many senders were made
abbrev pub taking_with : TableId → ℕ → Taking
taking_with inbox made = record { inbox = inbox; taken = []; made = made; vouched = [] }

-- once all senders have ended, what was taken of each is what it posted
abbrev pub Whole : Taking → Type 0
Whole t = length t.vouched ≡ t.made → (p : ℕ) → of p t.taken ≡ posted p t.vouched

-- what the taker vouches for once these have been joined to it too
abbrev pub vouching : List Posting → List (ℕ × List BoardValue) → List (ℕ × List BoardValue)
vouching [] known = known
vouching (s ∷ ss) known = vouching ss ((s.from, s.posted) ∷ known)

-- senders of the inbox that have posted nothing, numbered from n on
abbrev pub Numbered : TableId → ℕ → List Posting → Type 0
Numbered inbox n [] = Unit {0}
Numbered inbox n (s ∷ ss) = (s ≡ posting_of inbox n []) × Numbered inbox (suc n) ss
