-- What contracts see of the owner of a cluster, and of its end (this project).
use Rattle.std.specs.Prelude.{◌≡◌, ℕ, List, [], ◌∷◌, ◌++◌, length}
use Rattle.atomic_table.specs.Seated.{TableId}
use Rattle.squall_board.specs.Boards.{BoardValue}
use Rattle.squall_cluster_inbox.specs.declared.letter.Parcel.{Parcel}
use Rattle.squall_cluster_inbox.specs.Letters.{Allowance, AreLetters, letters_of, board_after}
use Rattle.squall_cluster_inbox.specs.Inbox.{of, posted}
use Rattle.squall_cluster_inbox.specs.Ends.{Posting, Numbered}

-- the owner: its inbox, what it took, what is published, the letter in hand, how many senders were made, and what each sender posted that was joined to it
pub record Owning : Type 0 where
  pub inbox : TableId
  pub taken : List Parcel
  pub published : List BoardValue
  pub hand : List BoardValue
  pub made : ℕ
  pub vouched : List (ℕ × List BoardValue)

-- an owner that took nothing, after that many senders were made
abbrev pub owning_with : TableId → ℕ → Owning
owning_with inbox made = record { inbox = inbox; taken = []; published = []; hand = []; made = made; vouched = [] }

-- once all senders have ended, what was taken of each is what it posted
abbrev pub Whole : Owning → Type 0
Whole o = length o.vouched ≡ o.made → (p : ℕ) → of p o.taken ≡ posted p o.vouched

-- the owner and the senders of a new cluster
abbrev pub Fresh : Owning → List Posting → Type 0
Fresh o senders = (o ≡ owning_with o.inbox (length senders)) × Numbered o.inbox 0 senders

-- the inbox, the number of senders and what the owner vouches for stay
abbrev pub SameSenders : Owning → Owning → Type 0
SameSenders before after = (after.inbox ≡ before.inbox) × (after.made ≡ before.made) × (after.vouched ≡ before.vouched)

-- one parcel more is taken, while no letter was in hand
abbrev pub TookOne : Owning → Owning → Type 0
TookOne before after = (before.hand ≡ []) × ((x : Parcel) × (after.taken ≡ before.taken ++ x ∷ []))

-- the turn published one letter
abbrev pub Finished : Owning → Owning → Type 0
Finished before after = (x : BoardValue) × (after.published ≡ before.published ++ x ∷ [])

-- the turn took and published nothing
abbrev pub Idle : Owning → Owning → Type 0
Idle before after = (after.taken ≡ before.taken) × (after.published ≡ before.published)

-- the opening board joined with all letters that were posted, by a list of what each sender posted. Each letter is taken once, and those of each
-- sender in the order of its posts
pub record IsBoardOfPosted (allowed : Allowance) (opening : BoardValue) (lists : List (ℕ × List BoardValue)) (board : BoardValue) : Type 0 where
  pub taken : List Parcel
  pub board_of_taken : board ≡ board_after opening (letters_of taken)
  pub each_once_in_order : (p : ℕ) → of p taken ≡ posted p lists
  pub letters : AreLetters allowed (letters_of taken)
