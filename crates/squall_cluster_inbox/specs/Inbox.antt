-- The rule of the inbox: nothing that is posted is lost, repeated or made up, and each sender's letters keep their order (this project).
use Rattle.std.specs.Prelude.{◌≡◌, ◌==◌, ℕ, ◌+◌, ◌≤◌, true, false, cond, List, [], ◌∷◌, ◌++◌, length}
use Prim.Native.Nat.{zero, suc}
use mathlib.Core.Option.{some}
use lib.ListN.{get_elem?}
use Rattle.squall_board.specs.Boards.{BoardValue}
use Rattle.squall_cluster_inbox.specs.declared.letter.Parcel.{Parcel}
use Rattle.squall_cluster_inbox.specs.declared.knows.Knows.{Knows}
use Rattle.squall_cluster_inbox.specs.Letters.{Allowance, AreLetters, letters_of}

-- the letters of sender p, in order
abbrev pub of : ℕ → List Parcel → List BoardValue
of p [] = []
of p (m ∷ ms) = cond (m.from == p) (m.letter ∷ of p ms) (of p ms)

-- what sender p posted, by a list of what was posted by sender
abbrev pub posted : ℕ → List (ℕ × List BoardValue) → List BoardValue
posted p [] = []
posted p (k ∷ ks) = cond (k.0 == p) k.1 (posted p ks)

-- these letters are the last of those
abbrev pub AreLast : List BoardValue → List BoardValue → Type 0
AreLast xs all = (before : List BoardValue) × (all ≡ before ++ xs)

-- ---- what an end of the inbox knows

-- the taker's: what was taken, how many senders were made, and what those posted that it vouches for
abbrev pub taker : List Parcel → ℕ → List (ℕ × List BoardValue) → Knows
taker taken made vouched = record { sends = false; from = 0; put = []; owns = true; taken = taken; made = made; vouched = vouched }

-- a sender's: its number and what it posted
abbrev pub sender : ℕ → List BoardValue → Knows
sender from put = record { sends = true; from = from; put = put; owns = false; taken = []; made = 0; vouched = [] }

-- that of a sender that was joined to the taker
abbrev pub nobody : Knows
nobody = record { sends = false; from = 0; put = []; owns = false; taken = []; made = 0; vouched = [] }

-- ---- the rule

abbrev pub present : ℕ → ℕ
present zero = 0
present (suc k) = 1

-- how many senders below n still post
abbrev pub live : (ℕ → ℕ) → ℕ → ℕ
live seat zero = 0
live seat (suc n) = live seat n + present (seat n)

-- a live sender has one pass, which knows what it posted (seat p is 0 if p has ended or never was, and else the pass plus 1)
abbrev pub FitsSender : (ℕ → ℕ) → (ℕ → List BoardValue) → ℕ → Knows → Type 0
FitsSender seat sent pass v = v.sends ≡ true → (seat v.from ≡ pass + 1) × (v.put ≡ sent v.from)

-- the one taker knows what was taken, and vouches for what each sender posted that has ended
abbrev pub FitsTaker : ℕ → (ℕ → ℕ) → (ℕ → List BoardValue) → List Parcel → ℕ → Knows → Type 0
FitsTaker keeper seat sent taken pass v =
    v.owns ≡ true
    → (pass ≡ keeper) × (v.taken ≡ taken)
    × ((p : ℕ) → v.made ≤ p → (seat p ≡ 0) × (sent p ≡ []))
    × ((p : ℕ) → seat p ≡ 0 → posted p v.vouched ≡ sent p)
    × (live seat v.made + length v.vouched ≡ v.made)

-- what each sender posted is what was taken of it, and then what the queue holds of it
abbrev pub Delivers : List Parcel → List Knows → Type 0
Delivers items views =
    (keeper : ℕ) × (seat : ℕ → ℕ) × (sent : ℕ → List BoardValue) × (taken : List Parcel)
    × ((p : ℕ) → of p (taken ++ items) ≡ sent p)
    × ((pass : ℕ) (v : Knows) → get_elem? views pass ≡ some v → FitsSender seat sent pass v × FitsTaker keeper seat sent taken pass v)

-- the same, and what the queue holds is allowed
abbrev pub Ruled : Allowance → List Parcel → List Knows → Type 0
Ruled allowed items views = AreLetters allowed (letters_of items) × Delivers items views
