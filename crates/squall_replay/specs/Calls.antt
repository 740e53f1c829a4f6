-- Calls of a partition, and logs of them (this project; that a node is rebuilt by its log of calls: state machine replication, Schneider 1990).
use Rattle.std.specs.Prelude.{◌≡◌, ℕ, List, [], ◌∷◌, Some, take, Result, Ok, Err}
use Rattle.std.specs.List.{slice_get}
use Rattle.squall_board.specs.Boards.{BoardValue}
use Rattle.squall_board.specs.Takes.{TakesBoard}
use Rattle.squall_part.specs.declared.loading.Load.TheVariants.{Loaded as LoadedNow, Again as LoadedBefore}
use Rattle.squall_part.specs.Parts.{PartValue, IsPart, course_of_part, given_by, loaded_by, closed_by}
use Rattle.squall_part.specs.Giving.{IsGiven, IsGivenAt, after_close}
use Rattle.squall_part.specs.Loading.{IsLoaded, IsFinished}
use Rattle.squall_replay.specs.declared.call.Call.{Call}
use Rattle.squall_replay.specs.declared.call.Call.TheVariants.{Absorb, Give, GiveAt, Load, Finish, Close}
use Rattle.squall_replay.specs.declared.call.Answer.{Answer}
use Rattle.squall_replay.specs.declared.call.Answer.TheVariants.{Absorbed, Gave, Loaded, Again, Finished, Closed}
use Rattle.squall_replay.specs.declared.fault.CallFault.{CallFault}
use Rattle.squall_replay.specs.declared.fault.CallFault.TheVariants.{Give as NotGiven, Load as NotLoaded, Finish as NotFinished, NoMemory}

-- ---- one call

-- the partition has absorbed the delta: its board takes that, it holds, gave and loaded what it did before, and it is closed under the
-- same numbers
pub record Absorbs (p : PartValue) (delta : BoardValue) (q : PartValue) : Type 0 where
  pub takes : TakesBoard p.board delta q.board
  pub same : q ≡ record p { board = q.board; logs = q.logs }
  pub given : (n : ℕ) → given_by q n ≡ given_by p n
  pub loaded : (n : ℕ) → loaded_by q n ≡ loaded_by p n
  pub closed : (n : ℕ) → closed_by q n ≡ closed_by p n

-- the partition answers the call so, and is the second one then
abbrev pub Happens : PartValue → Call → Answer → PartValue → Type 0
Happens p (Absorb delta) Absorbed q = Absorbs p delta q
Happens p (Absorb delta) _ q = ⊥
Happens p (Give most) (Gave chunk) q = IsGiven p most (Ok chunk) q
Happens p (Give most) _ q = ⊥
Happens p (GiveAt key) (Gave chunk) q = IsGivenAt p key (Ok chunk) q
Happens p (GiveAt key) _ q = ⊥
Happens p (Load chunk) (Loaded report) q = IsLoaded p chunk (Ok (LoadedNow report)) q
Happens p (Load chunk) Again q = IsLoaded p chunk (Ok LoadedBefore) q
Happens p (Load chunk) _ q = ⊥
Happens p (Finish sub) (Finished report) q = IsFinished p sub (Ok report) q
Happens p (Finish sub) _ q = ⊥
Happens p Close (Closed number) q = (number ≡ (course_of_part p).number) × (q ≡ after_close p)
Happens p Close _ q = ⊥

-- the partition refuses the call for the reason of that very call, and stays as it is; a delta is refused only if there is no memory, and
-- the end of a course never
abbrev pub Refuses : PartValue → Call → CallFault → PartValue → Type 0
Refuses p (Absorb delta) NoMemory q = q ≡ p
Refuses p (Absorb delta) _ q = ⊥
Refuses p (Give most) (NotGiven fault) q = IsGiven p most (Err fault) q
Refuses p (Give most) _ q = ⊥
Refuses p (GiveAt key) (NotGiven fault) q = IsGivenAt p key (Err fault) q
Refuses p (GiveAt key) _ q = ⊥
Refuses p (Load chunk) (NotLoaded fault) q = IsLoaded p chunk (Err fault) q
Refuses p (Load chunk) _ q = ⊥
Refuses p (Finish sub) (NotFinished fault) q = IsFinished p sub (Err fault) q
Refuses p (Finish sub) _ q = ⊥
Refuses p Close _ q = ⊥

-- ---- a log of calls

-- the calls, one after the other, have these answers, and lead from the first partition to the second
abbrev pub Replays : PartValue → List Call → List Answer → PartValue → Type 0
Replays p [] [] q = q ≡ p
Replays p [] (a ∷ rest) q = ⊥
Replays p (c ∷ cs) [] q = ⊥
Replays p (c ∷ cs) (a ∷ rest) q = (r : PartValue) × IsPart r × Happens p c a r × Replays r cs rest q

-- the calls lead from the first partition to the second, with some answers
abbrev pub Leads : PartValue → List Call → PartValue → Type 0
Leads p calls q = (answers : List Answer) × Replays p calls answers q

-- the calls before one of them lead there, and the partition refuses that one
abbrev pub StopsAt : PartValue → List Call → CallFault → PartValue → Type 0
StopsAt p calls fault q = (n : ℕ) × (call : Call) × (slice_get calls n ≡ Some call) × Leads p (take n calls) q × Refuses q call fault q

-- ---- what a partition did, and its log

-- a call, and how it ended
abbrev pub Try : Type 0
Try = Call × Result Answer CallFault

-- the call was answered or refused so, and led from one partition to another
abbrev pub IsTried : PartValue → Try → PartValue → Type 0
IsTried p (call, Ok answer) q = Happens p call answer q
IsTried p (call, Err fault) q = Refuses p call fault q

-- the calls, each answered or refused, led from one partition to another
abbrev pub Ran : PartValue → List Try → PartValue → Type 0
Ran p [] q = q ≡ p
Ran p (one ∷ tries) q = (r : PartValue) × IsPart r × IsTried p one r × Ran r tries q

-- the calls that were answered
abbrev pub log_of : List Try → List Call
log_of [] = []
log_of ((call, Ok answer) ∷ tries) = call ∷ log_of tries
log_of ((call, Err fault) ∷ tries) = log_of tries

-- ---- partitions that are one

-- no call tells the partitions apart: they have one number, one first course and one board, hold the same keys, gave and loaded the same
-- keys under each number, and are closed under the same numbers
pub record IsSamePart (p q : PartValue) : Type 0 where
  pub id : p.id ≡ q.id
  pub first : p.first ≡ q.first
  pub board : p.board ≡ q.board
  pub held : p.held ≡ q.held
  pub given : (n : ℕ) → given_by p n ≡ given_by q n
  pub loaded : (n : ℕ) → loaded_by p n ≡ loaded_by q n
  pub closed : (n : ℕ) → closed_by p n ≡ closed_by q n
