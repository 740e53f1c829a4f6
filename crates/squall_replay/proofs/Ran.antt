-- What a partition did leads to what its log leads to.
use Rattle.std.proofs.Common.{◌≡◌, ℕ, List, [], ◌∷◌, Ok, Err, subst}
use Rattle.squall_part.specs.declared.giving.GiveFault.{GiveFault}
use Rattle.squall_part.specs.declared.giving.GiveFault.TheVariants as give
use Rattle.squall_part.specs.declared.loading.LoadFault.{LoadFault}
use Rattle.squall_part.specs.declared.loading.LoadFault.TheVariants as load
use Rattle.squall_part.specs.declared.finishing.FinishFault.{FinishFault}
use Rattle.squall_part.specs.declared.finishing.FinishFault.TheVariants as finish
use Rattle.squall_protocol.specs.Chunks.{ChunkValue}
use Rattle.squall_part.specs.Parts.{PartValue, IsPart}
use Rattle.squall_part.specs.Giving.{IsGiven, IsGivenAt}
use Rattle.squall_part.specs.Loading.{IsLoaded, IsFinished}
use Rattle.squall_replay.specs.declared.call.Call.{Call}
use Rattle.squall_replay.specs.declared.call.Call.TheVariants.{Absorb, Give, GiveAt, Load, Finish, Close}
use Rattle.squall_replay.specs.declared.fault.CallFault.{CallFault}
use Rattle.squall_replay.specs.declared.fault.CallFault.TheVariants.{Give as NotGiven, Load as NotLoaded, Finish as NotFinished, NoMemory}
use Rattle.squall_replay.specs.Calls.{Refuses, Leads, IsSamePart, Try, Ran, log_of}
use Rattle.squall_replay.proofs.Same.{one_log, itself}

gives_not : (p q : PartValue) (most : ℕ) (fault : GiveFault) → IsGiven p most (Err fault) q → q ≡ p
gives_not p q most give.NotOpen h = h.1
gives_not p q most give.Ended h = h.1
gives_not p q most give.NothingLeft h = h.3
gives_not p q most give.ZeroMax h = h.4
gives_not p q most give.NotOutgoing h = absurd h
gives_not p q most give.Given h = absurd h
gives_not p q most give.NotHeld h = absurd h
gives_not p q most give.NoMemory h = h.3

gives_not_at : (p q : PartValue) (k : ℕ) (fault : GiveFault) → IsGivenAt p k (Err fault) q → q ≡ p
gives_not_at p q k give.NotOpen h = h.1
gives_not_at p q k give.Ended h = h.1
gives_not_at p q k give.NothingLeft h = absurd h
gives_not_at p q k give.ZeroMax h = absurd h
gives_not_at p q k give.NotOutgoing h = h.3
gives_not_at p q k give.Given h = h.4
gives_not_at p q k give.NotHeld h = h.5
gives_not_at p q k give.NoMemory h = h.5

loads_not : (p q : PartValue) (c : ChunkValue) (fault : LoadFault) → IsLoaded p c (Err fault) q → q ≡ p
loads_not p q c load.NotOpen h = h.2
loads_not p q c load.Stranger h = h.2
loads_not p q c load.NoMemory h = h.2

finishes_not : (p q : PartValue) (sub : ℕ) (fault : FinishFault) → IsFinished p sub (Err fault) q → q ≡ p
finishes_not p q sub finish.NotOpen h = h.1
finishes_not p q sub (finish.NotAll s) h = h.2
finishes_not p q sub finish.NothingDue h = h.2
finishes_not p q sub finish.NoMemory h = h.1

-- a refused call leaves the partition as it was
refused_stays : (p q : PartValue) (call : Call) (fault : CallFault) → Refuses p call fault q → q ≡ p
refused_stays p q (Absorb delta) NoMemory h = h
refused_stays p q (Absorb delta) _ h = absurd h
refused_stays p q (Give most) (NotGiven fault) h = gives_not p q most fault h
refused_stays p q (Give most) _ h = absurd h
refused_stays p q (GiveAt k) (NotGiven fault) h = gives_not_at p q k fault h
refused_stays p q (GiveAt k) _ h = absurd h
refused_stays p q (Load c) (NotLoaded fault) h = loads_not p q c fault h
refused_stays p q (Load c) _ h = absurd h
refused_stays p q (Finish sub) (NotFinished fault) h = finishes_not p q sub fault h
refused_stays p q (Finish sub) _ h = absurd h
refused_stays p q Close _ h = absurd h

pub logged : (p q : PartValue) (tries : List Try) → Ran p tries q → Leads p (log_of tries) q
logged p q [] h = ([], h)
logged p q ((call, Ok answer) ∷ tries) h =
    let rest : Leads h.0 (log_of tries) q = logged h.0 q tries h.3 in
    (answer ∷ rest.0, (h.0, h.1, h.2, rest.1))
logged p q ((call, Err fault) ∷ tries) h = subst (λ v. Leads v (log_of tries) q) (refused_stays p h.0 call fault h.2) (logged h.0 q tries h.3)

pub rebuilt : (p q r : PartValue) (tries : List Try) → IsPart p → Ran p tries q → Leads p (log_of tries) r → IsSamePart q r
rebuilt p q r tries is ran leads =
    let own : Leads p (log_of tries) q = logged p q tries ran in
    (one_log p p q r (log_of tries) own.0 leads.0 is is (itself p) own.1 leads.1).1
