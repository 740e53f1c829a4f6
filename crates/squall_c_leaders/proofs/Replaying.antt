-- What the calls of a log lead to.
use Rattle.std.specs.Prelude.{◌≡◌, true, false, List, [], ◌∷◌, Err}
use Rattle.std.proofs.Common.{sym, ap, subst, ◌∙◌}
use Rattle.std.proofs.lemmas.Option.{same_Some}
use Rattle.squall_plan.specs.declared.range.PlanRange.{PlanRange}
use Rattle.squall_course.specs.Change.{Change}
use Rattle.squall_leader.specs.declared.fault.LeaderFault.{LeaderFault}
use Rattle.squall_leader.specs.declared.fault.LeaderFault.TheVariants.{Running, NoNumber, Idle, NotDone, NoMore, NoMemory}
use Rattle.squall_leader.specs.Leaders.{LeaderValue, IsBegun, IsBegunFrom, IsOpened, after_begin, after_open}
use Rattle.squall_c_leaders.specs.Replay.{LeaderCall, Absorbs, Begins, BeginsFrom, OpensNext, Try, IsDone, IsFailed, Replays, Ran, log_of}

-- a call that is done leads to one leader only
pub one_done : (l m n : LeaderValue) (call : LeaderCall) → IsDone l call m → IsDone l call n → m ≡ n
one_done l m n (Absorbs delta) a b = a ∙ sym b
one_done l m n (Begins plan) (c, a) (d, b) = a.3 ∙ ap (λ (x : Change). after_begin l x) (a.2 ∙ sym b.2) ∙ sym b.3
one_done l m n (BeginsFrom old new) (c, a) (d, b) = a.2 ∙ ap (λ (x : Change). after_begin l x) (a.1 ∙ sym b.1) ∙ sym b.2
one_done l m n OpensNext (r, a) (q, b) = a.5 ∙ ap (λ (x : Change). after_open l x) (same_Some a.0 b.0 (sym a.1 ∙ b.1)) ∙ sym b.5

-- so does a list of them
pub one_replay : (calls : List LeaderCall) (l m n : LeaderValue) → Replays l calls m → Replays l calls n → m ≡ n
one_replay [] l m n a b = a ∙ sym b
one_replay (call ∷ calls) l m n (x, a, rest) (y, b, more) =
    one_replay calls y m n (subst (λ (z : LeaderValue). Replays z calls m) (one_done l x y call a b) rest) more

-- a course that is not begun changes nothing
pub begin_failed : (l m : LeaderValue) (plan : List PlanRange) (fault : LeaderFault) → IsBegun l plan (Err fault) m → m ≡ l
begin_failed l m plan Running a = a.1
begin_failed l m plan NoNumber a = a.2
begin_failed l m plan Idle a = elim a [ ]
begin_failed l m plan (NotDone sub part) a = elim a [ ]
begin_failed l m plan NoMore a = elim a [ ]
begin_failed l m plan NoMemory a = a.2

-- nor does a course from one plan to another
pub from_failed : (l m : LeaderValue) (old new : List PlanRange) (fault : LeaderFault) → IsBegunFrom l old new (Err fault) m → m ≡ l
from_failed l m old new Running a = elim a [ ]
from_failed l m old new NoNumber a = a.1
from_failed l m old new Idle a = elim a [ ]
from_failed l m old new (NotDone sub part) a = elim a [ ]
from_failed l m old new NoMore a = elim a [ ]
from_failed l m old new NoMemory a = a.1

-- a sub-plan that is not opened changes nothing
pub open_failed : (l m : LeaderValue) (fault : LeaderFault) → IsOpened l (Err fault) m → m ≡ l
open_failed l m Running a = elim a [ ]
open_failed l m NoNumber a = elim a [ ]
open_failed l m Idle a = a.1
open_failed l m (NotDone sub part) a = a.4
open_failed l m NoMore a = a.4
open_failed l m NoMemory a = a.4

-- a call that fails changes nothing
pub failed_same : (l m : LeaderValue) (call : LeaderCall) → IsFailed l call m → m ≡ l
failed_same l m (Absorbs delta) a = a
failed_same l m (Begins plan) (fault, a) = begin_failed l m plan fault a
failed_same l m (BeginsFrom old new) (fault, a) = from_failed l m old new fault a
failed_same l m OpensNext (fault, a) = open_failed l m fault a

-- the calls that were done lead to what they led to among others that failed
pub logged : (tries : List Try) (l m : LeaderValue) → Ran l tries m → Replays l (log_of tries) m
logged [] l m a = a
logged ((call, true) ∷ tries) l m (x, a, rest) = (x, a, logged tries x m rest)
logged ((call, false) ∷ tries) l m (x, a, rest) =
    subst (λ (z : LeaderValue). Replays z (log_of tries) m) (failed_same l x call a) (logged tries x m rest)
