-- Laws of the ways by which reports come to a board.
use Rattle.std.specs.Prelude.{◌≡◌, ℕ, ◌==◌, ◌||◌, not, Bool, cond, true, false, List, [], ◌∷◌, ◌++◌, refl}
use Rattle.std.proofs.Common.{sym, subst, inl, inr}
use Rattle.std.specs.List.{concat}
use Rattle.std.proofs.lemmas.Bool.{cases_Bool}
use Rattle.std.proofs.lemmas.List.{append-nil, append_assoc}
use Rattle.squall_key.specs.Lemmas.{same_number}
use Rattle.squall_plan.specs.Ranges.{owner_of}
use Rattle.squall_course.specs.Change.{Change}
use Rattle.squall_report.specs.Facts.{Fact}
use Rattle.squall_report.specs.Told.{told_by, told_by_report}
use Rattle.squall_board.specs.Boards.{BoardValue, HasTaken, IsBoard, empty_board, told}
use Rattle.squall_board.specs.BoardLaws.{has_both, has_none, one_tells, same_taken}
use Rattle.squall_board.specs.Route.{route}
use Rattle.squall_wire.specs.declared.message.Message.{Message}
use Rattle.squall_wire.specs.HearingLaws.{one_hearing, pieces_are_one_push}
use Rattle.squall_headline.specs.Ways.{Reports, Sent, SentBoard, SentDigest, Way, ByTake, ByTakeAll, ByMerge, ByFrames, reports_sent, reports_by, reports_of, messages_of, ArePacked, TakesIn, IsStreamed, Leads, LeadOn, LeadTo, BringTheSame, IsSent}

-- messages of what was sent, taken in one after the other
taken_in : (ss : List Sent) (b c : BoardValue) (rs : Reports) → ArePacked ss → HasTaken b rs → TakesIn (messages_of ss) b c → HasTaken c (rs ++ reports_sent ss)
taken_in [] b c rs packed has same = subst (λ (qs : Reports). HasTaken c qs) (sym (append-nil rs)) (subst (λ (x : BoardValue). HasTaken x rs) same has)
taken_in (SentBoard p ∷ ss) b c rs packed has takes =
    let middle : HasTaken takes.0 (rs ++ p.reports) = has_both (told takes.0) (told b) (told p.board) rs p.reports takes.1 has packed.0 in
    subst (λ (qs : Reports). HasTaken c qs) (append_assoc rs p.reports (reports_sent ss)) (taken_in ss takes.0 c (rs ++ p.reports) packed.1 middle takes.2)
taken_in (SentDigest d ∷ ss) b c rs packed has takes = taken_in ss b c rs packed.1 has takes

-- a feed gives the messages that were sent, wherever their stream was cut
same_messages : (ss : List Sent) (pieces : List (List ℕ)) (b c : BoardValue) (s : IsStreamed ss pieces b c) → s.messages ≡ messages_of ss
same_messages ss pieces b c s =
    let on = pieces_are_one_push s.old pieces s.messages s.fault s.new s.unended s.is_feed s.heard in
    (one_hearing (s.old.waiting ++ concat pieces) s.messages (messages_of ss) s.fault s.ends on.rest s.rest on.heard s.stream).0

-- what was taken before, and what the call brings
leads : (w : Way) (b c : BoardValue) (rs : Reports) → HasTaken b rs → Leads w b c → HasTaken c (rs ++ reports_by w)
leads (ByTake r) b c rs has tells = has_both (told c) (told b) (told_by_report r) rs (r ∷ []) tells has (one_tells r)
leads (ByTakeAll qs) b c rs has tells = has_both (told c) (told b) (told_by qs) rs qs tells has (record { facts = λ f. refl; issues = λ n. refl })
leads (ByMerge p) b c rs has tells = has_both (told c) (told b) (told p.board) rs p.reports tells.1 has tells.0
leads (ByFrames ss pieces) b c rs has s = taken_in ss b c rs s.packed has (subst (λ (ms : List Message). TakesIn ms b c) (same_messages ss pieces b c s) s.taken)

lead_on : (ws : List Way) (b c : BoardValue) (rs : Reports) → HasTaken b rs → LeadOn ws b c → HasTaken c (rs ++ reports_of ws)
lead_on [] b c rs has same = subst (λ (qs : Reports). HasTaken c qs) (sym (append-nil rs)) (subst (λ (x : BoardValue). HasTaken x rs) same has)
lead_on (w ∷ ws) b c rs has on =
    subst (λ (qs : Reports). HasTaken c qs) (append_assoc rs (reports_by w) (reports_of ws)) (lead_on ws on.0 c (rs ++ reports_by w) (leads w b on.0 rs has on.1) on.2)

-- a board has taken what came to it
pub has_come_by : (ws : List Way) (b : BoardValue) → LeadTo ws b → HasTaken b (reports_of ws)
has_come_by ws b leads = lead_on ws empty_board b [] has_none leads

-- boards to which the same came are one
pub same_boards : (ws vs : List Way) (a b : BoardValue) → IsBoard a → IsBoard b → LeadTo ws a → LeadTo vs b → BringTheSame ws vs → a ≡ b
same_boards ws vs a b x y f g same = same_taken a b (reports_of ws) (reports_of vs) x y (has_come_by ws a f) (has_come_by vs b g) same

-- ---- where keys are sent

or_true : (same : Bool) (new old : ℕ) → cond (not (not same) || true) new old ≡ new
or_true true new old = refl
or_true false new old = refl

-- the owner of a key that has not come
not_moved : (old new : ℕ) → cond (not (not (old == new)) || false) new old ≡ old
not_moved old new = elim (cases_Bool (old == new)) [
  | inl is ↦ rw is (sym (same_number old new is))
  | inr is ↦ rw is refl
]

pub sent_by_route : (c : Change) (says : Fact → Bool) (k : ℕ) → IsSent c says k (route c says k)
sent_by_route c says k = record {
  come = λ e. rw e (or_true (owner_of c.old k == owner_of c.new k) (owner_of c.new k) (owner_of c.old k));
  not_come = λ e. rw e (not_moved (owner_of c.old k) (owner_of c.new k));
}
