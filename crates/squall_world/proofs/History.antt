-- What nodes know: it stays true where one makes a report or hears more, and where nodes come.
use Rattle.std.proofs.Common.{◌≡◌, ◌≢◌, ℕ, ◌-◌, ◌<◌, ◌≤◌, ◌==◌, Bool, true, false, List, [], ◌∷◌, ◌++◌, length, get_or, Some, refl, sym, ap, subst, ◌∙◌, arith, inl, inr}
use Rattle.std.specs.Prelude.{◌⊎◌}
use Rattle.std.specs.List.{slice_get, AllByRecursion}
use Rattle.std.proofs.lemmas.Bool.{cases_lt}
use Rattle.std.proofs.lemmas.Option.{same_Some}
use Rattle.squall_report.specs.declared.report.ReportKind.{ReportKind}
use Rattle.squall_report.specs.Issues.{PlanPair}
use Rattle.squall_board.specs.Boards.{BoardValue, IsBoard, board_join, empty_board, report_board}
use Rattle.squall_board.specs.BoardLaws.{join_is, empty_is}
use Rattle.squall_world.specs.declared.peer.Role.{Role}
use Rattle.squall_world.specs.Nets.{PeerValue, NetValue, MessageValue, IsNet, IsPeer, IsKnowing, IsMessage, AreWithin, IsRole, told_from, told_with, reported, turned, role_board, put_at}
use Rattle.squall_world.proofs.Lists.{eq_same, eq_apart, put_here, put_there, all_put, all_map, all_append, all_at, get_left, get_right}
use Rattle.squall_world.proofs.Boards.{AreBoards, length_both, join_none, join_swap}
use Rattle.squall_world.proofs.Told.{AreMade, told_is, told_none, told_more, told_own, told_new, within_more, within_own, within_new, noted_at}

-- what nodes know, and messages tell
pub record IsHistory (ps : List PeerValue) (ms : List MessageValue) : Type 0 where
  pub peers : AllByRecursion IsPeer ps
  pub knowing : (i : ℕ) (p : PeerValue) → slice_get ps i ≡ Some p → IsKnowing ps i p
  pub messages : AllByRecursion (IsMessage ps) ms

pub history_of : (n : NetValue) → IsNet n → IsHistory n.peers n.messages
history_of n net = record { peers = net.peers; knowing = net.knowing; messages = net.messages }

pub made_of : (ps : List PeerValue) → AllByRecursion IsPeer ps → AreMade ps
made_of ps all = all_map IsPeer (λ p. AreBoards p.reports) ps (λ p is. is.reports) all

-- the board of a node is a board
pub board_is : (n : NetValue) (i : ℕ) (p : PeerValue) → IsNet n → slice_get n.peers i ≡ Some p → IsBoard (role_board p.role)
board_is n i p net there =
    subst IsBoard (sym (net.knowing i p there).board) (join_is (told_from n.peers p.known) p.extra (told_is n.peers p.known (made_of n.peers net.peers)) (all_at IsPeer n.peers i p net.peers there).extra)

-- ---- one node is another

-- it is a node, made more reports, and knows what it should where it stands
pub record IsMore (ps : List PeerValue) (at : ℕ) (a c : PeerValue) : Type 0 where
  pub there : slice_get ps at ≡ Some a
  pub valid : IsPeer c
  pub more : List (ReportKind PlanPair)
  pub reports : c.reports ≡ a.reports ++ more
  pub knows : IsKnowing (put_at at c ps) at c

pub no_fewer : (a c : PeerValue) (more : List (ReportKind PlanPair)) → c.reports ≡ a.reports ++ more → length a.reports ≤ length c.reports
no_fewer a c more e = let l = ap length e ∙ length_both a.reports more in omega (arith, l)

-- the changed list has the changed node, or what stood there
at_put : (ps : List PeerValue) (at j : ℕ) (a c x : PeerValue) → slice_get ps at ≡ Some a → slice_get (put_at at c ps) j ≡ Some x → ((j ≡ at) × (c ≡ x)) ⊎ ((j ≢ at) × (slice_get ps j ≡ Some x))
at_put ps at j a c x there e = by (j == at) refl
  where
    by : (b : Bool) → (j == at) ≡ b → ((j ≡ at) × (c ≡ x)) ⊎ ((j ≢ at) × (slice_get ps j ≡ Some x))
    by true t = let s = eq_same j at t in inl (s, same_Some c x (sym (put_here at c a ps there) ∙ ap (slice_get (put_at at c ps)) (sym s) ∙ e))
    by false t = let d = eq_apart j at t in inr (d, sym (put_there at j c ps d) ∙ e)

pub history_more : (ps : List PeerValue) (ms : List MessageValue) (at : ℕ) (a c : PeerValue) → IsHistory ps ms → IsMore ps at a c → IsHistory (put_at at c ps) ms
history_more ps ms at a c h g = record {
  peers = all_put IsPeer at c ps g.valid h.peers;
  knowing = λ i x e. knowing i x (at_put ps at i a c x g.there e);
  messages = all_map (IsMessage ps) (IsMessage (put_at at c ps)) ms (λ m x. record { within = within_more at ps m.known a c g.there (no_fewer a c g.more g.reports) x.within; extra = x.extra }) h.messages;
}
  where
    knowing : (i : ℕ) (x : PeerValue) → ((i ≡ at) × (c ≡ x)) ⊎ ((i ≢ at) × (slice_get ps i ≡ Some x)) → IsKnowing (put_at at c ps) i x
    knowing i x (inl e) = subst (λ v. IsKnowing (put_at at c ps) i v) e.1 (subst (λ v. IsKnowing (put_at at c ps) v c) (sym e.0) g.knows)
    knowing i x (inr e) =
        let k = h.knowing i x e.1 in
        record {
          within = within_more at ps x.known a c g.there (no_fewer a c g.more g.reports) k.within;
          board = k.board ∙ ap (λ v. board_join v x.extra) (sym (told_more at ps x.known a c g.more g.there g.reports k.within));
          own = k.own;
        }

append_none : (rs : List (ReportKind PlanPair)) → rs ++ [] ≡ rs
append_none [] = refl
append_none (r ∷ rs) = ap (λ v. r ∷ v) (append_none rs)

-- a node that knows what it knew
pub more_turned : (ps : List PeerValue) (ms : List MessageValue) (at : ℕ) (a : PeerValue) (role : Role) → IsHistory ps ms → slice_get ps at ≡ Some a → IsRole role → role_board role ≡ role_board a.role → IsMore ps at a (turned a role)
more_turned ps ms at a role h there is same =
    let k = h.knowing at a there in
    let valid = all_at IsPeer ps at a h.peers there in
    record {
      there = there;
      valid = record { role = is; reports = valid.reports; extra = valid.extra };
      more = [];
      reports = sym (append_none a.reports);
      knows = record {
        within = within_more at ps a.known a (turned a role) there (no_fewer a (turned a role) [] (sym (append_none a.reports))) k.within;
        board = same ∙ k.board ∙ ap (λ v. board_join v a.extra) (sym (told_more at ps a.known a (turned a role) [] there (sym (append_none a.reports)) k.within));
        own = k.own;
      };
    }

-- a node that made a report
pub more_reported : (ps : List PeerValue) (ms : List MessageValue) (at : ℕ) (a : PeerValue) (role : Role) (r : ReportKind PlanPair) → IsHistory ps ms → slice_get ps at ≡ Some a → IsRole role → IsBoard (report_board r) → role_board role ≡ board_join (role_board a.role) (report_board r)
    → IsMore ps at a (reported at a role r)
more_reported ps ms at a role r h there is board joins =
    let k = h.knowing at a there in
    let valid = all_at IsPeer ps at a h.peers there in
    record {
      there = there;
      valid = record { role = is; reports = all_append (λ v. IsBoard (report_board v)) a.reports (r ∷ []) valid.reports (board, tt); extra = valid.extra };
      more = r ∷ [];
      reports = refl;
      knows = record {
        within = within_own at ps a.known a (reported at a role r) there k.within;
        board = joins ∙ ap (λ v. board_join v (report_board r)) k.board ∙ join_swap (told_from ps a.known) a.extra (report_board r) (told_is ps a.known (made_of ps h.peers)) valid.extra board
            ∙ ap (λ v. board_join v a.extra) (sym (told_own at ps a.known a (reported at a role r) r (made_of ps h.peers) board there refl k.own));
        own = noted_at at (length (a.reports ++ r ∷ [])) a.known;
      };
    }

-- ---- nodes come

pub record IsNew (p : PeerValue) : Type 0 where
  pub role : IsRole p.role
  pub board : role_board p.role ≡ empty_board
  pub reports : p.reports ≡ []
  pub known : p.known ≡ []
  pub extra : p.extra ≡ empty_board

new_is : (p : PeerValue) → IsNew p → IsPeer p
new_is p new = record { role = new.role; reports = subst AreBoards (sym new.reports) tt; extra = subst IsBoard (sym new.extra) empty_is }

-- nothing told
none_with : (ps : List PeerValue) (ks : List ℕ) (extra : BoardValue) → ks ≡ [] → extra ≡ empty_board → told_with ps ks extra ≡ empty_board
none_with ps ks extra none empty = (λ i. told_with ps (none i) (empty i)) ∙ ap (λ v. board_join v empty_board) (told_none ps) ∙ join_none empty_board empty_is

-- an element of two lists is of the first, or stands beyond it
at_end : (ps qs : List PeerValue) (i : ℕ) (x : PeerValue) → slice_get (ps ++ qs) i ≡ Some x → ((i < length ps) × (slice_get ps i ≡ Some x)) ⊎ ((length ps ≤ i) × (slice_get qs (i - length ps) ≡ Some x))
at_end ps qs i x e = elim (cases_lt i (length ps)) [
  | inl lt ↦ inl (lt, sym (get_left ps qs i lt) ∙ e)
  | inr le ↦ inr (le, sym (get_right ps qs (i - length ps)) ∙ ap (slice_get (ps ++ qs)) (omega (arith, le)) ∙ e)
]

pub history_new : (ps qs : List PeerValue) (ms : List MessageValue) → IsHistory ps ms → AllByRecursion IsNew qs → IsHistory (ps ++ qs) ms
history_new ps qs ms h new = record {
  peers = all_append IsPeer ps qs h.peers (all_map IsNew IsPeer qs new_is new);
  knowing = λ i x e. knowing i x (at_end ps qs i x e);
  messages = all_map (IsMessage ps) (IsMessage (ps ++ qs)) ms (λ m x. record { within = within_new ps qs m.known x.within; extra = x.extra }) h.messages;
}
  where
    knowing : (i : ℕ) (x : PeerValue) → ((i < length ps) × (slice_get ps i ≡ Some x)) ⊎ ((length ps ≤ i) × (slice_get qs (i - length ps) ≡ Some x)) → IsKnowing (ps ++ qs) i x
    knowing i x (inl e) =
        let k = h.knowing i x e.1 in
        record { within = within_new ps qs x.known k.within; board = k.board ∙ ap (λ v. board_join v x.extra) (sym (told_new ps qs x.known k.within)); own = k.own }
    knowing i x (inr e) =
        let k = all_at IsNew qs (i - length ps) x new e.1 in
        record {
          within = subst (AreWithin (ps ++ qs)) (sym k.known) tt;
          board = k.board ∙ sym (none_with (ps ++ qs) x.known x.extra k.known k.extra);
          own = ap (λ v. get_or v i 0) k.known ∙ ap length (sym k.reports);
        }
