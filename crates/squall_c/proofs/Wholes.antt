-- A station that has heard one message more.
use Rattle.std.specs.Prelude.{◌≡◌, List, [], ◌∷◌, refl}
use Rattle.std.proofs.Common.{sym, ap, subst, ◌∙◌, arith, inl, inr}
use Rattle.squall_board.specs.Boards.{BoardValue, IsBoard, board_join}
use Rattle.squall_wire.specs.declared.message.Message.{Message}
use Rattle.squall_wire.specs.declared.message.Message.TheVariants.{Delta, Digest}
use Rattle.squall_wire.specs.DigestValue.{DigestValue}
use Rattle.squall_wire.specs.Messages.{IsMessage}
use Rattle.squall_delta.specs.Pieces.{joined_boards}
use Rattle.squall_router.specs.Routers.{router_with}
use Rattle.squall_c.specs.declared.router.Station.{Station}
use Rattle.squall_c_frames.specs.Joined.{deltas_of, last_digest}
use Rattle.squall_c_frames.specs.JoinedLaws.{one_delta, join_after}
use Rattle.squall_c.specs.Limits.{IsAdmitted, IsRefused, IsWithinLimit, IsBeyondLimit, joined_with, count_after}
use Rattle.squall_c.specs.Feeding.{heard_station, joined_station}
use Rattle.squall_c.specs.WholeFrames.{absorbed_station, kept_station}

-- the board of a delta alone is what its message tells
delta_joined : (s : Station) (m : Message) (d : BoardValue) → IsMessage m → m ≡ Delta d → board_join s.router.board d ≡ joined_with s (m ∷ [])
delta_joined s m d is e = ap (λ (b : BoardValue). board_join s.router.board b) (one_delta (m ∷ []) m d refl refl e (omega arith) (is, tt))

pub delta_heard : (s n : Station) (m : Message) (d : BoardValue) → IsMessage m → m ≡ Delta d → n ≡ absorbed_station s d → n ≡ heard_station s (m ∷ []) s.feed
delta_heard s n m d is e after = after ∙ (λ i. record s {
  router = router_with s.router.first (delta_joined s m d is e i);
  heard = ap (λ (x : Message). last_digest s.heard (x ∷ [])) (sym e) i;
  taken = count_after s.taken 1;
})

pub delta_admitted : (s : Station) (m : Message) (d : BoardValue) → IsMessage m → m ≡ Delta d → IsWithinLimit s.most (board_join s.router.board d) → IsAdmitted s (m ∷ [])
delta_admitted s m d is e within = inr (subst (λ (b : BoardValue). IsWithinLimit s.most b) (delta_joined s m d is e) within)

pub delta_refused : (s : Station) (m : Message) (d : BoardValue) → IsMessage m → m ≡ Delta d → IsBeyondLimit s.most (board_join s.router.board d) → IsRefused s (m ∷ [])
delta_refused s m d is e beyond = (brings m d e, subst (λ (b : BoardValue). IsBeyondLimit s.most b) (delta_joined s m d is e) beyond)
  where
    some : (b : BoardValue) (bs : List BoardValue) → b ∷ bs ≡ [] → ⊥
    some b bs h = cc

    brings : (m : Message) (d : BoardValue) → m ≡ Delta d → deltas_of (m ∷ []) ≡ [] → ⊥
    brings m d e h = some d [] (sym (ap (λ (x : Message). deltas_of (x ∷ [])) e) ∙ h)

pub digest_heard : (s n : Station) (m : Message) (d : DigestValue) → m ≡ Digest d → IsBoard s.router.board → n ≡ kept_station s d → n ≡ heard_station s (m ∷ []) s.feed
digest_heard s n m d e is after =
    let same : s.router.board ≡ joined_with s (m ∷ []) =
    sym (ap (λ (x : Message). board_join s.router.board (joined_boards (deltas_of (x ∷ [])))) e ∙ join_after s.router.board is) in
    after ∙ (λ i. record s {
      router = router_with s.router.first (same i);
      heard = ap (λ (x : Message). last_digest s.heard (x ∷ [])) (sym e) i;
      taken = count_after s.taken 1;
    })

pub digest_admitted : (s : Station) (m : Message) (d : DigestValue) → m ≡ Digest d → IsAdmitted s (m ∷ [])
digest_admitted s m d e = inl (ap (λ (x : Message). deltas_of (x ∷ [])) e)

-- messages without a board tell nothing
pub silent_station : (s : Station) (ms : List Message) → IsBoard s.router.board → deltas_of ms ≡ [] → s ≡ joined_station s ms
silent_station s ms is none =
    ap (λ (b : BoardValue). record s { router = router_with s.router.first b }) (sym (ap (λ (ds : List BoardValue). board_join s.router.board (joined_boards ds)) none ∙ join_after s.router.board is))
