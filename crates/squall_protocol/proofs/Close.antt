-- A partition that gives no more keeps what holds.
use Rattle.std.proofs.Common.{◌≡◌, ℕ, ◌+◌, ◌==◌, ◌&&◌, true, false, refl, inl, inr, ⊎_elim, le_refl}
use Rattle.std.proofs.lemmas.Bool.{or_left}
use Rattle.squall_report.specs.Queries.{Queries}
use Rattle.squall_protocol.specs.Worlds.{WorldValue}
use Rattle.squall_protocol.specs.Steps.{after_close}
use Rattle.squall_protocol.proofs.Courses.{old_owner, new_owner, Moves}
use Rattle.squall_protocol.proofs.Kept.{TrueFacts, IsGiven, IsLoaded, IsSent, HasChunk, Kept}
use Rattle.squall_protocol.proofs.Later.{Later, true_later}

pub later_close : (w : WorldValue) (n p : ℕ) → Later w (after_close w n p)
later_close w n p = record { old = λ m h. refl; new = λ m h. refl; last = le_refl w.last; opened = λ n h. le_refl (w.opened n); given = λ m r k h. h; loaded = λ m r k h. h }

pub keeps_close : (w : WorldValue) (n p : ℕ) → Kept w → Kept (after_close w n p)
keeps_close w n p kept =
    record {
      first = kept.first;
      numbers = kept.numbers;
      olds = kept.olds;
      news = kept.news;
      old_there = kept.old_there;
      new_there = kept.new_there;
      held_true = kept.held_true;
      held_from = kept.held_from;
      given = λ m r k h. let g : IsGiven w m r k = kept.given m r k h in record { first = g.first; last = g.last; moves = g.moves; source = g.source; opened = g.opened; hears = g.hears };
      loaded = λ m r k h. let l : IsLoaded w m r k = kept.loaded m r k h in record { dest = l.dest; given = l.given; hears = l.hears };
      left = λ m k a b. ⊎_elim
          (λ (x : (old_owner w (m + 1) k ≡ new_owner w m k) × (Moves w m k → w.loaded m (old_owner w (m + 1) k) k ≡ true)). inl x)
          (λ (x : (old_owner w (m + 1) k ≡ old_owner w m k) × Moves w m k × (w.given m (old_owner w (m + 1) k) k ≡ false) × (w.closed m (old_owner w (m + 1) k) ≡ true)).
          inr (x.0, x.1, x.2, or_left (w.closed m (old_owner w (m + 1) k)) ((m == n) && (old_owner w (m + 1) k == p)) x.3))
          (kept.left m k a b);
      earlier = kept.earlier;
      facts = λ m. still (w.facts m) (kept.facts m);
      messages = λ i message h. still message (kept.messages i message h);
      some = kept.some;
      sent = λ j a h k x. let y : IsSent w a k = kept.sent j a h k x in record { source = y.source; dest = y.dest; sub = y.sub; given = y.given };
      once = kept.once;
      somewhere = λ m r k h. let g : HasChunk w m r k = kept.somewhere m r k h in record { index = g.index; chunk = g.chunk; there = g.there; number = g.number; source = g.source; keys = g.keys };
    }
  where
    still : (f : Queries) → TrueFacts w f → TrueFacts (after_close w n p) f
    still f t = true_later w (after_close w n p) f (later_close w n p) t
