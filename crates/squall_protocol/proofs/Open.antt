-- Opening a sub-plan keeps what holds.
use Rattle.std.proofs.Common.{◌≡◌, ◌≢◌, ℕ, ◌+◌, ◌<◌, ◌≤◌, ◌==◌, cond, true, refl, ⊎_elim, arith, le_refl}
use Rattle.std.proofs.lemmas.Bool.{cases_lt, true_from_ne_false, cond_both, cond-true, eq-eqb}
use Rattle.squall_report.specs.Cells.{place_at}
use Rattle.squall_report.specs.Queries.{Queries, opened_queries}
use Rattle.squall_protocol.specs.declared.event.Node.TheVariants.{Leader}
use Rattle.squall_protocol.specs.Worlds.{WorldValue}
use Rattle.squall_protocol.specs.Steps.{after_open, NoneWanting}
use Rattle.squall_protocol.proofs.Courses.{new_owner, sub_in, count_of, Moves, incoming_is}
use Rattle.squall_protocol.proofs.Kept.{TrueFacts, IsGiven, IsLoaded, IsSent, HasChunk, Kept}
use Rattle.squall_protocol.proofs.Later.{Later, true_later}
use Rattle.squall_protocol.proofs.Says.{opened_true}
use Rattle.squall_protocol.proofs.Tell.{keeps_told}

-- the leader was told that each partition has all of the sub-plan opened last
abbrev pub AllDone : WorldValue → Type 0
AllDone w = (k : ℕ) → Moves w w.last k → sub_in w w.last k + 1 ≡ w.opened w.last → (w.facts Leader).done (place_at w.last (sub_in w w.last k) (new_owner w w.last k)) ≡ true

-- if it waits for none, it was
pub all_done : (w : WorldValue) → NoneWanting w → AllDone w
all_done w none k m e = true_from_ne_false ((w.facts Leader).done (place_at w.last (sub_in w w.last k) (new_owner w w.last k))) (λ waiting.
    none (sub_in w w.last k) (new_owner w w.last k) (record { last = e; due = (k, incoming_is (w.old w.last) (w.new w.last) (sub_in w w.last k) (new_owner w w.last k) k m refl refl); waiting = waiting }))

-- then each key of it and of those before is loaded
pub all_loaded : (w : WorldValue) → Kept w → AllDone w → (k : ℕ) → Moves w w.last k → sub_in w w.last k < w.opened w.last → w.loaded w.last (new_owner w w.last k) k ≡ true
all_loaded w kept done k moves below = ⊎_elim
    (λ (less : sub_in w w.last k + 1 < w.opened w.last). kept.earlier k moves less)
    (λ (more : w.opened w.last ≤ sub_in w w.last k + 1).
    (kept.facts Leader).done (place_at w.last (sub_in w w.last k) (new_owner w w.last k)) (done k moves (omega arith)) k moves refl refl)
    (cases_lt (sub_in w w.last k + 1) (w.opened w.last))

-- the world with one sub-plan more, before the leader is told of it
abbrev opened_on : WorldValue → WorldValue
opened_on w = record w { opened = λ n. cond (n == w.last) (w.opened n + 1) (w.opened n) }

no_fewer : (w : WorldValue) (n : ℕ) → w.opened n ≤ cond (n == w.last) (w.opened n + 1) (w.opened n)
no_fewer w n = cond_both (n == w.last) (w.opened n + 1) (w.opened n) (λ m. w.opened n ≤ m) (λ e. omega arith) (λ e. le_refl (w.opened n))

one_more : (w : WorldValue) → cond (w.last == w.last) (w.opened w.last + 1) (w.opened w.last) ≡ w.opened w.last + 1
one_more w = cond-true (w.last == w.last) (w.opened w.last + 1) (w.opened w.last) (eq-eqb w.last w.last refl)

later_opened : (w : WorldValue) → Later w (opened_on w)
later_opened w = record { old = λ m h. refl; new = λ m h. refl; last = le_refl w.last; opened = λ n h. no_fewer w n; given = λ m r k h. h; loaded = λ m r k h. h }

pub later_open : (w : WorldValue) → Later w (after_open w)
later_open w = record { old = λ m h. refl; new = λ m h. refl; last = le_refl w.last; opened = λ n h. no_fewer w n; given = λ m r k h. h; loaded = λ m r k h. h }

keeps_opened : (w : WorldValue) → Kept w → AllDone w → w.opened w.last ≢ count_of w w.last → Kept (opened_on w)
keeps_opened w kept done more =
    record {
      first = kept.first;
      numbers = kept.numbers;
      olds = kept.olds;
      news = kept.news;
      old_there = kept.old_there;
      new_there = kept.new_there;
      held_true = kept.held_true;
      held_from = kept.held_from;
      given = λ n m k h. let g : IsGiven w n m k = kept.given n m k h in record { first = g.first; last = g.last; moves = g.moves; source = g.source; opened = let a : sub_in w n k < w.opened n = g.opened in let b : w.opened n ≤ cond (n == w.last) (w.opened n + 1) (w.opened n) = no_fewer w n in lt_le_trans a b; hears = g.hears };
      loaded = λ n m k h. let l : IsLoaded w n m k = kept.loaded n m k h in record { dest = l.dest; given = l.given; hears = l.hears };
      left = kept.left;
      earlier = λ k a b. all_loaded w kept done k a (omega (arith, b, one_more w));
      facts = λ m. still (w.facts m) (kept.facts m);
      messages = λ i message h. still message (kept.messages i message h);
      some = kept.some;
      sent = λ j a h k x. let y : IsSent w a k = kept.sent j a h k x in record { source = y.source; dest = y.dest; sub = y.sub; given = y.given };
      once = kept.once;
      somewhere = λ n m k h. let g : HasChunk w n m k = kept.somewhere n m k h in record { index = g.index; chunk = g.chunk; there = g.there; number = g.number; source = g.source; keys = g.keys };
    }
  where
    still : (f : Queries) → TrueFacts w f → TrueFacts (opened_on w) f
    still f t = true_later w (opened_on w) f (later_opened w) t

    lt_le_trans : {a b c : ℕ} → a < b → b ≤ c → a < c
    lt_le_trans a b = omega arith

pub keeps_open : (w : WorldValue) → Kept w → AllDone w → w.opened w.last ≢ count_of w w.last → Kept (after_open w)
keeps_open w kept done more = keeps_told (opened_on w) Leader (opened_queries w.last (w.opened w.last)) (keeps_opened w kept done more) (opened_true (opened_on w) (w.opened w.last) kept.first (omega (arith, one_more w)))
