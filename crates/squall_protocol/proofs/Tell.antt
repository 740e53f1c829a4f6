-- Telling a node true facts and sending keep what holds.
use Rattle.std.proofs.Common.{◌≡◌, ℕ, [], ◌∷◌, ◌++◌, length, refl, subst, ⊎_elim, le_refl}
use Rattle.std.specs.Prelude.{Some}
use Rattle.std.specs.List.{slice_get}
use Rattle.squall_report.specs.Queries.{Queries}
use Rattle.squall_protocol.specs.declared.event.Node.{Node}
use Rattle.squall_protocol.specs.declared.event.Node.TheVariants.{Part}
use Rattle.squall_protocol.specs.Worlds.{WorldValue}
use Rattle.squall_protocol.specs.Steps.{told_to, after_told}
use Rattle.squall_protocol.proofs.Kept.{Hears, TrueFacts, IsGiven, IsLoaded, IsSent, HasChunk, Kept}
use Rattle.squall_protocol.proofs.Later.{true_later}
use Rattle.squall_protocol.proofs.Told.{true_told, hears_told}
use Rattle.squall_protocol.specs.ListLaws.{at_either}

pub keeps_told : (w : WorldValue) (node : Node) (more : Queries) → Kept w → TrueFacts w more → Kept (after_told w node more)
keeps_told w node more kept true_more =
    record {
      first = kept.first;
      numbers = kept.numbers;
      olds = kept.olds;
      news = kept.news;
      old_there = kept.old_there;
      new_there = kept.new_there;
      held_true = kept.held_true;
      held_from = kept.held_from;
      given = λ n m k h. let g : IsGiven w n m k = kept.given n m k h in record { first = g.first; last = g.last; moves = g.moves; source = g.source; opened = g.opened; hears = hears_on (Part m) n g.hears };
      loaded = λ n m k h. let l : IsLoaded w n m k = kept.loaded n m k h in record { dest = l.dest; given = l.given; hears = hears_on (Part m) n l.hears };
      left = kept.left;
      earlier = kept.earlier;
      facts = λ m. still (told_to w node more m) (true_told w w node more kept.facts true_more m);
      messages = λ i message h. still message (kept.messages i message h);
      some = kept.some;
      sent = λ j a h k x. let y : IsSent w a k = kept.sent j a h k x in record { source = y.source; dest = y.dest; sub = y.sub; given = y.given };
      once = kept.once;
      somewhere = λ n m k h. let g : HasChunk w n m k = kept.somewhere n m k h in record { index = g.index; chunk = g.chunk; there = g.there; number = g.number; source = g.source; keys = g.keys };
    }
  where
    still : (f : Queries) → TrueFacts w f → TrueFacts (after_told w node more) f
    still f t = true_later w (after_told w node more) f (record { old = λ m h. refl; new = λ m h. refl; last = le_refl w.last; opened = λ n h. le_refl (w.opened n); given = λ m r k h. h; loaded = λ m r k h. h }) t

    hears_on : (m : Node) (n : ℕ) → Hears (w.facts m) n → Hears (told_to w node more m) n
    hears_on m n h = hears_told w w node more kept.facts true_more m n h

pub keeps_sent : (w : WorldValue) (said : Queries) → TrueFacts w said → Kept w → Kept (record w { messages = w.messages ++ said ∷ [] })
keeps_sent w said is_true kept =
    record {
      first = kept.first;
      numbers = kept.numbers;
      olds = kept.olds;
      news = kept.news;
      old_there = kept.old_there;
      new_there = kept.new_there;
      held_true = kept.held_true;
      held_from = kept.held_from;
      given = λ n m k h. let g : IsGiven w n m k = kept.given n m k h in record { first = g.first; last = g.last; moves = g.moves; source = g.source; opened = g.opened; hears = g.hears };
      loaded = λ n m k h. let l : IsLoaded w n m k = kept.loaded n m k h in record { dest = l.dest; given = l.given; hears = l.hears };
      left = kept.left;
      earlier = kept.earlier;
      facts = λ m. still (w.facts m) (kept.facts m);
      messages = λ i message h. ⊎_elim
          (λ (x : slice_get w.messages i ≡ Some message). still message (kept.messages i message x))
          (λ (x : (i ≡ length w.messages) × (said ≡ message)). still message (subst (λ f. TrueFacts w f) x.1 is_true))
          (at_either w.messages said i message h);
      some = kept.some;
      sent = λ j a h k x. let y : IsSent w a k = kept.sent j a h k x in record { source = y.source; dest = y.dest; sub = y.sub; given = y.given };
      once = kept.once;
      somewhere = λ n m k h. let g : HasChunk w n m k = kept.somewhere n m k h in record { index = g.index; chunk = g.chunk; there = g.there; number = g.number; source = g.source; keys = g.keys };
    }
  where
    still : (f : Queries) → TrueFacts w f → TrueFacts (record w { messages = w.messages ++ said ∷ [] }) f
    still f t = true_later w (record w { messages = w.messages ++ said ∷ [] }) f (record { old = λ m h. refl; new = λ m h. refl; last = le_refl w.last; opened = λ n h. le_refl (w.opened n); given = λ m r k h. h; loaded = λ m r k h. h }) t
