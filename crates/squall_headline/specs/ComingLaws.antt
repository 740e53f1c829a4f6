-- Laws of messages that are on their way to a feed.
use Rattle.std.specs.Prelude.{◌≡◌, ℕ, List, [], ◌∷◌, ◌++◌, Option, None, Some, false, refl}
use Rattle.std.specs.List.{AllByRecursion}
use Rattle.std.proofs.Common.{sym, ap, ◌∙◌, subst, inl, inr}
use Rattle.std.proofs.lemmas.List.{append-nil, append_assoc}
use Rattle.squall_board.specs.Boards.{BoardValue}
use Rattle.squall_wire.specs.declared.fault.WireFault.{WireFault}
use Rattle.squall_wire.specs.declared.message.Message.{Message}
use Rattle.squall_wire.specs.Messages.{IsMessage, spell, spell_all}
use Rattle.squall_wire.specs.Reading.{message_at}
use Rattle.squall_wire.specs.Hearing.{FeedValue, feed_with, feed_after, EndsIn, IsHeard, HearsOn, HearsAll}
use Rattle.squall_wire.specs.HearingLaws.{one_frame, one_hearing, spelled_are_heard, heard_after_fault, read_again, feed_stays}
use Rattle.squall_headline.specs.Ways.{Reports, Sent, SentBoard, SentDigest, reports_sent, message_of, messages_of, ArePacked, TakesIn, AreComing, Brings}

-- ---- the first of the messages of a stream

-- what was heard are the messages of the first that were sent, without a fault, and the frames of the others follow
record First (sent : List Sent) (ms : List Message) (fault : Option WireFault) (left : List ℕ) : Type 0 where
  brought : List Sent
  others : List Sent
  all : sent ≡ brought ++ others
  same : ms ≡ messages_of brought
  fine : fault ≡ None
  packed : ArePacked brought
  packed_after : ArePacked others
  each : AllByRecursion IsMessage (messages_of others)
  follow : left ≡ spell_all (messages_of others)

-- no fault comes before frames
no_fault : (f : Option WireFault) (rest back : List ℕ) (ns : List Message) → AllByRecursion IsMessage ns → EndsIn f rest → rest ++ back ≡ spell_all ns → f ≡ None
no_fault None rest back ns are ends e = refl
no_fault (Some d) rest back ns are ends e =
    let here : IsHeard rest [] (Some d) rest = record { each = tt; frames = refl; ends = ends } in
    let faulty : IsHeard (spell_all ns) [] (Some d) (rest ++ back) = subst (λ (s : List ℕ). IsHeard s [] (Some d) (rest ++ back)) e (heard_after_fault rest back [] d rest here) in
    (one_hearing (spell_all ns) [] ns (Some d) None (rest ++ back) [] faulty (spelled_are_heard ns are)).1

apart : (x y r back : List ℕ) → ((x ++ y) ++ r) ++ back ≡ x ++ ((y ++ r) ++ back)
apart x y r back = ap (λ (s : List ℕ). s ++ back) (append_assoc x y r) ∙ append_assoc x (y ++ r) back

first_of : (ms : List Message) (sent : List Sent) (f : Option WireFault) (rest back : List ℕ) → AllByRecursion IsMessage ms → ArePacked sent → AllByRecursion IsMessage (messages_of sent) → EndsIn f rest
    → (spell_all ms ++ rest) ++ back ≡ spell_all (messages_of sent) → First sent ms f (rest ++ back)
first_of [] sent f rest back are packed each ends e = record {
  brought = [];
  others = sent;
  all = refl;
  same = refl;
  fine = no_fault f rest back (messages_of sent) each ends e;
  packed = tt;
  packed_after = packed;
  each = each;
  follow = e;
}
first_of (m ∷ ms) [] f rest back are packed each ends e = absurd (cc)
first_of (m ∷ ms) (s ∷ ss) f rest back are packed each ends e =
    let parts = one_frame m (message_of s) ((spell_all ms ++ rest) ++ back) (spell_all (messages_of ss)) are.0 each.0 (sym (apart (spell m) (spell_all ms) rest back) ∙ e) in
    let more = first_of ms ss f rest back are.1 packed.1 each.1 ends parts.1 in
    record {
      brought = s ∷ more.brought;
      others = more.others;
      all = ap (λ (xs : List Sent). s ∷ xs) more.all;
      same = (λ i. parts.0 i ∷ more.same i);
      fine = more.fine;
      packed = (packed.0, more.packed);
      packed_after = more.packed_after;
      each = more.each;
      follow = more.follow;
    }

-- ---- a piece

one_piece : (old new : FeedValue) (piece : List ℕ) (ms : List Message) (f : Option WireFault) → HearsOn old piece ms f new → HearsAll old (piece ∷ []) ms f new
one_piece old new piece ms None heard = inr (record { first = ms; others = []; middle = new; all = sym (append-nil ms); heard = heard; after = (refl, refl, refl) })
one_piece old new piece ms (Some e) heard = inl (record { faulty = refl; heard = heard })

-- a piece brings the first of what is on its way
pub piece_brings : (sent : List Sent) (old new : FeedValue) (piece coming : List ℕ) (ms : List Message) (fault : Option WireFault) (before after : BoardValue)
    → AreComing sent old (piece ++ coming) → HearsOn old piece ms fault new → TakesIn ms before after → Brings sent piece coming before after new
piece_brings sent old new piece coming ms fault before after on heard taken =
    let stream : (spell_all ms ++ heard.rest) ++ coming ≡ spell_all (messages_of sent) = ap (λ (s : List ℕ). s ++ coming) (sym heard.heard.frames) ∙ append_assoc old.waiting piece coming ∙ on.stream in
    let first = first_of ms sent fault heard.rest coming heard.heard.each on.packed on.each heard.heard.ends stream in
    let now : new ≡ feed_with heard.rest false = heard.after ∙ ap (λ (f : Option WireFault). feed_after f heard.rest) first.fine in
    record {
      brought = first.brought;
      others = first.others;
      all = first.all;
      leads = record {
        packed = first.packed;
        old = old;
        is_feed = on.is_feed;
        unended = on.unended;
        ends = fault;
        rest = heard.rest;
        stream = subst (λ (s : List ℕ). IsHeard (old.waiting ++ s) (messages_of first.brought) fault heard.rest) (sym (append-nil piece)) (subst (λ (ns : List Message). IsHeard (old.waiting ++ piece) ns fault heard.rest) first.same heard.heard);
        messages = ms;
        fault = fault;
        new = new;
        heard = one_piece old new piece ms fault heard;
        taken = taken;
      };
      on = record {
        packed = first.packed_after;
        each = first.each;
        is_feed = feed_stays old piece ms fault new heard;
        unended = ap (λ (f : FeedValue). f.failed) now;
        stream = ap (λ (f : FeedValue). f.waiting ++ coming) now ∙ first.follow;
      };
    }

-- if no byte is to come, no message is on its way
pub none_coming : (sent : List Sent) (feed : FeedValue) → AreComing sent feed [] → sent ≡ []
none_coming [] feed on = refl
none_coming (s ∷ ss) feed on =
    let read = read_again (message_of s) (spell_all (messages_of ss)) on.each.0 in
    let short = on.is_feed.short on.unended in
    let same : message_at feed.waiting ≡ message_at (spell (message_of s) ++ spell_all (messages_of ss)) = ap message_at (sym (append-nil feed.waiting) ∙ on.stream) in
    absurd cc

-- what was sent in two parts brings the reports of both
pub reports_append : (ss qs : List Sent) → reports_sent (ss ++ qs) ≡ reports_sent ss ++ reports_sent qs
reports_append [] qs = refl
reports_append (SentBoard p ∷ ss) qs = ap (λ (rs : Reports). p.reports ++ rs) (reports_append ss qs) ∙ sym (append_assoc p.reports (reports_sent ss) (reports_sent qs))
reports_append (SentDigest d ∷ ss) qs = reports_append ss qs
