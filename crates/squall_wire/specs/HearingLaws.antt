-- Laws of what is heard in a stream of frames.
use Rattle.std.specs.Prelude.{◌≡◌, ℕ, Bool, false, List, [], ◌∷◌, ◌++◌, length, Option, None, Some, Result, Ok, Err, refl}
use Rattle.std.specs.Option.{IsSome}
use Rattle.std.specs.List.{AllByRecursion, concat}
use Rattle.std.proofs.Common.{sym, ap, subst, ◌∙◌, append_assoc, ⊎_elim}
use Rattle.std.proofs.lemmas.List.{append_cancel_left, append-nil}
use Rattle.squall_report.specs.Told.{SameTold}
use Rattle.squall_board.specs.Boards.{BoardValue, IsBoard, told}
use Rattle.squall_board.specs.Listed.{told_by_lists}
use Rattle.squall_board.specs.ToldListLaws.{lists_tell, lists_equal}
use Rattle.squall_wire.specs.declared.fault.WireFault.{WireFault}
use Rattle.squall_wire.specs.declared.fault.WireFault.TheVariants.{Short}
use Rattle.squall_wire.specs.declared.message.Message.{Message}
use Rattle.squall_wire.specs.declared.message.Message.TheVariants.{Delta, Digest}
use Rattle.squall_wire.specs.DigestValue.{DigestValue}
use Rattle.squall_wire.specs.Messages.{BoardLists, Body, lists, rows, lists_of, body_of, spell, spell_all, IsContent, IsMessage}
use Rattle.squall_wire.specs.Reading.{message_at}
use Rattle.squall_wire.specs.Hearing.{EndsIn, IsHeard, FeedValue, feed_with, new_feed, IsFeed, feed_after, HearsOn, HearsAll}
use Rattle.squall_wire.specs.FrameLaws.{message_again}
use Rattle.squall_wire.specs.ReadingLaws.{reading_stays, nothing_is_short}

-- ---- one frame

same_boards : (b c : BoardValue) → IsBoard b → IsBoard c → lists_of b ≡ lists_of c → b ≡ c
same_boards b c is too e = lists_equal c b too is (subst (λ (d : BoardLists). SameTold (told b) (told_by_lists d.openings d.issues d.cells)) e (lists_tell b is))

lists_is : (d e : BoardLists) → lists d ≡ lists e → d ≡ e
lists_is d e h = cc

rows_is : (d e : DigestValue) → rows d ≡ rows e → d ≡ e
rows_is d e h = cc

-- messages that say the same are equal
pub same_messages : (m n : Message) → IsContent m → IsContent n → body_of m ≡ body_of n → m ≡ n
same_messages (Delta b) (Delta c) is too e = ap Delta (same_boards b c is too (lists_is (lists_of b) (lists_of c) e))
same_messages (Delta b) (Digest d) is too e = absurd cc
same_messages (Digest d) (Delta b) is too e = absurd cc
same_messages (Digest d) (Digest c) is too e = ap Digest (rows_is d c e)

-- the frame of a message is read again, whatever follows it
pub read_again : (m : Message) (rest : List ℕ) → IsMessage m → message_at (spell m ++ rest) ≡ Ok (body_of m, length (spell m))
read_again m rest is = message_again (body_of m) rest is.body is.short

abbrev read_ok : Body × ℕ → Result (Body × ℕ) WireFault
read_ok x = Ok x

read_is : (x y : Body × ℕ) → read_ok x ≡ read_ok y → x ≡ y
read_is x y e = cc

-- no frame begins another, and each message has one
pub one_frame : (m n : Message) (x y : List ℕ) → IsMessage m → IsMessage n → spell m ++ x ≡ spell n ++ y → (m ≡ n) × (x ≡ y)
one_frame m n x y im also e =
    let both = read_is (body_of m, length (spell m)) (body_of n, length (spell n)) (sym (read_again m x im) ∙ ap message_at e ∙ read_again n y also) in
    let same : m ≡ n = same_messages m n im.content also.content (ap (λ (p : Body × ℕ). p.0) both) in
    (same, append_cancel_left (spell m) x y (e ∙ ap (λ (k : Message). spell k ++ y) (sym same)))

-- ---- one hearing

err_is : (d e : WireFault) (r : Result (Body × ℕ) WireFault) → r ≡ Err d → r ≡ Err e → d ≡ e
err_is d e r p q = cc

-- what is left determines the fault
ends_alike : (f g : Option WireFault) (r : List ℕ) → EndsIn f r → EndsIn g r → f ≡ g
ends_alike None None r p q = refl
ends_alike None (Some e) r p q = absurd (q.0 (err_is e Short (message_at r) q.2 p))
ends_alike (Some d) None r p q = absurd (p.0 (err_is d Short (message_at r) p.2 q))
ends_alike (Some d) (Some e) r p q = ap Some (err_is d e (message_at r) p.2 q.2)

-- what is left begins with no frame
no_frame_left : (m : Message) (x : List ℕ) (f : Option WireFault) → IsMessage m → EndsIn f (spell m ++ x) → ⊥
no_frame_left m x None is p = let e = read_again m x is in cc
no_frame_left m x (Some d) is p = let e = read_again m x is in let q = p.2 in cc

abbrev pub SameHearing : List Message → List Message → Option WireFault → Option WireFault → List ℕ → List ℕ → Type 0
SameHearing ms ns f g r q = (ms ≡ ns) × (f ≡ g) × (r ≡ q)

-- in a stream one thing is heard: its messages, its fault and what is left
pub one_hearing : (s : List ℕ) (ms ns : List Message) (f g : Option WireFault) (r q : List ℕ) → IsHeard s ms f r → IsHeard s ns g q → SameHearing ms ns f g r q
one_hearing s [] [] f g r q a b =
    let same : r ≡ q = sym a.frames ∙ b.frames in
    (refl, ends_alike f g q (subst (EndsIn f) same a.ends) b.ends, same)
one_hearing s [] (n ∷ ns) f g r q a b =
    let parts : r ≡ spell n ++ (spell_all ns ++ q) = sym a.frames ∙ b.frames ∙ append_assoc (spell n) (spell_all ns) q in
    absurd (no_frame_left n (spell_all ns ++ q) f b.each.0 (subst (EndsIn f) parts a.ends))
one_hearing s (m ∷ ms) [] f g r q a b =
    let parts : q ≡ spell m ++ (spell_all ms ++ r) = sym b.frames ∙ a.frames ∙ append_assoc (spell m) (spell_all ms) r in
    absurd (no_frame_left m (spell_all ms ++ r) g a.each.0 (subst (EndsIn g) parts b.ends))
one_hearing s (m ∷ ms) (n ∷ ns) f g r q a b =
    let parts : spell m ++ (spell_all ms ++ r) ≡ spell n ++ (spell_all ns ++ q) = sym (a.frames ∙ append_assoc (spell m) (spell_all ms) r) ∙ b.frames ∙ append_assoc (spell n) (spell_all ns) q in
    let first = one_frame m n (spell_all ms ++ r) (spell_all ns ++ q) a.each.0 b.each.0 parts in
    let others = one_hearing (spell_all ms ++ r) ms ns f g r q (record { each = a.each.1; frames = refl; ends = a.ends }) (record { each = b.each.1; frames = first.1; ends = b.ends }) in
    (ap (λ (k : Message). k ∷ ms) first.0 ∙ ap (λ (ks : List Message). n ∷ ks) others.0, others.1, others.2)

-- ---- a stream in pieces

pub spell_all-append : (ms ns : List Message) → spell_all (ms ++ ns) ≡ spell_all ms ++ spell_all ns
spell_all-append [] ns = refl
spell_all-append (m ∷ ms) ns = ap (λ (xs : List ℕ). spell m ++ xs) (spell_all-append ms ns) ∙ sym (append_assoc (spell m) (spell_all ms) (spell_all ns))

all_append : {X : Type 0} (P : X → Type 0) (xs ys : List X) → AllByRecursion P xs → AllByRecursion P ys → AllByRecursion P (xs ++ ys)
all_append P [] ys p q = q
all_append P (x ∷ xs) ys p q = (p.0, all_append P xs ys p.1 q)

-- what is heard first, and then in what was left and what comes after it, is heard in the whole
pub pieces_are_one_stream : (s t : List ℕ) (ms ns : List Message) (f g : Option WireFault) (r q : List ℕ) → IsHeard s ms f r → IsHeard (r ++ t) ns g q → IsHeard (s ++ t) (ms ++ ns) g q
pieces_are_one_stream s t ms ns f g r q a b = record {
  each = all_append IsMessage ms ns a.each b.each;
  frames = ap (λ (xs : List ℕ). xs ++ t) a.frames ∙ append_assoc (spell_all ms) r t ∙ ap (λ (xs : List ℕ). spell_all ms ++ xs) b.frames ∙ sym (append_assoc (spell_all ms) (spell_all ns) q) ∙ ap (λ (xs : List ℕ). xs ++ q) (sym (spell_all-append ms ns));
  ends = b.ends;
}

-- bytes after a fault change nothing
fault_stays : (e : WireFault) (r t : List ℕ) → EndsIn (Some e) r → EndsIn (Some e) (r ++ t)
fault_stays e r t p = (p.0, p.1, reading_stays r t (λ q. p.0 (err_is e Short (message_at r) p.2 q)) ∙ p.2)

pub heard_after_fault : (s t : List ℕ) (ms : List Message) (e : WireFault) (r : List ℕ) → IsHeard s ms (Some e) r → IsHeard (s ++ t) ms (Some e) (r ++ t)
heard_after_fault s t ms e r a = record {
  each = a.each;
  frames = ap (λ (xs : List ℕ). xs ++ t) a.frames ∙ append_assoc (spell_all ms) r t;
  ends = fault_stays e r t a.ends;
}

-- the frames of messages, and nothing more, are heard as these messages
pub spelled_are_heard : (ms : List Message) → AllByRecursion IsMessage ms → IsHeard (spell_all ms) ms None []
spelled_are_heard ms are = record { each = are; frames = sym (append-nil (spell_all ms)); ends = nothing_is_short }

-- ---- feeds

pub new_is_feed : IsFeed new_feed
new_is_feed = record { short = λ e. nothing_is_short; ended = λ e. absurd cc }

-- a feed stays a feed
pub feed_stays : (old : FeedValue) (piece : List ℕ) (ms : List Message) (f : Option WireFault) (new : FeedValue) → HearsOn old piece ms f new → IsFeed new
feed_stays old piece ms None new h = subst IsFeed (sym h.after) (record { short = λ e. h.heard.ends; ended = λ e. absurd cc })
feed_stays old piece ms (Some e) new h = subst IsFeed (sym h.after) (record { short = λ e. absurd cc; ended = λ e. refl })

-- a piece pushed after another is as both pushed at once
pub pushes_are_one : (old middle new : FeedValue) (s t : List ℕ) (ms ns : List Message) (f : Option WireFault) → HearsOn old s ms None middle → HearsOn middle t ns f new → HearsOn old (s ++ t) (ms ++ ns) f new
pushes_are_one old middle new s t ms ns f a b =
    let next : IsHeard (a.rest ++ t) ns f b.rest = subst (λ (m : FeedValue). IsHeard (m.waiting ++ t) ns f b.rest) a.after b.heard in
    record {
      unended = a.unended;
      rest = b.rest;
      heard = subst (λ (xs : List ℕ). IsHeard xs (ms ++ ns) f b.rest) (append_assoc old.waiting s t) (pieces_are_one_stream (old.waiting ++ s) t ms ns None f a.rest b.rest a.heard next);
      after = b.after;
    }

-- what comes after a fault is not heard
pub fault_ends_stream : (old new : FeedValue) (s t : List ℕ) (ms : List Message) (f : Option WireFault) → IsSome f → HearsOn old s ms f new → HearsOn old (s ++ t) ms f new
fault_ends_stream old new s t ms None some a = absurd cc
fault_ends_stream old new s t ms (Some e) some a = record {
  unended = a.unended;
  rest = a.rest ++ t;
  heard = subst (λ (xs : List ℕ). IsHeard xs ms (Some e) (a.rest ++ t)) (append_assoc old.waiting s t) (heard_after_fault (old.waiting ++ s) t ms e a.rest a.heard);
  after = a.after;
}

-- an empty piece
nothing_heard : (old : FeedValue) → old.failed ≡ false → IsFeed old → HearsOn old [] [] None old
nothing_heard old unended is = record {
  unended = unended;
  rest = old.waiting;
  heard = record { each = tt; frames = append-nil old.waiting; ends = is.short unended };
  after = ap (λ (b : Bool). feed_with old.waiting b) unended;
}

-- pieces pushed one after the other are as their bytes pushed at once
pub pieces_are_one_push : (old : FeedValue) (pieces : List (List ℕ)) (ms : List Message) (f : Option WireFault) (new : FeedValue) → old.failed ≡ false → IsFeed old → HearsAll old pieces ms f new → HearsOn old (concat pieces) ms f new
pieces_are_one_push old [] ms f new unended is h =
    subst (λ (ns : List Message). HearsOn old [] ns f new) (sym h.0)
    (subst (λ (g : Option WireFault). HearsOn old [] [] g new) (sym h.1)
    (subst (λ (n : FeedValue). HearsOn old [] [] None n) (sym h.2) (nothing_heard old unended is)))
pieces_are_one_push old (p ∷ ps) ms f new unended is h = ⊎_elim
    (λ last. fault_ends_stream old new p (concat ps) ms f last.faulty last.heard)
    (λ more. subst (λ (ns : List Message). HearsOn old (p ++ concat ps) ns f new) (sym more.all)
    (pushes_are_one old more.middle new p (concat ps) more.first more.others f more.heard
    (pieces_are_one_push more.middle ps more.others f new (open_after more.middle more.heard.rest more.heard.after) (feed_stays old p more.first None more.middle more.heard) more.after)))
    h
  where
    open_after : (middle : FeedValue) (rest : List ℕ) → middle ≡ feed_with rest false → middle.failed ≡ false
    open_after middle rest e = ap (λ (m : FeedValue). m.failed) e

-- one push of one feed: the same messages, the same fault and the same feed
pub one_push : (old new end : FeedValue) (s : List ℕ) (ms ns : List Message) (f g : Option WireFault) → HearsOn old s ms f new → HearsOn old s ns g end → (ms ≡ ns) × (f ≡ g) × (new ≡ end)
one_push old new end s ms ns f g a b =
    let same = one_hearing (old.waiting ++ s) ms ns f g a.rest b.rest a.heard b.heard in
    (same.0, same.1, a.after ∙ ap (λ (h : Option WireFault). feed_after h a.rest) same.1 ∙ ap (feed_after g) same.2 ∙ sym b.after)

-- how the stream is cut into pieces does not change what is heard
pub cutting_tells_nothing : (old new end : FeedValue) (ps qs : List (List ℕ)) (ms ns : List Message) (f g : Option WireFault) → old.failed ≡ false → IsFeed old → concat ps ≡ concat qs → HearsAll old ps ms f new → HearsAll old qs ns g end → (ms ≡ ns) × (f ≡ g) × (new ≡ end)
cutting_tells_nothing old new end ps qs ms ns f g unended is e a b =
    one_push old new end (concat qs) ms ns f g (subst (λ (s : List ℕ). HearsOn old s ms f new) e (pieces_are_one_push old ps ms f new unended is a)) (pieces_are_one_push old qs ns g end unended is b)
