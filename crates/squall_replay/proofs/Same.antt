-- Partitions that no call tells apart answer a call alike, and are such partitions after it.
use Rattle.std.proofs.Common.{◌≡◌, ℕ, ◌+◌, ◌==◌, ◌&&◌, ◌||◌, cond, List, [], ◌∷◌, Some, refl, sym, ap, subst, ◌∙◌, arith}
use Rattle.std.proofs.lemmas.Bool.{both_ways}
use Rattle.std.proofs.lemmas.Option.{same_Some}
use Rattle.squall_span.specs.Spans.{Interval, has, insert_span, union, minus, without_span}
use Rattle.squall_course.specs.Change.{Change}
use Rattle.squall_course.specs.Subplans.{dest_of}
use Rattle.squall_course.specs.Moves.{is_outgoing}
use Rattle.squall_report.specs.declared.report.ReportKind.TheVariants.{Done as DoneReport}
use Rattle.squall_board.specs.Boards.{BoardValue, board_join, report_board, opened_count}
use Rattle.squall_board.specs.CourseRoute.{course_of_board}
use Rattle.squall_protocol.specs.Chunks.{ChunkValue, load_report}
use Rattle.squall_protocol.specs.Firsts.{AreFirst}
use Rattle.squall_protocol.specs.FirstsLaws.{one_first}
use Rattle.squall_part.specs.Parts.{PartValue, IsPart, course_of_part, known_to, opened_at, given_by, loaded_by, closed_by}
use Rattle.squall_part.specs.Giving.{IsCurrent, IsChunkOf, is_left, after_giving, after_close}
use Rattle.squall_part.specs.Loading.{SomeMissing, AllLoaded, after_load, after_finish, done_report}
use Rattle.squall_part.proofs.Known.{course_known}
use Rattle.squall_part.proofs.Served.{known_log}
use Rattle.squall_part.proofs.Closed.{closed_then}
use Rattle.squall_replay.specs.declared.call.Call.{Call}
use Rattle.squall_replay.specs.declared.call.Call.TheVariants.{Absorb, Give, GiveAt, Load, Finish, Close}
use Rattle.squall_replay.specs.declared.call.Answer.{Answer}
use Rattle.squall_replay.specs.declared.call.Answer.TheVariants.{Absorbed, Gave, Loaded, Again, Finished, Closed}
use Rattle.squall_replay.specs.Calls.{Absorbs, Happens, Replays, Leads, IsSamePart}
use Rattle.squall_replay.proofs.Edits.{given_with, loaded_with, given_beside, loaded_beside, closed_beside_gift, closed_beside_load, given_beside_close, loaded_beside_close}

-- one answer, and partitions that no call tells apart
pub record Once (a b : Answer) (r s : PartValue) : Type 0 where
  pub answer : a ≡ b
  pub part : IsSamePart r s

-- what holds of the partitions holds of those that equal them
pub agree : (r s t u : PartValue) → r ≡ t → s ≡ u → IsSamePart t u → IsSamePart r s
agree r s t u e f same = subst (λ v. IsSamePart v s) (sym e) (subst (λ v. IsSamePart t v) (sym f) same)

-- ---- courses

pub one_course : (p q : PartValue) → IsSamePart p q → course_of_part p ≡ course_of_part q
one_course p q same = λ i. course_of_board (same.first i) (same.board i)

-- the sub-plan opened last is one
one_current : (p q : PartValue) (m n : ℕ) → IsSamePart p q → IsCurrent p m → IsCurrent q n → m ≡ n
one_current p q m n same a b =
    let c = one_course p q same in
    let opened : opened_at p (course_of_part p).number ≡ opened_at q (course_of_part q).number = (λ i. opened_count (same.board i) (c i).number) in
    let more : m + 1 ≡ n + 1 = sym a.0 ∙ opened ∙ b.0 in
    omega (arith, more)

-- ---- gifts

one_chunk : (p q : PartValue) (m n : ℕ) (x y : ChunkValue) → IsSamePart p q → m ≡ n → IsChunkOf p m x → IsChunkOf q n y → x.span ≡ y.span → x ≡ y
one_chunk p q m n x y same sub a b span =
    λ i. record {
      number = (a.number ∙ ap (λ c. c.number) (one_course p q same) ∙ sym b.number) i;
      sub = (a.sub_plan ∙ sub ∙ sym b.sub_plan) i;
      source = (a.source ∙ same.id ∙ sym b.source) i;
      dest = same_Some x.dest y.dest (sym a.dest ∙ dests ∙ b.dest) i;
      span = span i;
    }
  where
    dests : dest_of (course_of_part p).old (course_of_part p).new m p.id ≡ dest_of (course_of_part q).old (course_of_part q).new n q.id
    dests = λ i. dest_of (one_course p q same i).old (one_course p q same i).new (sub i) (same.id i)

one_left : (p q : PartValue) (m n : ℕ) → IsSamePart p q → m ≡ n → is_left p m ≡ is_left q n
one_left p q m n same sub = λ i k. is_outgoing (one_course p q same i).old (one_course p q same i).new (sub i) (same.id i) k && has (same.held i) k

pub giving : (p q : PartValue) (s : Interval) → IsPart p → IsPart q → IsSamePart p q → IsSamePart (after_giving p s) (after_giving q s)
giving p q s is js same = record {
  id = same.id;
  first = same.first;
  board = same.board;
  held = λ i. without_span s (same.held i);
  given = λ m. here p m is ∙ (λ i. cond (m == number i) (insert_span s (under i)) (same.given m i)) ∙ sym (here q m js);
  loaded = λ m. there p m ∙ same.loaded m ∙ sym (there q m);
  closed = λ m. ends p m ∙ same.closed m ∙ sym (ends q m);
}
  where
    number : (course_of_part p).number ≡ (course_of_part q).number
    number = ap (λ c. c.number) (one_course p q same)

    under : given_by p (course_of_part p).number ≡ given_by q (course_of_part q).number
    under = same.given (course_of_part p).number ∙ ap (given_by q) number

    here : (a : PartValue) (m : ℕ) → IsPart a → given_by (after_giving a s) m ≡ cond (m == (course_of_part a).number) (insert_span s (given_by a (course_of_part a).number)) (given_by a m)
    here a m i =
        let n = (course_of_part a).number in
        let l = known_log a n (course_of_part a) i (course_known a i) in
        given_with n m (insert_span s (given_by a n)) a.logs l.0 l.1

    there : (a : PartValue) (m : ℕ) → loaded_by (after_giving a s) m ≡ loaded_by a m
    there a m = loaded_beside (course_of_part a).number m (insert_span s (given_by a (course_of_part a).number)) a.logs

    ends : (a : PartValue) (m : ℕ) → closed_by (after_giving a s) m ≡ closed_by a m
    ends a m = closed_beside_gift (course_of_part a).number m (insert_span s (given_by a (course_of_part a).number)) a.logs

gave : (p q r s : PartValue) (x y : ChunkValue) → IsPart p → IsPart q → IsSamePart p q → x ≡ y → r ≡ after_giving p x.span → s ≡ after_giving q y.span → Once (Gave x) (Gave y) r s
gave p q r s x y is js same e a b = record {
  answer = ap Gave e;
  part = agree r s (after_giving p x.span) (after_giving q x.span) a (b ∙ ap (λ c. after_giving q c.span) (sym e)) (giving p q x.span is js same);
}

-- ---- loads

pub loading : (p q : PartValue) (x : ChunkValue) (c d : Change) → IsPart p → IsPart q → known_to p x.number ≡ Some c → known_to q x.number ≡ Some d → IsSamePart p q → IsSamePart (after_load p x) (after_load q x)
loading p q x c d is js known known' same = record {
  id = same.id;
  first = same.first;
  board = λ i. board_join (same.board i) (report_board (load_report x));
  held = λ i. union (same.held i) (minus (x.span ∷ []) (same.loaded x.number i));
  given = λ m. there p m ∙ same.given m ∙ sym (there q m);
  loaded = λ m. here p c m is known ∙ (λ i. cond (m == x.number) (insert_span x.span (same.loaded x.number i)) (same.loaded m i)) ∙ sym (here q d m js known');
  closed = λ m. ends p m ∙ same.closed m ∙ sym (ends q m);
}
  where
    here : (a : PartValue) (e : Change) (m : ℕ) → IsPart a → known_to a x.number ≡ Some e → loaded_by (after_load a x) m ≡ cond (m == x.number) (insert_span x.span (loaded_by a x.number)) (loaded_by a m)
    here a e m i k =
        let l = known_log a x.number e i k in
        loaded_with x.number m (insert_span x.span (loaded_by a x.number)) a.logs l.0 l.1

    there : (a : PartValue) (m : ℕ) → given_by (after_load a x) m ≡ given_by a m
    there a m = given_beside x.number m (insert_span x.span (loaded_by a x.number)) a.logs

    ends : (a : PartValue) (m : ℕ) → closed_by (after_load a x) m ≡ closed_by a m
    ends a m = closed_beside_load x.number m (insert_span x.span (loaded_by a x.number)) a.logs

-- not both: a key is missing, and all are loaded
not_both : (p q : PartValue) (x : ChunkValue) → ((n : ℕ) → loaded_by p n ≡ loaded_by q n) → SomeMissing p x → AllLoaded q x → ⊥
not_both p q x loaded missing all = both_ways (has (loaded_by q x.number) missing.0) (ap (λ v. has v missing.0) (sym (loaded x.number)) ∙ missing.2) (all missing.0 missing.1)

-- ---- ends and deltas

one_done : (p q : PartValue) (sub : ℕ) → IsSamePart p q → done_report p sub ≡ done_report q sub
one_done p q sub same = λ i. DoneReport (one_course p q same i).number sub (same.id i)

finishing : (p q : PartValue) (sub : ℕ) → IsSamePart p q → IsSamePart (after_finish p sub) (after_finish q sub)
finishing p q sub same = record {
  id = same.id;
  first = same.first;
  board = λ i. board_join (same.board i) (report_board (one_done p q sub same i));
  held = same.held;
  given = same.given;
  loaded = same.loaded;
  closed = same.closed;
}

absorbing : (p q r s : PartValue) (delta : BoardValue) → IsSamePart p q → Absorbs p delta r → Absorbs q delta s → IsSamePart r s
absorbing p q r s delta same a b = record {
  id = ap (λ v. v.id) a.same ∙ same.id ∙ sym (ap (λ v. v.id) b.same);
  first = ap (λ v. v.first) a.same ∙ same.first ∙ sym (ap (λ v. v.first) b.same);
  board = a.takes.joined ∙ ap (λ v. board_join v delta) same.board ∙ sym b.takes.joined;
  held = ap (λ v. v.held) a.same ∙ same.held ∙ sym (ap (λ v. v.held) b.same);
  given = λ n. a.given n ∙ same.given n ∙ sym (b.given n);
  loaded = λ n. a.loaded n ∙ same.loaded n ∙ sym (b.loaded n);
  closed = λ n. a.closed n ∙ same.closed n ∙ sym (b.closed n);
}

closing : (p q : PartValue) → IsPart p → IsPart q → IsSamePart p q → IsSamePart (after_close p) (after_close q)
closing p q is js same = record {
  id = same.id;
  first = same.first;
  board = same.board;
  held = same.held;
  given = λ m. given_beside_close (course_of_part p).number m p.logs ∙ same.given m ∙ sym (given_beside_close (course_of_part q).number m q.logs);
  loaded = λ m. loaded_beside_close (course_of_part p).number m p.logs ∙ same.loaded m ∙ sym (loaded_beside_close (course_of_part q).number m q.logs);
  closed = λ m. closed_then p m is ∙ (λ i. (m == (one_course p q same i).number) || same.closed m i) ∙ sym (closed_then q m js);
}

-- ---- one call

pub one_call : (p q r s : PartValue) (c : Call) (a b : Answer) → IsPart p → IsPart q → IsSamePart p q → Happens p c a r → Happens q c b s → Once a b r s
one_call p q r s (Absorb delta) Absorbed Absorbed is js same h g = record { answer = refl; part = absorbing p q r s delta same h g }
one_call p q r s (Absorb delta) Absorbed _ is js same h g = absurd g
one_call p q r s (Absorb delta) _ _ is js same h g = absurd h
one_call p q r s (Give most) (Gave x) (Gave y) is js same h g =
    let sub = one_current p q h.0 g.0 same h.1 g.1 in
    let span = one_first (is_left q g.0) most x.span y.span (subst (λ t. AreFirst t most x.span) (one_left p q h.0 g.0 same sub) h.2) g.2 in
    gave p q r s x y is js same (one_chunk p q h.0 g.0 x y same sub h.3 g.3 span) h.4 g.4
one_call p q r s (Give most) (Gave x) _ is js same h g = absurd g
one_call p q r s (Give most) _ _ is js same h g = absurd h
one_call p q r s (GiveAt key) (Gave x) (Gave y) is js same h g =
    let sub = one_current p q h.0 g.0 same h.1 g.1 in
    gave p q r s x y is js same (one_chunk p q h.0 g.0 x y same sub h.6 g.6 (h.5 ∙ sym g.5)) h.7 g.7
one_call p q r s (GiveAt key) (Gave x) _ is js same h g = absurd g
one_call p q r s (GiveAt key) _ _ is js same h g = absurd h
one_call p q r s (Load x) (Loaded report) (Loaded other) is js same h g = record {
  answer = ap Loaded (h.2 ∙ sym g.2);
  part = agree r s (after_load p x) (after_load q x) h.3 g.3 (loading p q x h.0.0 g.0.0 is js h.0.1 g.0.1 same);
}
one_call p q r s (Load x) (Loaded report) Again is js same h g = absurd (not_both p q x same.loaded h.1 g.1)
one_call p q r s (Load x) (Loaded report) _ is js same h g = absurd g
one_call p q r s (Load x) Again (Loaded report) is js same h g = absurd (not_both q p x (λ n. sym (same.loaded n)) g.1 h.1)
one_call p q r s (Load x) Again Again is js same h g = record { answer = refl; part = agree r s p q h.2 g.2 same }
one_call p q r s (Load x) Again _ is js same h g = absurd g
one_call p q r s (Load x) _ _ is js same h g = absurd h
one_call p q r s (Finish sub) (Finished report) (Finished other) is js same h g = record {
  answer = ap Finished (h.3 ∙ one_done p q sub same ∙ sym g.3);
  part = agree r s (after_finish p sub) (after_finish q sub) h.4 g.4 (finishing p q sub same);
}
one_call p q r s (Finish sub) (Finished report) _ is js same h g = absurd g
one_call p q r s (Finish sub) _ _ is js same h g = absurd h
one_call p q r s Close (Closed m) (Closed n) is js same h g = record {
  answer = ap Closed (h.0 ∙ ap (λ c. c.number) (one_course p q same) ∙ sym g.0);
  part = agree r s (after_close p) (after_close q) h.1 g.1 (closing p q is js same);
}
one_call p q r s Close (Closed m) _ is js same h g = absurd g
one_call p q r s Close _ _ is js same h g = absurd h

-- ---- a log

pub one_log : (p q r s : PartValue) (cs : List Call) (xs ys : List Answer) → IsPart p → IsPart q → IsSamePart p q → Replays p cs xs r → Replays q cs ys s → (xs ≡ ys) × IsSamePart r s
one_log p q r s [] [] [] is js same h g = (refl, agree r s p q h g same)
one_log p q r s [] [] (y ∷ ys) is js same h g = absurd g
one_log p q r s [] (x ∷ xs) ys is js same h g = absurd h
one_log p q r s (c ∷ cs) [] ys is js same h g = absurd h
one_log p q r s (c ∷ cs) (x ∷ xs) [] is js same h g = absurd g
one_log p q r s (c ∷ cs) (x ∷ xs) (y ∷ ys) is js same h g =
    let once = one_call p q h.0 g.0 c x y is js same h.2 g.2 in
    let rest = one_log h.0 g.0 r s cs xs ys h.1 g.1 once.part h.3 g.3 in
    ((λ i. once.answer i ∷ rest.0 i), rest.1)

-- no call tells a partition from itself
pub itself : (p : PartValue) → IsSamePart p p
itself p = record { id = refl; first = refl; board = refl; held = refl; given = λ n. refl; loaded = λ n. refl; closed = λ n. refl }

-- what a log leads to from one partition is one
pub one_lead : (p r s : PartValue) (calls : List Call) → IsPart p → Leads p calls r → Leads p calls s → IsSamePart r s
one_lead p r s calls is a b = (one_log p p r s calls a.0 b.0 is is (itself p) a.1 b.1).1
