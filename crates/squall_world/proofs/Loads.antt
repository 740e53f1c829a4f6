-- A partition loads a chunk, and reports that it has all: the steps of the world.
use Rattle.std.proofs.Common.{◌≡◌, ℕ, ◌<◌, ◌==◌, Bool, true, false, not, [], ◌∷◌, Some, Ok, Err, refl, sym, ap, subst, ◌∙◌, inl, inr}
use Rattle.std.specs.Prelude.{◌||◌, ◌&&◌}
use Rattle.std.proofs.lemmas.Option.{same_Some}
use Rattle.squall_span.specs.Spans.{has, span_has}
use Rattle.squall_report.specs.Queries.{joined_queries, queries_by_report}
use Rattle.squall_report.specs.declared.report.ReportKind.{ReportKind}
use Rattle.squall_report.specs.Issues.{PlanPair}
use Rattle.squall_board.specs.Boards.{IsBoard, board_join, report_board}
use Rattle.squall_board.specs.BoardQueries.{queries_of}
use Rattle.squall_part.specs.declared.loading.Load.TheVariants.{Again as LoadAgain, Loaded as LoadLoaded}
use Rattle.squall_protocol.specs.Chunks.{ChunkValue, load_report}
use Rattle.squall_part.specs.Parts.{PartValue, IsPart, opened_at, course_of_part}
use Rattle.squall_part.specs.Loading.{MayLoad as MayLoadPart, after_load as part_after_load, done_report, after_finish}
use Rattle.squall_protocol.specs.declared.event.Node.TheVariants.{Part}
use Rattle.squall_protocol.specs.declared.event.Event.TheVariants.{Load as LoadEvent, Finish}
use Rattle.squall_protocol.specs.declared.answer.Answer.{Answer}
use Rattle.squall_protocol.specs.declared.answer.Answer.TheVariants.{Loaded, Again, Finished, Refused}
use Rattle.squall_protocol.specs.Worlds.{SameWorld}
use Rattle.squall_protocol.specs.Steps.{after_load, after_told, LoadStep, FinishStep}
use Rattle.squall_nodes.specs.PartCalls.{load_refusal, finish_refusal}
use Rattle.squall_nodes.proofs.Agree.{queries_report}
use Rattle.squall_nodes.proofs.Partitions.{held_after_load, loaded_after_load, closed_after_load, given_after_load, span_some, load_board, done_board}
use Rattle.squall_nodes.proofs.Loads.{loads_by_step, finishes_by_step}
use Rattle.squall_world.specs.declared.peer.Role.TheVariants.{Part as PartRole}
use Rattle.squall_world.specs.Nets.{PeerValue, NetValue, IsNet, reported, with_peer, peer_of, role_board, part_in, leader_in}
use Rattle.squall_world.specs.Views.{view, part_of, held_by, closed_under, given_under, loaded_under, opened_by}
use Rattle.squall_world.specs.Events.{HasPart, IsLoadIn, IsFinishIn, with_report}
use Rattle.squall_world.proofs.Lists.{eq_refl}
use Rattle.squall_world.proofs.Nodes.{IsChanged, each_part, no_node, first_number}
use Rattle.squall_world.proofs.History.{IsMore, history_of, more_reported}
use Rattle.squall_world.proofs.Kept.{SameKind, changed, changed_net}
use Rattle.squall_world.proofs.Seen.{part_stands, part_found, part_is_there, ids_kept, counts_kept, facts_told, parts_kept, messages_kept, still, step_to, refused_to}
use Rattle.squall_world.proofs.Gifts.{part_valid}

or_none : (b c : Bool) → b ≡ (b || (c && false))
or_none true c = refl
or_none false true = refl
or_none false false = refl

or_no : (b : Bool) → b ≡ (b || false)
or_no true = refl
or_no false = refl

-- ---- a partition that reports

module _ (n : NetValue) (p at : ℕ) (peer : PeerValue) (a b : PartValue) (report : ReportKind PlanPair) (net : IsNet n) (h : HasPart n p at peer a) (new : IsPart b) (id : b.id ≡ a.id) (first : b.first ≡ a.first) (board : b.board ≡ board_join a.board (report_board report)) (valid_report : IsBoard (report_board report)) where
  abbrev pub reporter : PeerValue
  reporter = reported at peer (PartRole b) report

  is_a : IsPart a
  is_a = (part_valid n p at peer a net h).1

  pub report_kind : SameKind peer.role (PartRole b)
  report_kind = subst (λ r. SameKind r (PartRole b)) (sym h.role) (id, first)

  pub report_changed : IsChanged n (Part p) at peer reporter
  report_changed = changed n (Part p) at peer reporter h.place h.there report_kind

  more : IsMore n.peers at peer reporter
  more = more_reported n.peers n.messages at peer (PartRole b) report (history_of n net) h.there new valid_report (board ∙ ap (λ r. board_join (role_board r) (report_board report)) (sym h.role))

  pub report_keeps : IsNet (with_report n at peer (PartRole b) report)
  report_keeps = changed_net n (Part p) at peer reporter net report_changed report_kind more

  pub report_facts : queries_of b.board ≡ joined_queries (queries_of (role_board peer.role)) (queries_by_report report)
  report_facts = ap queries_of board ∙ queries_report a.board report is_a.board valid_report ∙ ap (λ r. joined_queries (queries_of (role_board r)) (queries_by_report report)) (sym h.role)

  pub report_opened : opened_by (leader_in (PartRole b)) ≡ opened_by (leader_in peer.role)
  report_opened = ap (λ r. opened_by (leader_in r)) (sym h.role)

-- ---- a load

module _ (n : NetValue) (i at : ℕ) (x : ChunkValue) (peer : PeerValue) (a : PartValue) (net : IsNet n) (h : HasPart n x.dest at peer a) (new : IsPart (part_after_load a x)) (may : MayLoadPart a x) (lt : x.span.lo < x.span.hi) where
  abbrev loader : PeerValue
  loader = reported at peer (PartRole (part_after_load a x)) (load_report x)

  is_l : IsPart a
  is_l = (part_valid n x.dest at peer a net h).1

  first_one : a.first.number ≡ 1
  first_one = ap (λ v. v.number) (part_is_there n x.dest at peer a net h).0 ∙ first_number n net

  board_of_load : IsBoard (report_board (load_report x))
  board_of_load = load_board a may.0 x is_l first_one (part_is_there n x.dest at peer a net h).1 may.1 may.2 (may.3, may.4) lt

  pub load_net : IsNet (with_report n at peer (PartRole (part_after_load a x)) (load_report x))
  load_net = report_keeps n x.dest at peer a (part_after_load a x) (load_report x) net h new refl refl refl board_of_load

  ch : IsChanged n (Part x.dest) at peer loader
  ch = report_changed n x.dest at peer a (part_after_load a x) (load_report x) net h new refl refl refl board_of_load

  found : part_of (peer_of n (Part x.dest)) ≡ Some a
  found = part_found n x.dest at peer a h

  held : (q k : ℕ) → held_by (part_of (peer_of (with_peer n at loader) (Part q))) k ≡ (held_by (part_of (peer_of n (Part q))) k || ((q == x.dest) && (span_has x.span k && not (loaded_under (part_of (peer_of n (Part x.dest))) x.number k))))
  held q k = each_part n x.dest at peer loader net ch (λ q o. held_by o k ≡ (held_by (part_of (peer_of n (Part q))) k || ((q == x.dest) && (span_has x.span k && not (loaded_under (part_of (peer_of n (Part x.dest))) x.number k)))))
      (held_after_load a x k is_l lt ∙ (λ i. held_by (sym found i) k || (sym (eq_refl x.dest) i && (span_has x.span k && not (loaded_under (sym found i) x.number k)))))
      (λ q f. or_no (held_by (part_of (peer_of n (Part q))) k) ∙ ap (λ b. held_by (part_of (peer_of n (Part q))) k || (b && (span_has x.span k && not (loaded_under (part_of (peer_of n (Part x.dest))) x.number k)))) (sym f))
      q

  loaded : (m q k : ℕ) → loaded_under (part_of (peer_of (with_peer n at loader) (Part q))) m k ≡ (loaded_under (part_of (peer_of n (Part q))) m k || ((m == x.number) && ((q == x.dest) && span_has x.span k)))
  loaded m q k = each_part n x.dest at peer loader net ch (λ q o. loaded_under o m k ≡ (loaded_under (part_of (peer_of n (Part q))) m k || ((m == x.number) && ((q == x.dest) && span_has x.span k))))
      (loaded_after_load a x may.0 m k is_l may.1 lt ∙ (λ i. loaded_under (sym found i) m k || ((m == x.number) && (sym (eq_refl x.dest) i && span_has x.span k))))
      (λ q f. or_none (loaded_under (part_of (peer_of n (Part q))) m k) (m == x.number) ∙ ap (λ b. loaded_under (part_of (peer_of n (Part q))) m k || ((m == x.number) && (b && span_has x.span k))) (sym f))
      q

  pub load_seen : SameWorld (view (with_report n at peer (PartRole (part_after_load a x)) (load_report x))) (after_load (view n) x)
  load_seen = record {
    old = λ m. refl;
    new = λ m. refl;
    last = refl;
    opened = λ i. counts_kept n (Part x.dest) at peer loader net ch (ap (λ r. opened_by (leader_in r)) (sym h.role)) i;
    parts = ids_kept n (Part x.dest) at peer loader net ch;
    routers = refl;
    held = held;
    closed = λ m q. parts_kept n (Part x.dest) at peer loader net ch (λ o. closed_under o m) (closed_after_load a x m ∙ ap (λ r. closed_under (part_in r) m) (sym h.role)) q;
    given = λ m q k. parts_kept n (Part x.dest) at peer loader net ch (λ o. given_under o m k) (ap (λ v. has v k) (given_after_load a x m) ∙ ap (λ r. given_under (part_in r) m k) (sym h.role)) q;
    loaded = loaded;
    facts = λ y. facts_told n (Part x.dest) at peer loader net ch (queries_by_report (load_report x)) (report_facts n x.dest at peer a (part_after_load a x) (load_report x) net h new refl refl refl board_of_load) y;
    messages = messages_kept n (Part x.dest) at peer loader net ch (load_report x ∷ []) refl n.messages net.messages;
    chunks = refl;
  }

pub load_keeps : (n m : NetValue) (i : ℕ) (answer : Answer) → IsNet n → IsLoadIn n i (Ok answer) m → IsNet m
load_keeps n m i (Loaded report) net (x, at, peer, a, b, chunk, h, (may, missing, r, e), part, is) =
    subst IsNet (sym (is ∙ (λ j. with_report n at peer (PartRole (e j)) (r j)))) (load_net n i at x peer a net h (subst IsPart e part) may (span_some x.span missing.0 missing.1))
load_keeps n m i Again net (x, at, peer, a, chunk, h, is, same) = subst IsNet (sym same) net
load_keeps n m i (Refused e) net (inl none) = subst IsNet (sym none.2) net
load_keeps n m i (Refused e) net (inr (inl (x, chunk, none))) = subst IsNet (sym none.2) net
load_keeps n m i (Refused e) net (inr (inr (x, at, peer, a, f, chunk, h, is, r, same))) = subst IsNet (sym same) net
load_keeps n m i answer net is = absurd is

pub load_steps : (n m : NetValue) (i : ℕ) (answer : Answer) → IsNet n → IsLoadIn n i (Ok answer) m → LoadStep (view n) i answer (view m)
load_steps n m i (Loaded report) net (x, at, peer, a, b, chunk, h, loaded, part, is) =
    let law = loads_by_step (view n) i x a b (Ok (LoadLoaded report)) (part_stands n x.dest at peer a net h) (part_valid n x.dest at peer a net h).1 chunk loaded in
    let y = law.1.0 in
    let one : y ≡ x = same_Some y x (sym law.1.1.chunk ∙ chunk) in
    let to : SameWorld law.0 (after_load (view n) x) = subst (λ z. SameWorld law.0 (after_load (view n) z)) one law.1.5 in
    let e = loaded.3 in
    step_to (view n) law.0 (view m) (after_load (view n) x) (LoadEvent i) (Loaded report) law.1 to
    (subst (λ v. SameWorld (view v) (after_load (view n) x)) (sym (is ∙ (λ j. with_report n at peer (PartRole (e j)) (loaded.2 j)))) (load_seen n i at x peer a net h (subst IsPart e part) loaded.0 (span_some x.span loaded.1.0 loaded.1.1)))
load_steps n m i Again net (x, at, peer, a, chunk, h, loaded, same) =
    let law = loads_by_step (view n) i x a a (Ok LoadAgain) (part_stands n x.dest at peer a net h) (part_valid n x.dest at peer a net h).1 chunk loaded in
    step_to (view n) law.0 (view m) (view n) (LoadEvent i) Again law.1 law.1.1 (still n m same)
load_steps n m i (Refused e) net (inl (none, r, same)) = subst (λ v. LoadStep (view n) i (Refused v) (view m)) (sym r) (inl none, still n m same)
load_steps n m i (Refused e) net (inr (inl (x, chunk, (none, r, same)))) = subst (λ v. LoadStep (view n) i (Refused v) (view m)) (sym r) (inr (x, chunk, no_node n (Part x.dest) none), still n m same)
load_steps n m i (Refused e) net (inr (inr (x, at, peer, a, f, chunk, h, is, r, same))) =
    refused_to n m (LoadEvent i) (load_refusal f) e _ same (loads_by_step (view n) i x a a (Err f) (part_stands n x.dest at peer a net h) (part_valid n x.dest at peer a net h).1 chunk is) r
load_steps n m i answer net is = absurd is

-- ---- a completion

module _ (n : NetValue) (p s at : ℕ) (peer : PeerValue) (a : PartValue) (net : IsNet n) (h : HasPart n p at peer a) where
  is_f : IsPart a
  is_f = (part_valid n p at peer a net h).1

  abbrev finisher : PeerValue
  finisher = reported at peer (PartRole (after_finish a s)) (done_report a s)

  first_one_f : a.first.number ≡ 1
  first_one_f = ap (λ v. v.number) (part_is_there n p at peer a net h).0 ∙ first_number n net

  module _ (new : IsPart (after_finish a s)) (many : s < opened_at a (course_of_part a).number) where
    board_of_done : IsBoard (report_board (done_report a s))
    board_of_done = done_board a s is_f first_one_f (part_is_there n p at peer a net h).1 many

    pub finish_net : IsNet (with_report n at peer (PartRole (after_finish a s)) (done_report a s))
    finish_net = report_keeps n p at peer a (after_finish a s) (done_report a s) net h new refl refl refl board_of_done

    ch_f : IsChanged n (Part p) at peer finisher
    ch_f = report_changed n p at peer a (after_finish a s) (done_report a s) net h new refl refl refl board_of_done

    pub finish_seen : SameWorld (view (with_report n at peer (PartRole (after_finish a s)) (done_report a s))) (after_told (view n) (Part p) (queries_by_report (done_report a s)))
    finish_seen = record {
      old = λ m. refl;
      new = λ m. refl;
      last = refl;
      opened = λ i. counts_kept n (Part p) at peer finisher net ch_f (ap (λ r. opened_by (leader_in r)) (sym h.role)) i;
      parts = ids_kept n (Part p) at peer finisher net ch_f;
      routers = refl;
      held = λ q k. parts_kept n (Part p) at peer finisher net ch_f (λ o. held_by o k) (ap (λ r. held_by (part_in r) k) (sym h.role)) q;
      closed = λ m q. parts_kept n (Part p) at peer finisher net ch_f (λ o. closed_under o m) (ap (λ r. closed_under (part_in r) m) (sym h.role)) q;
      given = λ m q k. parts_kept n (Part p) at peer finisher net ch_f (λ o. given_under o m k) (ap (λ r. given_under (part_in r) m k) (sym h.role)) q;
      loaded = λ m q k. parts_kept n (Part p) at peer finisher net ch_f (λ o. loaded_under o m k) (ap (λ r. loaded_under (part_in r) m k) (sym h.role)) q;
      facts = λ y. facts_told n (Part p) at peer finisher net ch_f (queries_by_report (done_report a s)) (report_facts n p at peer a (after_finish a s) (done_report a s) net h new refl refl refl board_of_done) y;
      messages = messages_kept n (Part p) at peer finisher net ch_f (done_report a s ∷ []) refl n.messages net.messages;
      chunks = refl;
    }

pub finish_keeps : (n m : NetValue) (p s : ℕ) (answer : Answer) → IsNet n → IsFinishIn n p s (Ok answer) m → IsNet m
finish_keeps n m p s (Finished report) net (at, peer, a, b, h, (many, none, some, r, e), part, is) =
    subst IsNet (sym (is ∙ (λ j. with_report n at peer (PartRole (e j)) (r j)))) (finish_net n p s at peer a net h (subst IsPart e part) many)
finish_keeps n m p s (Refused e) net (inl none) = subst IsNet (sym none.2) net
finish_keeps n m p s (Refused e) net (inr (at, peer, a, f, h, is, r, same)) = subst IsNet (sym same) net
finish_keeps n m p s answer net is = absurd is

pub finish_steps : (n m : NetValue) (p s : ℕ) (answer : Answer) → IsNet n → IsFinishIn n p s (Ok answer) m → FinishStep (view n) p s answer (view m)
finish_steps n m p s (Finished report) net (at, peer, a, b, h, finished, part, is) =
    let law = finishes_by_step (view n) p s a b (Ok report) (part_stands n p at peer a net h) (part_valid n p at peer a net h).1 finished in
    let e = finished.4 in
    let seen : SameWorld (view m) (after_told (view n) (Part p) (queries_by_report report)) =
    subst (λ r. SameWorld (view m) (after_told (view n) (Part p) (queries_by_report r))) (sym finished.3)
    (subst (λ v. SameWorld (view v) (after_told (view n) (Part p) (queries_by_report (done_report a s)))) (sym (is ∙ (λ j. with_report n at peer (PartRole (e j)) (finished.3 j)))) (finish_seen n p s at peer a net h (subst IsPart e part) finished.0)) in
    let told : SameWorld law.0 (after_told (view n) (Part p) (queries_by_report report)) = subst (λ r. SameWorld law.0 (after_told (view n) (Part p) (queries_by_report r))) (sym law.1.1.4) law.1.1.5 in
    step_to (view n) law.0 (view m) (after_told (view n) (Part p) (queries_by_report report)) (Finish p s) (Finished report) law.1 told seen
finish_steps n m p s (Refused e) net (inl (none, r, same)) = subst (λ v. FinishStep (view n) p s (Refused v) (view m)) (sym r) (no_node n (Part p) none, still n m same)
finish_steps n m p s (Refused e) net (inr (at, peer, a, f, h, is, r, same)) =
    refused_to n m (Finish p s) (finish_refusal f) e _ same (finishes_by_step (view n) p s a a (Err f) (part_stands n p at peer a net h) (part_valid n p at peer a net h).1 is) r
finish_steps n m p s answer net is = absurd is
