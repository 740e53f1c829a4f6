-- What is told is known where it comes from: a load and a completion to their partition, an opening and an issue to the leader.
use Rattle.std.proofs.Common.{◌≡◌, ◌⊎◌, ℕ, ◌+◌, ◌≤◌, ◌==◌, ◌&&◌, Bool, true, false, List, [], ◌∷◌, ◌++◌, length, refl, sym, ap, ◌∙◌, subst, inl, inr, ⊎_elim, arith, cond, le_refl, le_trans, true≢false}
use Rattle.std.specs.Prelude.{Some}
use Rattle.std.specs.List.{slice_get, list_any}
use Rattle.std.proofs.lemmas.Bool.{cases_Bool, cond-true, cond-false, or_cases, or_left, or_right, and_parts, eqb-true}
use Rattle.squall_span.specs.Spans.{span_has}
use Rattle.squall_plan.specs.declared.range.PlanRange.{PlanRange}
use Rattle.squall_join.specs.declared.flat.Flat.{Flat}
use Rattle.squall_join.specs.declared.flat.Flat.TheVariants.{Unknown, One, Clash}
use Rattle.squall_report.specs.Issues.{PlanPair, plan_pair, is_same_pair}
use Rattle.squall_report.specs.Cells.{CellPlace, place_at, is_same_cell}
use Rattle.squall_report.specs.Told.{both_issued}
use Rattle.squall_report.specs.ToldLaws.{issued_comm}
use Rattle.squall_report.specs.Queries.{Queries, joined_queries, loaded_queries, done_queries, opened_queries, issued_queries}
use Rattle.squall_report.specs.QueriesLaws.{same_queries}
use Rattle.squall_board.specs.Boards.{BoardValue}
use Rattle.squall_board.specs.BoardQueries.{queries_of}
use Rattle.squall_protocol.specs.Chunks.{ChunkValue}
use Rattle.squall_protocol.specs.declared.event.Node.{Node}
use Rattle.squall_protocol.specs.declared.event.Node.TheVariants.{Leader, Part, Router}
use Rattle.squall_protocol.specs.declared.event.Event.{Event}
use Rattle.squall_protocol.specs.declared.event.Event.TheVariants.{OpenNext, Begin, BeginFrom, Close, Give, GiveAt, Load, Finish, Send, SendPart, Deliver, Route, Serve}
use Rattle.squall_protocol.specs.declared.answer.Answer.{Answer}
use Rattle.squall_protocol.specs.declared.answer.Answer.TheVariants.{Opened, Begun, Closed, Gave, Loaded, Again, Finished, Sent, Delivered, Routed, Served, Refused}
use Rattle.squall_protocol.specs.declared.answer.Refusal.TheVariants.{NoSuch, NotDone, NoMore, Running, NoNumber, NotOpen, Ended, NothingLeft, ZeroMax, NotOutgoing, Given, NotHeld, Stranger, NotAll, NothingDue, NotKnown}
use Rattle.squall_protocol.specs.Worlds.{WorldValue, SameWorld, same_node, is_part, WasBegun, pair_at, start}
use Rattle.squall_protocol.specs.Steps.{told_to, after_open, after_begin, after_close, after_give, after_load, after_told, IsPartOf, OpenStep, BeginStep, BeginFromStep, CloseStep, GiveStep, GiveAtStep, LoadStep, FinishStep, SendStep, SendPartStep, DeliverStep, RouteStep, ServeStep, Step, Run}
use Rattle.squall_protocol.specs.WorldLaws.{same_world, same_as_itself, reached_start, reached_step}
use Rattle.squall_protocol.specs.Promises.{IsReached, Happened}
use Rattle.squall_protocol.specs.ListLaws.{at_either}
use Rattle.squall_protocol.proofs.ProtocolLaws.{true_reports, part_stays}
use Rattle.squall_audit.specs.Logs.{Rooted}
use Rattle.squall_audit.proofs.Views.{same_self}

-- ---- parts of what is told

-- nothing, or one pair of plans
abbrev pub IsSettled : Flat PlanPair → Type 0
IsSettled x = (x ≡ Unknown) ⊎ ((pair : PlanPair) × (x ≡ One pair))

pub settled : (w : WorldValue) (f : Queries) (n : ℕ) → Happened w f → IsSettled (f.issued n)
settled w f n t = ⊎_elim (λ (none : f.issued n ≡ Unknown). inl none) (λ (one : WasBegun w n × (f.issued n ≡ One (pair_at w n))). inr (pair_at w n, one.1)) (t.issued n)

no_clash : IsSettled Clash → ⊥
no_clash (inl e) = cc
no_clash (inr (pair, e)) = cc

-- if two issues together are settled, then each is nothing, or both together
same_one : (b : Bool) (x : PlanPair) → IsSettled (cond b (One x) Clash) → One x ≡ cond b (One x) Clash
same_one true x h = refl
same_one false x h = absurd (no_clash h)

pub first_issued : (x y : Flat PlanPair) → IsSettled (both_issued x y) → (x ≡ Unknown) ⊎ (x ≡ both_issued x y)
first_issued Unknown y h = inl refl
first_issued (One a) Unknown h = inr refl
first_issued (One a) (One b) h = inr (same_one (is_same_pair a b) a h)
first_issued (One a) Clash h = absurd (no_clash h)
first_issued Clash y h = absurd (no_clash h)

pub second_issued : (x y : Flat PlanPair) → IsSettled (both_issued x y) → (y ≡ Unknown) ⊎ (y ≡ both_issued x y)
second_issued x y h = subst (λ z. (y ≡ Unknown) ⊎ (y ≡ z)) (issued_comm y x) (first_issued y x (subst IsSettled (issued_comm x y) h))

pub joined_first : (f g : Queries) → ((n : ℕ) → IsSettled ((joined_queries f g).issued n)) → IsPartOf f (joined_queries f g)
joined_first f g is =
    record {
      loaded = λ c k h. or_left (f.loaded c k) (g.loaded c k) h;
      done = λ c h. or_left (f.done c) (g.done c) h;
      opened = λ n. omega arith;
      issued = λ n. first_issued (f.issued n) (g.issued n) (is n);
    }

pub joined_second : (f g : Queries) → ((n : ℕ) → IsSettled ((joined_queries f g).issued n)) → IsPartOf g (joined_queries f g)
joined_second f g is =
    record {
      loaded = λ c k h. or_right (f.loaded c k) (g.loaded c k) h;
      done = λ c h. or_right (f.done c) (g.done c) h;
      opened = λ n. omega arith;
      issued = λ n. second_issued (f.issued n) (g.issued n) (is n);
    }

part_of_itself : (f : Queries) → IsPartOf f f
part_of_itself f = record { loaded = λ c k h. h; done = λ c h. h; opened = λ n. le_refl (f.opened n); issued = λ n. inr refl }

-- ---- where it comes from

-- so it is of all that nodes know, and that messages tell
pub record Origins (w : WorldValue) : Type 0 where
  pub facts : (m : Node) → Rooted w (w.facts m)
  pub messages : (i : ℕ) (q : Queries) → slice_get w.messages i ≡ Some q → Rooted w q

pub rooted_part : (w : WorldValue) (q f : Queries) → IsPartOf q f → Rooted w f → Rooted w q
rooted_part w q f part r =
    record {
      loaded = λ c k h. r.loaded c k (part.loaded c k h);
      done = λ c h. r.done c (part.done c h);
      opened = λ n. le_trans (part.opened n) (r.opened n);
      issued = λ n. ⊎_elim (λ (none : q.issued n ≡ Unknown). inl none) (λ (same : q.issued n ≡ f.issued n). ⊎_elim (λ (none : f.issued n ≡ Unknown). inl (same ∙ none)) (λ (lead : f.issued n ≡ (w.facts Leader).issued n). inr (same ∙ lead)) (r.issued n)) (part.issued n);
    }

-- it stays known
pub rooted_later : (w v : WorldValue) (q : Queries) → ((p : ℕ) → is_part w p ≡ true → is_part v p ≡ true) → ((m : Node) → IsPartOf (w.facts m) (v.facts m)) → Rooted w q → Rooted v q
rooted_later w v q parts more r =
    record {
      loaded = λ c k h. let x = r.loaded c k h in (parts c.part x.0, (more (Part c.part)).loaded c k x.1);
      done = λ c h. let x = r.done c h in (parts c.part x.0, (more (Part c.part)).done c x.1);
      opened = λ n. le_trans (r.opened n) ((more Leader).opened n);
      issued = λ n. ⊎_elim (λ (none : q.issued n ≡ Unknown). inl none)
          (λ (lead : q.issued n ≡ (w.facts Leader).issued n). ⊎_elim (λ (none : (w.facts Leader).issued n ≡ Unknown). inl (lead ∙ none)) (λ (same : (w.facts Leader).issued n ≡ (v.facts Leader).issued n). inr (lead ∙ same)) ((more Leader).issued n))
          (r.issued n);
    }

-- what only loads and completions of a partition are, is known to it
of_part : (w : WorldValue) (q : Queries) (p : ℕ) → is_part w p ≡ true → IsPartOf q (w.facts (Part p)) → ((c : CellPlace) (k : ℕ) → q.loaded c k ≡ true → c.part ≡ p) → ((c : CellPlace) → q.done c ≡ true → c.part ≡ p)
    → ((n : ℕ) → q.opened n ≡ 0) → ((n : ℕ) → q.issued n ≡ Unknown) → Rooted w q
of_part w q p is part loads dones none never =
    record {
      loaded = λ c k h. subst (λ r. (is_part w r ≡ true) × ((w.facts (Part r)).loaded c k ≡ true)) (sym (loads c k h)) (is, part.loaded c k h);
      done = λ c h. subst (λ r. (is_part w r ≡ true) × ((w.facts (Part r)).done c ≡ true)) (sym (dones c h)) (is, part.done c h);
      opened = λ n. subst (λ x. x ≤ (w.facts Leader).opened n) (sym (none n)) (omega arith);
      issued = λ n. inl (never n);
    }

of_leader : (w : WorldValue) (q : Queries) → IsPartOf q (w.facts Leader) → ((c : CellPlace) (k : ℕ) → q.loaded c k ≡ false) → ((c : CellPlace) → q.done c ≡ false) → Rooted w q
of_leader w q part none never =
    record {
      loaded = λ c k h. absurd (true≢false (sym h ∙ none c k));
      done = λ c h. absurd (true≢false (sym h ∙ never c));
      opened = part.opened;
      issued = part.issued;
    }

same_part : (n s p : ℕ) (c : CellPlace) → is_same_cell (place_at n s p) c ≡ true → c.part ≡ p
same_part n s p c h =
    let x = and_parts (n == c.number) ((s == c.sub) && (p == c.part)) h in
    let y = and_parts (s == c.sub) (p == c.part) x.1 in
    sym (eqb-true p c.part y.1)

-- ---- over a step

-- one node was told more, which is known where it comes from
pub record Heard (w v : WorldValue) : Type 0 where
  node : Node
  more : Queries
  told : (m : Node) → v.facts m ≡ told_to w node more m
  messages : v.messages ≡ w.messages
  parts : (p : ℕ) → is_part w p ≡ true → is_part v p ≡ true
  rooted : ((m : Node) → IsPartOf (w.facts m) (v.facts m)) → IsPartOf more (v.facts node) → Rooted v more

module _ (w v : WorldValue) (reached : IsReached v) (origins : Origins w) where
  still : ((m : Node) → v.facts m ≡ w.facts m) → ((i : ℕ) (q : Queries) → slice_get v.messages i ≡ Some q → (slice_get w.messages i ≡ Some q) ⊎ Rooted w q) → ((p : ℕ) → is_part w p ≡ true → is_part v p ≡ true) → Origins v
  still facts messages parts =
      record {
        facts = λ m. subst (Rooted v) (sym (facts m)) (later (w.facts m) (origins.facts m));
        messages = λ i q at. later q (⊎_elim (λ (old : slice_get w.messages i ≡ Some q). origins.messages i q old) (λ (new : Rooted w q). new) (messages i q at));
      }
    where
      later : (q : Queries) → Rooted w q → Rooted v q
      later q r = rooted_later w v q parts (λ m. subst (λ f. IsPartOf (w.facts m) f) (sym (facts m)) (part_of_itself (w.facts m))) r

  unchanged : SameWorld v w → Origins v
  unchanged same = subst Origins (sym (same_world v w same)) origins

  heard : Heard w v → Origins v
  heard h = record { facts = facts; messages = λ i q at. later q (origins.messages i q (subst (λ xs. slice_get xs i ≡ Some q) h.messages at)) }
    where
      is_settled : (m : Node) (n : ℕ) → IsSettled ((v.facts m).issued n)
      is_settled m n = settled v (v.facts m) n (true_reports v reached m)

      at_node : (m : Node) → same_node m h.node ≡ true → v.facts m ≡ joined_queries (w.facts m) h.more
      at_node m e = h.told m ∙ cond-true (same_node m h.node) (joined_queries (w.facts m) h.more) (w.facts m) e

      elsewhere : (m : Node) → same_node m h.node ≡ false → v.facts m ≡ w.facts m
      elsewhere m e = h.told m ∙ cond-false (same_node m h.node) (joined_queries (w.facts m) h.more) (w.facts m) e

      grows : (m : Node) → IsPartOf (w.facts m) (v.facts m)
      grows m = ⊎_elim
          (λ (e : same_node m h.node ≡ true).
          subst (IsPartOf (w.facts m)) (sym (at_node m e)) (joined_first (w.facts m) h.more (λ n. subst (λ (f : Queries). IsSettled (f.issued n)) (at_node m e) (is_settled m n))))
          (λ (e : same_node m h.node ≡ false). subst (IsPartOf (w.facts m)) (sym (elsewhere m e)) (part_of_itself (w.facts m)))
          (cases_Bool (same_node m h.node))

      here : v.facts h.node ≡ joined_queries (w.facts h.node) h.more
      here = at_node h.node (same_self h.node)

      new : Rooted v h.more
      new = h.rooted grows (subst (IsPartOf h.more) (sym here) (joined_second (w.facts h.node) h.more (λ n. subst (λ (f : Queries). IsSettled (f.issued n)) here (is_settled h.node n))))

      later : (q : Queries) → Rooted w q → Rooted v q
      later q r = rooted_later w v q h.parts grows r

      both : (f : Queries) → Rooted v f → ((n : ℕ) → IsSettled ((joined_queries f h.more).issued n)) → Rooted v (joined_queries f h.more)
      both f r is =
          record {
            loaded = λ c k x. ⊎_elim (λ y. r.loaded c k y) (λ y. new.loaded c k y) (or_cases (f.loaded c k) (h.more.loaded c k) x);
            done = λ c x. ⊎_elim (λ y. r.done c y) (λ y. new.done c y) (or_cases (f.done c) (h.more.done c) x);
            opened = λ n. omega (arith, r.opened n, new.opened n);
            issued = λ n. both_at n;
          }
        where
          both_at : (n : ℕ) → (both_issued (f.issued n) (h.more.issued n) ≡ Unknown) ⊎ (both_issued (f.issued n) (h.more.issued n) ≡ (v.facts Leader).issued n)
          both_at n = ⊎_elim
              (λ (a : f.issued n ≡ Unknown). ⊎_elim
              (λ (b : h.more.issued n ≡ Unknown). inl (ap (λ x. both_issued x (h.more.issued n)) a ∙ b))
              (λ (b : h.more.issued n ≡ (v.facts Leader).issued n). inr (ap (λ x. both_issued x (h.more.issued n)) a ∙ b))
              (new.issued n))
              (λ (a : f.issued n ≡ (v.facts Leader).issued n). ⊎_elim
              (λ (none : f.issued n ≡ Unknown). ⊎_elim
              (λ (b : h.more.issued n ≡ Unknown). inl (ap (λ x. both_issued x (h.more.issued n)) none ∙ b))
              (λ (b : h.more.issued n ≡ (v.facts Leader).issued n). inr (ap (λ x. both_issued x (h.more.issued n)) none ∙ b))
              (new.issued n))
              (λ (all : f.issued n ≡ both_issued (f.issued n) (h.more.issued n)). inr (sym all ∙ a))
              (first_issued (f.issued n) (h.more.issued n) (is n)))
              (r.issued n)

      facts : (m : Node) → Rooted v (v.facts m)
      facts m = ⊎_elim
          (λ (e : same_node m h.node ≡ true).
          subst (Rooted v) (sym (at_node m e)) (both (w.facts m) (later (w.facts m) (origins.facts m)) (λ n. subst (λ (f : Queries). IsSettled (f.issued n)) (at_node m e) (is_settled m n))))
          (λ (e : same_node m h.node ≡ false). subst (Rooted v) (sym (elsewhere m e)) (later (w.facts m) (origins.facts m)))
          (cases_Bool (same_node m h.node))

  -- ---- each event

  told_same : (u : WorldValue) → SameWorld v u → (m : Node) → v.facts m ≡ u.facts m
  told_same u s m = same_queries (v.facts m) (u.facts m) (s.facts m)

  parts_same : v.parts ≡ w.parts → (p : ℕ) → is_part w p ≡ true → is_part v p ≡ true
  parts_same same p is = subst (λ xs. list_any (λ q. q == p) xs ≡ true) (sym same) is

  open_keeps : (r : Answer) → OpenStep w r v → Origins v
  open_keeps (Opened s) h = heard (record {
    node = Leader;
    more = opened_queries w.last (w.opened w.last);
    told = told_same (after_open w) h.3;
    messages = h.3.messages;
    parts = parts_same h.3.parts;
    rooted = λ grows part. of_leader v (opened_queries w.last (w.opened w.last)) part (λ c k. refl) (λ c. refl);
  })
  open_keeps (Refused (NotDone s q)) h = unchanged h.2
  open_keeps (Refused NoMore) h = unchanged h.1
  open_keeps _ h = absurd h

  begun : (old new : List PlanRange) → SameWorld v (after_begin w old new) → Origins v
  begun old new same = heard (record {
    node = Leader;
    more = issued_queries (w.last + 1) (plan_pair old new);
    told = told_same (after_begin w old new) same;
    messages = same.messages;
    parts = λ p is. subst (λ xs. list_any (λ q. q == p) xs ≡ true) (sym same.parts) (part_stays w _ p is);
    rooted = λ grows part. of_leader v (issued_queries (w.last + 1) (plan_pair old new)) part (λ c k. refl) (λ c. refl);
  })

  begin_keeps : (plan : List PlanRange) (r : Answer) → BeginStep w plan r v → Origins v
  begin_keeps plan (Begun n parts) h = begun (w.new w.last) plan h.5
  begin_keeps plan (Refused Running) h = unchanged h.1
  begin_keeps plan (Refused NoNumber) h = unchanged h.2
  begin_keeps plan _ h = absurd h

  begin_from_keeps : (old new : List PlanRange) (r : Answer) → BeginFromStep w old new r v → Origins v
  begin_from_keeps old new (Begun n parts) h = begun old new h.6
  begin_from_keeps old new (Refused Running) h = unchanged h.1
  begin_from_keeps old new (Refused NoNumber) h = unchanged h.2
  begin_from_keeps old new _ h = absurd h

  -- what tells no node anything
  silent : (u : WorldValue) → SameWorld v u → ((m : Node) → u.facts m ≡ w.facts m) → u.messages ≡ w.messages → u.parts ≡ w.parts → Origins v
  silent u s facts messages parts = still (λ m. told_same u s m ∙ facts m) (λ i q at. inl (subst (λ xs. slice_get xs i ≡ Some q) (s.messages ∙ messages) at)) (parts_same (s.parts ∙ parts))

  close_keeps : (p : ℕ) (r : Answer) → CloseStep w p r v → Origins v
  close_keeps p (Closed n) h = silent (after_close w h.1.0.number p) h.1.3 (λ m. refl) refl refl
  close_keeps p (Refused NoSuch) h = unchanged h.1
  close_keeps p _ h = absurd h

  give_keeps : (p most : ℕ) (r : Answer) → GiveStep w p most r v → Origins v
  give_keeps p most (Gave i x) h = silent (after_give w x) h.3 (λ m. refl) refl refl
  give_keeps p most (Refused NoSuch) h = unchanged h.1
  give_keeps p most (Refused NotOpen) h = unchanged h.2
  give_keeps p most (Refused Ended) h = unchanged h.2
  give_keeps p most (Refused NothingLeft) h = unchanged h.2
  give_keeps p most (Refused ZeroMax) h = unchanged h.3
  give_keeps p most _ h = absurd h

  give_at_keeps : (p k : ℕ) (r : Answer) → GiveAtStep w p k r v → Origins v
  give_at_keeps p k (Gave i x) h = silent (after_give w x) h.3 (λ m. refl) refl refl
  give_at_keeps p k (Refused NoSuch) h = unchanged h.1
  give_at_keeps p k (Refused NotOpen) h = unchanged h.2
  give_at_keeps p k (Refused Ended) h = unchanged h.2
  give_at_keeps p k (Refused NotOutgoing) h = unchanged h.2
  give_at_keeps p k (Refused Given) h = unchanged h.2
  give_at_keeps p k (Refused NotHeld) h = unchanged h.2
  give_at_keeps p k _ h = absurd h

  load_keeps : (i : ℕ) (r : Answer) → LoadStep w i r v → Origins v
  load_keeps i (Loaded report) h =
      let x : ChunkValue = h.0 in
      let more : Queries = loaded_queries (place_at x.number x.sub x.dest) (span_has x.span) in
      heard (record {
        node = Part x.dest;
        more = more;
        told = told_same (after_load w x) h.5;
        messages = h.5.messages;
        parts = parts_same h.5.parts;
        rooted = λ grows part. of_part v more x.dest (parts_same h.5.parts x.dest h.1.dest) part (λ c k y. same_part x.number x.sub x.dest c (and_parts (is_same_cell (place_at x.number x.sub x.dest) c) (span_has x.span k) y).0)
            (λ c y. absurd (true≢false (sym y))) (λ n. refl) (λ n. refl);
      })
  load_keeps i Again h = unchanged h.1
  load_keeps i (Refused NoSuch) h = unchanged h.1
  load_keeps i (Refused NotOpen) h = unchanged h.1
  load_keeps i (Refused Stranger) h = unchanged h.1
  load_keeps i _ h = absurd h

  finish_keeps : (p s : ℕ) (r : Answer) → FinishStep w p s r v → Origins v
  finish_keeps p s (Finished report) h =
      let more : Queries = done_queries (place_at h.1.0.number s p) in
      heard (record {
        node = Part p;
        more = more;
        told = told_same (after_told w (Part p) more) h.1.5;
        messages = h.1.5.messages;
        parts = parts_same h.1.5.parts;
        rooted = λ grows part. of_part v more p (parts_same h.1.5.parts p h.0) part (λ c k y. absurd (true≢false (sym y))) (λ c y. same_part h.1.0.number s p c y) (λ n. refl) (λ n. refl);
      })
  finish_keeps p s (Refused NoSuch) h = unchanged h.1
  finish_keeps p s (Refused NotOpen) h = unchanged h.2
  finish_keeps p s (Refused (NotAll span)) h = unchanged h.2
  finish_keeps p s (Refused NothingDue) h = unchanged h.2
  finish_keeps p s _ h = absurd h

  said : (node : Node) (q : Queries) → IsPartOf q (w.facts node) → SameWorld v (record w { messages = w.messages ++ q ∷ [] }) → Origins v
  said node q part s = still (told_same (record w { messages = w.messages ++ q ∷ [] }) s) messages (parts_same s.parts)
    where
      messages : (i : ℕ) (r : Queries) → slice_get v.messages i ≡ Some r → (slice_get w.messages i ≡ Some r) ⊎ Rooted w r
      messages i r at = ⊎_elim
          (λ (old : slice_get w.messages i ≡ Some r). inl old)
          (λ (new : (i ≡ length w.messages) × (q ≡ r)). inr (subst (Rooted w) new.1 (rooted_part w q (w.facts node) part (origins.facts node))))
          (at_either w.messages q i r (subst (λ xs. slice_get xs i ≡ Some r) s.messages at))

  send_keeps : (node : Node) (r : Answer) → SendStep w node r v → Origins v
  send_keeps node (Sent index) h = said node (w.facts node) (part_of_itself (w.facts node)) h.2
  send_keeps node (Refused NoSuch) h = unchanged h.1
  send_keeps node _ h = absurd h

  send_part_keeps : (node : Node) (board : BoardValue) (r : Answer) → SendPartStep w node board r v → Origins v
  send_part_keeps node board (Sent index) h = said node (queries_of board) h.1 h.3
  send_part_keeps node board (Refused NoSuch) h = unchanged h.1
  send_part_keeps node board (Refused NotKnown) h = unchanged h.2
  send_part_keeps node board _ h = absurd h

  deliver_keeps : (i : ℕ) (node : Node) (r : Answer) → DeliverStep w i node r v → Origins v
  deliver_keeps i node Delivered h = heard (record {
    node = node;
    more = h.1.0;
    told = told_same (after_told w node h.1.0) h.1.2;
    messages = h.1.2.messages;
    parts = parts_same h.1.2.parts;
    rooted = λ grows part. rooted_later w v h.1.0 (parts_same h.1.2.parts) grows (origins.messages i h.1.0 h.1.1);
  })
  deliver_keeps i node (Refused NoSuch) h = unchanged h.1
  deliver_keeps i node _ h = absurd h

  route_keeps : (x k : ℕ) (r : Answer) → RouteStep w x k r v → Origins v
  route_keeps x k (Routed p) h = unchanged h.2
  route_keeps x k (Refused NoSuch) h = unchanged h.1
  route_keeps x k _ h = absurd h

  serve_keeps : (p k after : ℕ) (r : Answer) → ServeStep w p k after r v → Origins v
  serve_keeps p k after (Served reply) h = unchanged h.2
  serve_keeps p k after (Refused NoSuch) h = unchanged h.1
  serve_keeps p k after _ h = absurd h

  origins_step : (e : Event) (r : Answer) → Step w e r v → Origins v
  origins_step OpenNext r h = open_keeps r h
  origins_step (Begin plan) r h = begin_keeps plan r h
  origins_step (BeginFrom old new) r h = begin_from_keeps old new r h
  origins_step (Close p) r h = close_keeps p r h
  origins_step (Give p most) r h = give_keeps p most r h
  origins_step (GiveAt p k) r h = give_at_keeps p k r h
  origins_step (Load i) r h = load_keeps i r h
  origins_step (Finish p s) r h = finish_keeps p s r h
  origins_step (Send node) r h = send_keeps node r h
  origins_step (SendPart node board) r h = send_part_keeps node board r h
  origins_step (Deliver i node) r h = deliver_keeps i node r h
  origins_step (Route x k) r h = route_keeps x k r h
  origins_step (Serve p k after) r h = serve_keeps p k after r h

-- ---- in each run

origins_start : (old new : List PlanRange) (routers : ℕ) → Origins (start old new routers)
origins_start old new routers = record { facts = facts; messages = λ i q at. absurd (empty i q at) }
  where
    empty : (i : ℕ) (q : Queries) → slice_get [] i ≡ Some q → ⊥
    empty i q h = cc

    facts : (m : Node) → Rooted (start old new routers) ((start old new routers).facts m)
    facts Leader = of_leader (start old new routers) (issued_queries 1 (plan_pair old new)) (part_of_itself (issued_queries 1 (plan_pair old new))) (λ c k. refl) (λ c. refl)
    facts (Part p) = record { loaded = λ c k h. absurd (true≢false (sym h)); done = λ c h. absurd (true≢false (sym h)); opened = λ n. omega arith; issued = λ n. inl refl }
    facts (Router r) = record { loaded = λ c k h. absurd (true≢false (sym h)); done = λ c h. absurd (true≢false (sym h)); opened = λ n. omega arith; issued = λ n. inl refl }

origins_run : (w : WorldValue) (es : List Event) (rs : List Answer) (v : WorldValue) → IsReached w → Origins w → Run w es rs v → Origins v
origins_run w [] [] v reached origins run = subst Origins (sym (same_world v w run)) origins
origins_run w (e ∷ es) (r ∷ rs) v reached origins run =
    let then : IsReached run.0 = reached_step w run.0 e r reached run.1 in
    origins_run run.0 es rs v then (origins_step w run.0 then origins e r run.1) run.2
origins_run w [] (r ∷ rs) v reached origins run = absurd run
origins_run w (e ∷ es) [] v reached origins run = absurd run

pub origins_always : (w : WorldValue) → IsReached w → Origins w
origins_always w reached = origins_run first reached.events reached.answers w at_first (origins_start reached.old reached.new reached.routers) reached.run
  where
    first : WorldValue
    first = start reached.old reached.new reached.routers

    at_first : IsReached first
    at_first = reached_start reached.old reached.new reached.routers first reached.old_plan reached.new_plan (same_as_itself first)
