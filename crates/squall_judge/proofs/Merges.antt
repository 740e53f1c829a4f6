-- Logs, merged as far as their entries come.
use Rattle.std.proofs.Common.{◌≡◌, ◌⊎◌, ℕ, zero, suc, ◌+◌, ◌-◌, ◌<◌, ◌≤◌, List, [], ◌∷◌, ◌++◌, length, map, take, set, replicate, Some, refl, sym, ap, ◌∙◌, subst, inl, inr, ⊎_elim, arith}
use Rattle.std.specs.List.{slice_get}
use Rattle.std.proofs.lemmas.Option.{slice_get_within}
use Rattle.squall_plan.specs.declared.range.PlanRange.{PlanRange}
use Rattle.squall_protocol.specs.declared.event.Node.{Node}
use Rattle.squall_protocol.specs.Worlds.{WorldValue, start}
use Rattle.squall_protocol.specs.Promises.{IsReached}
use Rattle.squall_audit.specs.Apart.{Grows}
use Rattle.squall_audit.specs.Lines.{Line}
use Rattle.squall_audit.specs.Logs.{HasLogs, AreFirst, Comes, CanCome, ComesNext, NoRunHasMore, WhatComesHappens, LogsAnswer}
use Rattle.squall_judge.specs.declared.log.Entry.{Entry}
use Rattle.squall_judge.specs.declared.log.Log.{Log}
use Rattle.squall_judge.specs.declared.merge.Merge.{Merge}
use Rattle.squall_judge.specs.declared.merge.Round.{Round}
use Rattle.squall_judge.specs.declared.merge.Round.TheVariants.{Moved, Stuck, Never}
use Rattle.squall_judge.specs.Entries.{line_of, lines_in, logs_of, taken_of, AreApart}
use Rattle.squall_judge.specs.Turns.{IsOther}
use Rattle.squall_judge.specs.Merges.{world_of, AreLimits, AreAtMost, IsReady, IsNextEntry, IsBlocked, IsSameMerge, HasTakenAt, IsWrongAt, IsRound, GoesOn, IsOver, IsWrong, IsFresh, AreCut, IsEnd, AreStuck, IsEndOf}
use Rattle.squall_judge.specs.Judging.{NeverNext}
use Rattle.squall_judge.proofs.Counts.{total, total_set, total_less}
use Rattle.squall_judge.proofs.Logs.{at_there, at_map, next_at, length_map, length_set, set_here, set_there, same_or_not, taken_here, IsFound, found, are_first, none_taken, one_more}

-- ---- one entry

less : (a b : ℕ) → a ≤ b → (a ≡ b → ⊥) → a < b
less zero zero low other = absurd (other refl)
less zero (suc b) low other = omega arith
less (suc a) zero low other = absurd (omega (arith, low))
less (suc a) (suc b) low other = let more = less a b (omega (arith, low)) (λ e. other (ap suc e)) in omega (arith, more)

pub set_most : (ns ks : List ℕ) (i n k : ℕ) → AreAtMost ns ks → slice_get ks i ≡ Some k → n ≤ k → AreAtMost (set ns i n) ks
set_most ns ks i n k most at low j m l here there = ⊎_elim
    (λ (e : j ≡ i).
    let same = set_here ns i m n (subst (λ x. slice_get (set ns i n) x ≡ Some m) e here) in
    let limit = inside (sym (subst (λ x. slice_get ks x ≡ Some l) e there) ∙ at) in
    omega (arith, same, limit, low))
    (λ (other : j ≡ i → ⊥). most j m l (sym (set_there ns i j n other) ∙ here) there)
    (same_or_not j i)
  where
    inside : Some l ≡ Some k → l ≡ k
    inside e = cc

module _ (logs : List Log) (limits : List ℕ) (g h : Merge) (i : ℕ) (t : HasTakenAt logs limits g i h) where
  pub taken_ready : IsReady logs limits g → IsReady logs limits h
  taken_ready r =
      record {
        chunks = t.chunks;
        each = ap length t.put ∙ length_set g.taken.items i (t.next.count + 1) ∙ r.each;
        within = subst (λ ns. AreAtMost ns limits) (sym t.put) (set_most g.taken.items limits i (t.next.count + 1) t.next.limit r.within t.next.limit_at (let low = t.next.below in omega (arith, low)));
      }

  pub taken_goes : WhatComesHappens → AreApart logs → GoesOn logs (world_of g) g.taken.items (world_of h) h.taken.items
  taken_goes happens apart s reached has =
      subst (λ ns. HasLogs s (taken_of logs ns) (world_of h)) (sym t.put)
      (one_more happens s (world_of g) (world_of h) logs g.taken.items i t.next.count t.log t.entry apart t.next.log_at t.next.count_at t.next.entry_at reached has t.comes)

  -- one entry fewer is left
  pub fewer_left : AreLimits logs limits → IsReady logs limits g → total limits - total h.taken.items < total limits - total g.taken.items
  fewer_left l r =
      let less = total_less g.taken.items limits i t.next.count t.next.limit (r.each ∙ sym l.each) r.within t.next.count_at t.next.limit_at t.next.below in
      let more = total_set g.taken.items i t.next.count (t.next.count + 1) t.next.count_at in
      let put = ap total t.put in
      omega (arith, less, more, put)

-- nothing else is the next entry of the log at a place
pub blocked_one : (logs : List Log) (limits ns : List ℕ) (w : WorldValue) (i : ℕ) (log : Log) (entry : Entry) → IsNextEntry logs limits ns i log entry → (CanCome w log.node (line_of entry) → ⊥) → IsBlocked logs limits ns w i
blocked_one logs limits ns w i log entry n none other line m can =
    none (subst (λ (x : Log). CanCome w x.node (line_of entry)) same_log (subst (λ x. CanCome w other.node (line_of x)) same_entry can))
  where
    inside : {A : Type 0} (a b : A) → Some a ≡ Some b → a ≡ b
    inside a b e = cc

    same_log : other ≡ log
    same_log = inside other log (sym m.log_at ∙ n.log_at)

    same_count : m.count ≡ n.count
    same_count = inside m.count n.count (sym m.count_at ∙ n.count_at)

    same_entry : line ≡ entry
    same_entry = inside line entry (sym (subst (λ k. slice_get log.entries.items k ≡ Some line) same_count (subst (λ (x : Log). slice_get x.entries.items m.count ≡ Some line) same_log m.entry_at)) ∙ n.entry_at)

pub goes_both : (logs : List Log) (w u v : WorldValue) (ns ms ks : List ℕ) → GoesOn logs w ns u ms → GoesOn logs u ms v ks → GoesOn logs w ns v ks
goes_both logs w u v ns ms ks first more s reached has = more s reached (first s reached has)

pub goes_same : (logs : List Log) (w : WorldValue) (ns : List ℕ) → GoesOn logs w ns w ns
goes_same logs w ns s reached has = has

-- ---- a round

pub still_next : (logs : List Log) (limits ns ms : List ℕ) (i : ℕ) (log : Log) (entry : Entry) → ms ≡ ns → IsNextEntry logs limits ms i log entry → IsNextEntry logs limits ns i log entry
still_next logs limits ns ms i log entry same next = subst (λ ks. IsNextEntry logs limits ks i log entry) same next

pub same_ready : (logs : List Log) (limits : List ℕ) (g h : Merge) → IsReady logs limits g → IsSameMerge g h → IsReady logs limits h
same_ready logs limits g h r s = record { chunks = s.chunks; each = ap length s.taken ∙ r.each; within = subst (λ ns. AreAtMost ns limits) (sym s.taken) r.within }

pub same_both : (g h k : Merge) → IsSameMerge g h → IsSameMerge h k → IsSameMerge g k
same_both g h k a b = record { world = b.world ∙ a.world; chunks = b.chunks; taken = b.taken ∙ a.taken }

pub same_blocked : (logs : List Log) (limits : List ℕ) (g h : Merge) (i : ℕ) → IsSameMerge g h → IsBlocked logs limits h.taken.items (world_of h) i → IsBlocked logs limits g.taken.items (world_of g) i
same_blocked logs limits g h i s b =
    subst (λ ns. IsBlocked logs limits ns (world_of g) i) s.taken (subst (λ w. IsBlocked logs limits h.taken.items w i) s.world b)

pub blocked_same : (logs : List Log) (limits : List ℕ) (g h : Merge) (i : ℕ) → IsSameMerge g h → IsBlocked logs limits g.taken.items (world_of g) i → IsBlocked logs limits h.taken.items (world_of h) i
blocked_same logs limits g h i s b =
    subst (λ ns. IsBlocked logs limits ns (world_of h) i) (sym s.taken) (subst (λ w. IsBlocked logs limits g.taken.items w i) (sym s.world) b)

pub same_taken : (logs : List Log) (limits : List ℕ) (g h k : Merge) (i : ℕ) → IsSameMerge g h → HasTakenAt logs limits h i k → HasTakenAt logs limits g i k
same_taken logs limits g h k i s t =
    let next : IsNextEntry logs limits g.taken.items i t.log t.entry = still_next logs limits g.taken.items h.taken.items i t.log t.entry s.taken t.next in
    record {
      log = t.log;
      entry = t.entry;
      next = record { count = t.next.count; limit = t.next.limit; log_at = t.next.log_at; count_at = subst (λ ns. slice_get ns i ≡ Some t.next.count) s.taken t.next.count_at; limit_at = t.next.limit_at; below = t.next.below; entry_at = t.next.entry_at };
      comes = subst (λ w. Comes w t.log.node (line_of t.entry) (world_of k)) s.world t.comes;
      chunks = t.chunks;
      put = t.put ∙ ap (λ ns. set ns i (t.next.count + 1)) s.taken;
    }

pub same_wrong : (logs : List Log) (limits : List ℕ) (g h k : Merge) (i : ℕ) → IsSameMerge g h → IsWrongAt logs limits h i k → IsWrongAt logs limits g i k
same_wrong logs limits g h k i s t =
    record {
      log = t.log;
      entry = t.entry;
      next = still_next logs limits g.taken.items h.taken.items i t.log t.entry s.taken t.next;
      other = subst (λ w. IsOther w t.log.node (line_of t.entry)) s.world t.other;
      taken = t.taken ∙ s.taken;
    }

pub same_round : (logs : List Log) (limits : List ℕ) (g h k : Merge) (r : Round) → IsSameMerge g h → IsRound logs limits h r k → IsRound logs limits g r k
same_round logs limits g h k (Moved i) s t = same_taken logs limits g h k i s t
same_round logs limits g h k Stuck s t = (same_both g h k s t.0, λ i low. same_blocked logs limits g h i s (t.1 i low))
same_round logs limits g h k (Never i) s t = same_wrong logs limits g h k i s t

-- ---- the end of a run

pub over : (logs : List Log) (limits : List ℕ) (f g h : Merge) → GoesOn logs (world_of f) f.taken.items (world_of g) g.taken.items → IsReady logs limits g → IsSameMerge g h
    → ((i : ℕ) → i < length logs → IsBlocked logs limits g.taken.items (world_of g) i) → IsOver logs limits f h
over logs limits f g h goes ready same blocked =
    record {
      goes = λ s reached has. subst (λ ns. HasLogs s (taken_of logs ns) (world_of h)) (sym same.taken) (subst (λ w. HasLogs s (taken_of logs g.taken.items) w) (sym same.world) (goes s reached has));
      ready = same_ready logs limits g h ready same;
      blocked = λ i low. blocked_same logs limits g h i same (blocked i low);
    }

pub wrong : (logs : List Log) (limits : List ℕ) (f g h : Merge) (i : ℕ) → GoesOn logs (world_of f) f.taken.items (world_of g) g.taken.items → IsWrongAt logs limits g i h → IsWrong logs limits f i h
wrong logs limits f g h i goes t =
    record {
      world = world_of g;
      log = t.log;
      entry = t.entry;
      goes = subst (λ ns. GoesOn logs (world_of f) f.taken.items (world_of g) ns) (sym t.taken) goes;
      next = still_next logs limits h.taken.items g.taken.items i t.log t.entry (sym t.taken) t.next;
      other = t.other;
    }

-- ---- anew, up to what no run has

module _ (old new : List PlanRange) (routers : ℕ) (logs : List Log) where
  pub fresh_ready : (limits : List ℕ) (g : Merge) → IsFresh old new routers logs g → IsReady logs limits g
  fresh_ready limits g f =
      record {
        chunks = f.chunks;
        each = length_is;
        within = λ i n k at there. let same = zero_at (length logs) i n (subst (λ ns. slice_get ns i ≡ Some n) f.none at) in omega (arith, same);
      }
    where
      length_replicate : (n : ℕ) → length {A = ℕ} (replicate n 0) ≡ n
      length_replicate zero = refl
      length_replicate (suc n) = ap suc (length_replicate n)

      length_is : length g.taken.items ≡ length logs
      length_is = subst (λ (ns : List ℕ). length ns ≡ length logs) (sym f.none) (length_replicate (length logs))

      zero_at : (k i n : ℕ) → slice_get (replicate k 0) i ≡ Some n → n ≡ 0
      zero_at zero i n at = absurd (cc)
      zero_at (suc k) zero n at = cc
      zero_at (suc k) (suc i) n at = zero_at k i n at

  fresh_logs : (g : Merge) → IsFresh old new routers logs g → HasLogs (world_of g) (taken_of logs g.taken.items) (world_of g)
  fresh_logs g f = record { run = []; trace = refl; written = λ m. sym (ap (λ ns. taken_of logs ns m) f.none ∙ none_taken logs (length logs) m) }

  reached_start : (g : Merge) → IsFresh old new routers logs g → IsReached (start old new routers)
  reached_start g f = subst IsReached f.world f.reached

  goes_from : (g : Merge) (v : WorldValue) (ns : List ℕ) → IsFresh old new routers logs g → GoesOn logs (world_of g) g.taken.items v ns → HasLogs (start old new routers) (taken_of logs ns) v
  goes_from g v ns f goes = subst (λ w. HasLogs w (taken_of logs ns) v) f.world (goes (world_of g) f.reached (fresh_logs g f))

  -- a node that answers otherwise once never answers as its log says
  never : LogsAnswer → (limits : List ℕ) (f g : Merge) (i : ℕ) → AreApart logs → IsFresh old new routers logs f → (w : IsWrong logs limits f i g) → NeverNext (start old new routers) w.log w.next.count
  never answers limits f g i apart fresh w u lines entry has same at can =
      let one = w.other.other in
      one (answers (start old new routers) w.world u (taken_of logs g.taken.items) lines w.log.node w.other.line (line_of w.entry) (reached_start f fresh) (goes_from f w.world g.taken.items fresh w.goes) has
      (taken_here logs g.taken.items i w.next.count w.log apart w.next.log_at w.next.count_at ∙ sym same) w.other.one w.other.comes
      (subst (λ x. CanCome u w.log.node (line_of x)) (inside (sym at ∙ w.next.entry_at)) can))
    where
      inside : Some entry ≡ Some w.entry → entry ≡ w.entry
      inside e = cc

  pub cut_more : LogsAnswer → (limits : List ℕ) (f g : Merge) (i n : ℕ) → AreApart logs → IsFresh old new routers logs f → IsWrong logs limits f i g → slice_get g.taken.items i ≡ Some n → AreCut (start old new routers) logs limits
      → AreCut (start old new routers) logs (set limits i n)
  cut_more answers limits f g i n apart fresh w at c =
      record {
        most = record { each = length_set limits i n ∙ c.most.each; within = within };
        cut = cut;
      }
    where
      count : n ≡ w.next.count
      count = inside (sym at ∙ w.next.count_at)
        where
          inside : Some n ≡ Some w.next.count → n ≡ w.next.count
          inside e = cc

      of_log : (log : Log) (P : Log → Type 0) → slice_get logs i ≡ Some log → P w.log → P log
      of_log log P here p = subst P (inside (sym w.next.log_at ∙ here)) p
        where
          inside : Some w.log ≡ Some log → w.log ≡ log
          inside e = cc

      low : n ≤ length w.log.entries.items
      low = let a = slice_get_within w.log.entries.items w.next.count w.entry w.next.entry_at in omega (arith, a, count)

      within : (j m : ℕ) (log : Log) → slice_get logs j ≡ Some log → slice_get (set limits i n) j ≡ Some m → m ≤ length log.entries.items
      within j m log here there = ⊎_elim
          (λ (e : j ≡ i).
          let same = set_here limits i m n (subst (λ x. slice_get (set limits i n) x ≡ Some m) e there) in
          subst (λ k. k ≤ length log.entries.items) (sym same) (of_log log (λ (x : Log). n ≤ length x.entries.items) (subst (λ x. slice_get logs x ≡ Some log) e here) low))
          (λ (other : j ≡ i → ⊥). c.most.within j m log here (sym (set_there limits i j n other) ∙ there))
          (same_or_not j i)

      cut : (j m : ℕ) (log : Log) → slice_get logs j ≡ Some log → slice_get (set limits i n) j ≡ Some m → (m ≡ length log.entries.items) ⊎ NeverNext (start old new routers) log m
      cut j m log here there = ⊎_elim
          (λ (e : j ≡ i).
          let same = set_here limits i m n (subst (λ x. slice_get (set limits i n) x ≡ Some m) e there) in
          inr (subst (λ k. NeverNext (start old new routers) log k) (sym (same ∙ count)) (of_log log (λ x. NeverNext (start old new routers) x w.next.count) (subst (λ x. slice_get logs x ≡ Some log) e here) (never answers limits f g i apart fresh w))))
          (λ (other : j ≡ i → ⊥). c.cut j m log here (sym (set_there limits i j n other) ∙ there))
          (same_or_not j i)

  -- a limit falls
  pub lower : (limits : List ℕ) (f g : Merge) (i n : ℕ) → IsWrong logs limits f i g → slice_get g.taken.items i ≡ Some n → total (set limits i n) < total limits
  lower limits f g i n w at =
      let count = inside (sym at ∙ w.next.count_at) in
      let less = w.next.below in
      let put = total_set limits i w.next.limit n w.next.limit_at in
      omega (arith, count, less, put)
    where
      inside : Some n ≡ Some w.next.count → n ≡ w.next.count
      inside e = cc

  pub cut_first : (limits : List ℕ) → limits ≡ map (λ (log : Log). length log.entries.items) logs → AreCut (start old new routers) logs limits
  cut_first limits is =
      record {
        most = record { each = ap length is ∙ length_map (λ (log : Log). length log.entries.items) logs; within = λ i n log here there. let same = all i n log here there in omega (arith, same) };
        cut = λ i n log here there. inl (all i n log here there);
      }
    where
      all : (i n : ℕ) (log : Log) → slice_get logs i ≡ Some log → slice_get limits i ≡ Some n → n ≡ length log.entries.items
      all i n log here there =
          let x = at_map (λ (l : Log). length l.entries.items) logs i n (subst (λ ns. slice_get ns i ≡ Some n) is there) in
          sym x.2 ∙ ap (λ (l : Log). length l.entries.items) (inside (sym x.1 ∙ here))
        where
          inside : {a b : Log} → Some a ≡ Some b → a ≡ b
          inside e = cc

  -- ---- all is taken that any run has

  module _ (limits : List ℕ) (g : Merge) (cut : AreCut (start old new routers) logs limits) (ready : IsReady logs limits g)
      (blocked : (i : ℕ) → i < length logs → IsBlocked logs limits g.taken.items (world_of g) i) (has : HasLogs (start old new routers) (taken_of logs g.taken.items) (world_of g)) where
    stuck : (m : Node) (l : Line) → Grows (taken_of logs g.taken.items m ++ l ∷ []) (logs_of logs m) → CanCome (world_of g) m l → ⊥
    stuck m l next can = ⊎_elim (λ (f : IsFound logs g.taken.items m). at_log f) (λ (n : (logs_of logs m ≡ []) × (taken_of logs g.taken.items m ≡ [])). no_log (taken_of logs g.taken.items m) next.0 (sym n.0 ∙ next.1)) (found logs g.taken.items m ready.each)
      where
        no_log : (xs more : List Line) → [] ≡ (xs ++ l ∷ []) ++ more → ⊥
        no_log [] more e = cc
        no_log (x ∷ xs) more e = cc

        at_log : IsFound logs g.taken.items m → ⊥
        at_log f =
            let line_at = next_at (lines_in f.log) f.count l next.0 (sym f.lines ∙ next.1 ∙ ap (λ xs. (xs ++ l ∷ []) ++ next.0) f.taken) in
            let entry = at_map line_of f.log.entries.items f.count l line_at in
            let place = slice_get_within logs f.place f.log f.log_at in
            let limit = at_there limits f.place (let same = cut.most.each in omega (arith, same, place)) in
            let low = ready.within f.place f.count limit.0 f.count_at limit.1 in
            let could : CanCome (world_of g) f.log.node (line_of entry.0) = subst (λ n. CanCome (world_of g) n (line_of entry.0)) (sym f.node) (subst (λ x. CanCome (world_of g) m x) (sym entry.2) can) in
            ⊎_elim
            (λ (same : f.count ≡ limit.0). ⊎_elim
            (λ (all : limit.0 ≡ length f.log.entries.items). let inside = slice_get_within f.log.entries.items f.count entry.0 entry.1 in omega (arith, same, all, inside))
            (λ (never : NeverNext (start old new routers) f.log limit.0).
            never (world_of g) (taken_of logs g.taken.items) entry.0 has (ap (λ n. taken_of logs g.taken.items n) f.node ∙ f.taken ∙ ap (λ n. take n (lines_in f.log)) same) (subst (λ n. slice_get f.log.entries.items n ≡ Some entry.0) same entry.1) could)
            (cut.cut f.place limit.0 f.log f.log_at limit.1))
            (λ (other : f.count ≡ limit.0 → ⊥).
            blocked f.place place f.log entry.0 (record { count = f.count; limit = limit.0; log_at = f.log_at; count_at = f.count_at; limit_at = limit.1; below = less f.count limit.0 low other; entry_at = entry.1 }) could)
            (same_or_not f.count limit.0)

    stuck_here : AreApart logs → AreStuck (world_of g) logs g.taken.items
    stuck_here apart i n log entry log_at count_at entry_at can =
        let place = slice_get_within logs i log log_at in
        let limit = at_there limits i (let same = cut.most.each in omega (arith, same, place)) in
        let low = ready.within i n limit.0 count_at limit.1 in
        ⊎_elim
        (λ (same : n ≡ limit.0). ⊎_elim
        (λ (all : limit.0 ≡ length log.entries.items). let inside = slice_get_within log.entries.items n entry entry_at in omega (arith, same, all, inside))
        (λ (never : NeverNext (start old new routers) log limit.0).
        never (world_of g) (taken_of logs g.taken.items) entry has (taken_here logs g.taken.items i n log apart log_at count_at ∙ ap (λ k. take k (lines_in log)) same) (subst (λ k. slice_get log.entries.items k ≡ Some entry) same entry_at) can)
        (cut.cut i limit.0 log log_at limit.1))
        (λ (other : n ≡ limit.0 → ⊥).
        blocked i place log entry (record { count = n; limit = limit.0; log_at = log_at; count_at = count_at; limit_at = limit.1; below = less n limit.0 low other; entry_at = entry_at }) can)
        (same_or_not n limit.0)

    none_next : ComesNext (world_of g) (logs_of logs) (taken_of logs g.taken.items) → ⊥
    none_next n = stuck n.node n.line n.next_line n.comes

  pub ended : (limits : List ℕ) (f g : Merge) → IsFresh old new routers logs f → IsOver logs limits f g → AreCut (start old new routers) logs limits
      → ((s u : WorldValue) (all taken : Node → List Line) → IsReached s → HasLogs s taken u → AreFirst taken all → (ComesNext u all taken → ⊥) → NoRunHasMore s all taken)
      → ((s u : WorldValue) (all : Node → List Line) → IsReached s → HasLogs s all u → IsReached u)
      → IsEnd (start old new routers) (world_of g) logs g.taken.items
  ended limits f g fresh over cut no_more reach =
      let has : HasLogs (start old new routers) (taken_of logs g.taken.items) (world_of g) = goes_from f (world_of g) g.taken.items fresh over.goes in
      let begun = reached_start f fresh in
      record {
        has = has;
        reached = reach (start old new routers) (world_of g) (taken_of logs g.taken.items) begun has;
        each = over.ready.each;
        within = λ i n log here there.
            let place = slice_get_within logs i log here in
            let limit = at_there limits i (let same = cut.most.each in omega (arith, same, place)) in
            let low = over.ready.within i n limit.0 there limit.1 in
            let most = cut.most.within i limit.0 log here limit.1 in
            omega (arith, low, most);
        none = no_more (start old new routers) (world_of g) (logs_of logs) (taken_of logs g.taken.items) begun has (are_first logs g.taken.items over.ready.each)
            (none_next limits g cut over.ready over.blocked has);
      }

  pub ended_of : (limits : List ℕ) (f g : Merge) → AreApart logs → IsFresh old new routers logs f → IsOver logs limits f g → AreCut (start old new routers) logs limits
      → ((s u : WorldValue) (all taken : Node → List Line) → IsReached s → HasLogs s taken u → AreFirst taken all → (ComesNext u all taken → ⊥) → NoRunHasMore s all taken)
      → ((s u : WorldValue) (all : Node → List Line) → IsReached s → HasLogs s all u → IsReached u)
      → IsEndOf (start old new routers) logs limits g
  ended_of limits f g apart fresh over cut no_more reach =
      record {
        end = ended limits f g fresh over cut no_more reach;
        chunks = over.ready.chunks;
        cut = cut;
        stuck = stuck_here limits g cut over.ready over.blocked (goes_from f (world_of g) g.taken.items fresh over.goes) apart;
      }
