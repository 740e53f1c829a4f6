-- Why entries are left.
use Rattle.std.proofs.Common.{◌≡◌, ◌⊎◌, ℕ, ◌+◌, ◌<◌, ◌≤◌, false, true, List, [], ◌∷◌, ◌++◌, length, ap, sym, subst, refl, ◌∙◌, ⊎_elim, arith}
use Rattle.std.specs.Prelude.{Option, None, Some, IfSome, IfNone}
use Rattle.std.specs.List.{slice_get}
use Rattle.std.proofs.lemmas.Option.{slice_get_within}
use Rattle.squall_report.specs.Queries.{queries_by_report}
use Rattle.squall_protocol.specs.declared.event.Node.{Node}
use Rattle.squall_protocol.specs.Worlds.{WorldValue, is_node}
use Rattle.squall_protocol.specs.WorldLaws.{same_as_itself}
use Rattle.squall_audit.specs.Logs.{CanCome, after_heard}
use Rattle.squall_judge.specs.declared.log.Entry.{Entry}
use Rattle.squall_judge.specs.declared.log.Log.{Log}
use Rattle.squall_judge.specs.declared.judgment.Cause.{Cause}
use Rattle.squall_judge.specs.declared.judgment.Cause.TheVariants.{Answer as AnswersElse, NoSuch, NotGiven, NotReported, Running}
use Rattle.squall_judge.specs.Entries.{line_of}
use Rattle.squall_judge.specs.Judging.{NeverNext, IsWhy, AreCauses}
use Rattle.squall_judge.specs.Merges.{AreCut, AreStuck}
use Rattle.squall_judge.specs.Seen.{IsAwaited, IsSeen, AreSeen}
use Rattle.squall_protocol.specs.ListLaws.{at_front, at_end, at_one}
use Rattle.squall_judge.proofs.Nodes.{below}
use Rattle.squall_judge.proofs.Logs.{at_there}

pub of_awaited : (w : WorldValue) (m : Node) (n limit : ℕ) (entry : Entry) (cause : Cause) → is_node w m ≡ true → IsAwaited w entry cause → IsSeen w m n limit entry cause
of_awaited w m n limit entry AnswersElse is a = absurd a
of_awaited w m n limit entry NoSuch is a = absurd a
of_awaited w m n limit entry NotGiven is a = a
of_awaited w m n limit entry NotReported is a = (is, a.0, a.1)
of_awaited w m n limit entry Running is a = tt

-- an entry that is there has a cause
pub seen_one : (o : Option Cause) (w : WorldValue) (log : Log) (n limit : ℕ) (entry : Entry) → IfSome o (λ cause. (e : Entry) → slice_get log.entries.items n ≡ Some e → IsSeen w log.node n limit e cause)
    → IfNone o (slice_get log.entries.items n ≡ None) → slice_get log.entries.items n ≡ Some entry → (cause : Cause) × (o ≡ Some cause) × IsSeen w log.node n limit entry cause
seen_one None w log n limit entry some none at = absurd (never (sym none ∙ at))
  where
    never : None ≡ Some entry → ⊥
    never e = cc
seen_one (Some cause) w log n limit entry some none at = (cause, refl, some entry at)

-- the causes of the first logs, so many
pub record AreSeenTo (w : WorldValue) (logs : List Log) (taken limits : List ℕ) (k : ℕ) (causes : List (Option Cause)) : Type 0 where
  pub most : k ≤ length logs
  pub each : length causes ≡ k
  pub some : (i : ℕ) → i < k → (n limit : ℕ) (log : Log) (entry : Entry) → slice_get logs i ≡ Some log → slice_get taken i ≡ Some n → slice_get limits i ≡ Some limit → slice_get log.entries.items n ≡ Some entry
      → (cause : Cause) × (slice_get causes i ≡ Some (Some cause)) × IsSeen w log.node n limit entry cause

module _ (w : WorldValue) (logs : List Log) (taken limits : List ℕ) (k : ℕ) (causes : List (Option Cause)) (s : AreSeenTo w logs taken limits k causes) where
  -- one more
  pub seen_more : (log : Log) (n limit : ℕ) (o : Option Cause) → slice_get logs k ≡ Some log → slice_get taken k ≡ Some n → slice_get limits k ≡ Some limit
      → IfSome o (λ cause. (e : Entry) → slice_get log.entries.items n ≡ Some e → IsSeen w log.node n limit e cause) → IfNone o (slice_get log.entries.items n ≡ None)
      → AreSeenTo w logs taken limits (k + 1) (causes ++ o ∷ [])
  seen_more log n limit o log_at count_at limit_at some none =
      record {
        most = let low = slice_get_within logs k log log_at in omega (arith, low);
        each = length_end causes o ∙ ap (λ j. j + 1) s.each;
        some = below k At (λ i low m l x e a b c d. let h = s.some i low m l x e a b c d in (h.0, at_front causes (o ∷ []) i (Some h.0) h.1, h.2)) last;
      }
    where
      At : ℕ → Type 0
      At i = (m l : ℕ) (x : Log) (e : Entry) → slice_get logs i ≡ Some x → slice_get taken i ≡ Some m → slice_get limits i ≡ Some l → slice_get x.entries.items m ≡ Some e
          → (cause : Cause) × (slice_get (causes ++ o ∷ []) i ≡ Some (Some cause)) × IsSeen w x.node m l e cause

      length_end : (cs : List (Option Cause)) (c : Option Cause) → length (cs ++ c ∷ []) ≡ length cs + 1
      length_end [] c = refl
      length_end (x ∷ cs) c = let h = length_end cs c in omega (arith, h)

      here : slice_get (causes ++ o ∷ []) k ≡ Some o
      here = subst (λ j. slice_get (causes ++ o ∷ []) j ≡ Some o) s.each (at_end causes o)

      Of : Log → ℕ → ℕ → Entry → Type 0
      Of x m l e = slice_get x.entries.items m ≡ Some e → (cause : Cause) × (slice_get (causes ++ o ∷ []) k ≡ Some (Some cause)) × IsSeen w x.node m l e cause

      base : (e : Entry) → Of log n limit e
      base e d = let h = seen_one o w log n limit e some none d in (h.0, here ∙ ap Some h.1, h.2)

      last : At k
      last m l x e a b c d =
          subst (λ y. Of y m l e) (at_one logs k log x log_at a) (subst (λ j. Of log j l e) (at_one taken k n m count_at b) (subst (λ j. Of log n j e) (at_one limits k limit l limit_at c) (base e))) d

  pub all_seen : length logs ≤ k → AreSeen w logs taken limits causes
  all_seen end =
      record {
        each = let most = s.most in let same = s.each in omega (arith, most, same, end);
        some = λ i n limit log entry a b c d. s.some i (let low = slice_get_within logs i log a in omega (arith, low, end)) n limit log entry a b c d;
      }

module _ (s w : WorldValue) (logs : List Log) (taken limits : List ℕ) (cut : AreCut s logs limits) (stuck : AreStuck w logs taken) where
  -- what is seen of an entry is the cause
  why : (i n limit : ℕ) (log : Log) (entry : Entry) (cause : Cause) → slice_get logs i ≡ Some log → slice_get taken i ≡ Some n → slice_get limits i ≡ Some limit → slice_get log.entries.items n ≡ Some entry
      → IsSeen w log.node n limit entry cause → IsWhy s w log n entry cause
  why i n limit log entry AnswersElse log_at count_at limit_at entry_at seen = ⊎_elim
      (λ (all : limit ≡ length log.entries.items). let inside = slice_get_within log.entries.items n entry entry_at in absurd (omega (arith, seen, all, inside)))
      (λ (never : NeverNext s log limit). subst (λ k. NeverNext s log k) (sym seen) never)
      (cut.cut i limit log log_at limit_at)
  why i n limit log entry NoSuch log_at count_at limit_at entry_at seen = seen
  why i n limit log entry NotGiven log_at count_at limit_at entry_at seen = seen
  why i n limit log entry NotReported log_at count_at limit_at entry_at seen = (
    seen.1,
    seen.2,
    λ can. stuck i n log entry log_at count_at entry_at
        (subst (λ e. CanCome w log.node (line_of e)) (sym seen.2)
        (after_heard w log.node (queries_by_report seen.1), (seen.0, can, same_as_itself (after_heard w log.node (queries_by_report seen.1))))),
  )
  why i n limit log entry Running log_at count_at limit_at entry_at seen = stuck i n log entry log_at count_at entry_at

  pub all_causes : (causes : List (Option Cause)) → AreSeen w logs taken limits causes → AreCauses s w logs taken causes
  all_causes causes seen =
      record {
        each = seen.each;
        some = λ i n log entry log_at count_at entry_at.
            let place = slice_get_within logs i log log_at in
            let limit = at_there limits i (let same = cut.most.each in omega (arith, same, place)) in
            let h = seen.some i n limit.0 log entry log_at count_at limit.1 entry_at in
            (h.0, h.1, why i n limit.0 log entry h.0 log_at count_at limit.1 entry_at h.2);
      }
