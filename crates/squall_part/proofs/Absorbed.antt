-- A partition that absorbs a delta has logs for all courses that it knows then.
use Rattle.std.proofs.Common.{◌≡◌, ◌≢◌, ℕ, ◌<◌, ◌==◌, not, Bool, true, false, cond, List, [], ◌∷◌, ◌++◌, Option, None, Some, option_map, refl, sym, ap, subst, ◌∙◌, arith, inl, inr}
use Rattle.std.specs.List.{AllByRecursion}
use Rattle.std.specs.Option.{option_or}
use Rattle.std.proofs.lemmas.Bool.{and_parts, and_from, cases_eq}
use Rattle.std.proofs.lemmas.List.Folds.{find-append}
use Rattle.squall_join.specs.declared.flat.Flat.{Flat}
use Rattle.squall_join.specs.declared.flat.Flat.TheVariants.{Unknown, One, Clash}
use Rattle.squall_course.specs.Change.{Change}
use Rattle.squall_report.specs.Issues.{PlanPair, is_same_pair}
use Rattle.squall_report.specs.Told.{TellsBoth, both_issued}
use Rattle.squall_board.specs.Boards.{BoardValue, IsBoard, issued, told, one_issue}
use Rattle.squall_board.specs.Listed.{AreIssues, IssuesRise, entries_issue, issues_of}
use Rattle.squall_part.specs.Parts.{PartValue, Log, log_of, IsPart, IsLog, IsHeard, IsBelow, AreRising, known_course, given_in, loaded_in, closed_in, given_by, loaded_by, closed_by}
use Rattle.squall_protocol.specs.Known.{course_under}
use Rattle.squall_part.specs.Fresh.{is_unknown, is_new, empty_log, fresh_log, fresh_logs, put_logs}
use Rattle.squall_part.proofs.Logs.{IsNotIn, eq_refl, eq_differ}
use Rattle.squall_part.proofs.Put.{all_puts, puts_rising, find_puts}

-- ---- what is issued

unknown_parts : (x y : Flat PlanPair) → both_issued x y ≡ Unknown → (x ≡ Unknown) × (y ≡ Unknown)
unknown_parts Unknown y e = (refl, e)
unknown_parts (One a) Unknown e = absurd (let bad : ⊥ = cc in bad)
unknown_parts (One a) (One b) e = by (is_same_pair a b) e
  where
    by : (t : Bool) → cond t (One a) Clash ≡ Unknown → (One a ≡ Unknown) × (One b ≡ Unknown)
    by true e = absurd (let bad : ⊥ = cc in bad)
    by false e = absurd (let bad : ⊥ = cc in bad)
unknown_parts (One a) Clash e = absurd (let bad : ⊥ = cc in bad)
unknown_parts Clash y e = absurd (let bad : ⊥ = cc in bad)

nothing_more : (x : Flat PlanPair) → both_issued x Unknown ≡ x
nothing_more Unknown = refl
nothing_more (One pair) = refl
nothing_more Clash = refl

-- what one board had alone stays, or clashes
under_first : (n : ℕ) (c : Change) (a : PlanPair) (y : Flat PlanPair) → course_under n (both_issued (One a) y) ≡ Some c → course_under n (One a) ≡ Some c
under_first n c a Unknown e = e
under_first n c a (One b) e = by (is_same_pair a b) e
  where
    by : (t : Bool) → course_under n (cond t (One a) Clash) ≡ Some c → course_under n (One a) ≡ Some c
    by true e = e
    by false e = absurd (let bad : ⊥ = cc in bad)
under_first n c a Clash e = absurd (let bad : ⊥ = cc in bad)

one_at : (m : ℕ) (x : Flat PlanPair) → one_issue m x m ≡ x
one_at m x = ap (λ t. cond t x Unknown) (eq_refl m)

one_off : (m n : ℕ) (x : Flat PlanPair) → m ≢ n → one_issue m x n ≡ Unknown
one_off m n x e = ap (λ t. cond t x Unknown) (eq_differ m n e)

none_later : (n : ℕ) (es : List (ℕ × Flat PlanPair)) → AllByRecursion (λ d. n < d.0) es → entries_issue es n ≡ Unknown
none_later n [] r = refl
none_later n (e ∷ es) r = ap (λ x. both_issued x (entries_issue es n)) (one_off e.0 n e.1 (λ s. omega (arith, s, r.0))) ∙ none_later n es r.1

-- ---- the fresh logs

-- nothing was given or loaded, and the log is open
abbrev IsUntouched : Log → Type 0
IsUntouched l = (l.given ≡ []) × (l.loaded ≡ []) × (l.closed ≡ false)

-- a look-up finds what one in no log does
abbrev FindsNothing : Option Log → Type 0
FindsNothing o = (given_in o ≡ []) × (loaded_in o ≡ []) × (closed_in o ≡ false)

module _ (first : Change) (b : BoardValue) where
  -- a property of the log that an entry brings
  each_fresh : (P : Log → Type 0) (e : ℕ × Flat PlanPair) → ((pair : PlanPair) → e.1 ≡ One pair → is_new first b e.0 ≡ true → P (empty_log e.0 pair)) → AllByRecursion P (fresh_log first b e)
  each_fresh P (n, Unknown) h = tt
  each_fresh P (n, One pair) h = by (is_new first b n) (λ t. h pair refl t)
    where
      by : (t : Bool) → (t ≡ true → P (empty_log n pair)) → AllByRecursion P (cond t (empty_log n pair ∷ []) [])
      by true k = (k refl, tt)
      by false k = tt
  each_fresh P (n, Clash) h = tt

  all_append : (P : Log → Type 0) (xs ys : List Log) → AllByRecursion P xs → AllByRecursion P ys → AllByRecursion P (xs ++ ys)
  all_append P [] ys a c = c
  all_append P (x ∷ xs) ys a c = (a.0, all_append P xs ys a.1 c)

  all_to : (P Q : Log → Type 0) (xs : List Log) → ((l : Log) → P l → Q l) → AllByRecursion P xs → AllByRecursion Q xs
  all_to P Q [] f a = tt
  all_to P Q (x ∷ xs) f a = (f x a.0, all_to P Q xs f a.1)

  fresh_new : (es : List (ℕ × Flat PlanPair)) → AllByRecursion (λ l. is_new first b l.course.number ≡ true) (fresh_logs first b es)
  fresh_new [] = tt
  fresh_new (e ∷ es) = all_append (λ l. is_new first b l.course.number ≡ true) (fresh_log first b e) (fresh_logs first b es) (each_fresh (λ l. is_new first b l.course.number ≡ true) e (λ pair s t. t)) (fresh_new es)

  fresh_issued : (es : List (ℕ × Flat PlanPair)) → AllByRecursion (λ l. entries_issue es l.course.number ≢ Unknown) (fresh_logs first b es)
  fresh_issued [] = tt
  fresh_issued (e ∷ es) = all_append (λ l. entries_issue (e ∷ es) l.course.number ≢ Unknown) (fresh_log first b e) (fresh_logs first b es)
      (each_fresh (λ l. entries_issue (e ∷ es) l.course.number ≢ Unknown) e (λ pair s t u.
      let x = (unknown_parts (one_issue e.0 e.1 e.0) (entries_issue es e.0) u).0 in
      let bad : One pair ≡ Unknown = sym s ∙ sym (one_at e.0 e.1) ∙ x in
      let no : ⊥ = cc in no))
      (all_to (λ l. entries_issue es l.course.number ≢ Unknown) (λ l. entries_issue (e ∷ es) l.course.number ≢ Unknown) (fresh_logs first b es) (λ l some u. some (unknown_parts (one_issue e.0 e.1 l.course.number) (entries_issue es l.course.number) u).1) (fresh_issued es))

  fresh_empty : (es : List (ℕ × Flat PlanPair)) → AllByRecursion IsUntouched (fresh_logs first b es)
  fresh_empty [] = tt
  fresh_empty (e ∷ es) = all_append IsUntouched (fresh_log first b e) (fresh_logs first b es) (each_fresh IsUntouched e (λ pair s t. (refl, refl, refl))) (fresh_empty es)

  -- later numbers alone
  fresh_later : (n : ℕ) (es : List (ℕ × Flat PlanPair)) → AllByRecursion (λ d. n < d.0) es → IsBelow n (fresh_logs first b es)
  fresh_later n [] r = tt
  fresh_later n (e ∷ es) r = all_append (λ l. n < l.course.number) (fresh_log first b e) (fresh_logs first b es) (each_fresh (λ l. n < l.course.number) e (λ pair s t. r.0)) (fresh_later n es r.1)

  one_rising : (e : ℕ × Flat PlanPair) (ls : List Log) → IsBelow e.0 ls → AreRising ls → AreRising (fresh_log first b e ++ ls)
  one_rising (n, Unknown) ls a h = h
  one_rising (n, One pair) ls a h = by (is_new first b n)
    where
      by : (t : Bool) → AreRising (cond t (empty_log n pair ∷ []) [] ++ ls)
      by true = (a, h)
      by false = h
  one_rising (n, Clash) ls a h = h

  fresh_rising : (es : List (ℕ × Flat PlanPair)) → IssuesRise es → AreRising (fresh_logs first b es)
  fresh_rising [] r = tt
  fresh_rising (e ∷ es) r = one_rising e (fresh_logs first b es) (fresh_later e.0 es r.0) (fresh_rising es r.1)

  -- a log that an entry of another number brings is passed over
  passed : (n : ℕ) (e : ℕ × Flat PlanPair) (ls : List Log) → e.0 ≢ n → log_of (fresh_log first b e ++ ls) n ≡ log_of ls n
  passed n (m, Unknown) ls other = refl
  passed n (m, One pair) ls other = by (is_new first b m)
    where
      by : (t : Bool) → log_of (cond t (empty_log m pair ∷ []) [] ++ ls) n ≡ log_of ls n
      by true = ap (λ t. cond t (Some (empty_log m pair)) (log_of ls n)) (eq_differ m n other)
      by false = refl
  passed n (m, Clash) ls other = refl

  taken : (n : ℕ) (x : Flat PlanPair) (pair : PlanPair) (ls : List Log) → x ≡ One pair → is_new first b n ≡ true → log_of (fresh_log first b (n, x) ++ ls) n ≡ Some (empty_log n pair)
  taken n Unknown pair ls e new = absurd (let bad : ⊥ = cc in bad)
  taken n (One a) pair ls e new =
      ap (λ t. log_of (cond t (empty_log n a ∷ []) [] ++ ls) n) new ∙ ap (λ t. cond t (Some (empty_log n a)) (log_of ls n)) (eq_refl n) ∙ ap (λ q. Some (empty_log n q)) same
    where
      same : a ≡ pair
      same = cc
  taken n Clash pair ls e new = absurd (let bad : ⊥ = cc in bad)

  -- a number that is new, and has one pair of plans, gets its log
  fresh_at : (n : ℕ) (pair : PlanPair) (es : List (ℕ × Flat PlanPair)) → IssuesRise es → entries_issue es n ≡ One pair → is_new first b n ≡ true → log_of (fresh_logs first b es) n ≡ Some (empty_log n pair)
  fresh_at n pair [] r e new = absurd (let bad : ⊥ = cc in bad)
  fresh_at n pair ((m, x) ∷ es) r e new = elim (cases_eq m n) [
    | inl same ↦
        let here : x ≡ One pair = sym (nothing_more x) ∙ (λ i. both_issued (sym (one_at m x) i) (sym (none_later m es r.0) i)) ∙ ap (entries_issue ((m, x) ∷ es)) same ∙ e in
        subst (λ k. log_of (fresh_log first b (m, x) ++ fresh_logs first b es) k ≡ Some (empty_log k pair)) same (taken m x pair (fresh_logs first b es) here (ap (is_new first b) same ∙ new))
    | inr other ↦
        passed n (m, x) (fresh_logs first b es) other ∙ fresh_at n pair es r.1 (sym (ap (λ y. both_issued y (entries_issue es n)) (one_off m n x other)) ∙ e) new
  ]

-- ---- beside the logs that are there

not_both : (b : Bool) → b ≡ true → not b ≡ true → ⊥
not_both true e f = let bad : ⊥ = cc in bad
not_both false e f = let bad : ⊥ = cc in bad

-- a number that was heard of is not new
heard_old : (first : Change) (b : BoardValue) (n : ℕ) → IsHeard first b n → is_new first b n ≡ true → ⊥
heard_old first b n h new =
    let a = and_parts (not (n == first.number)) (is_unknown (issued b n)) new in
    elim h [
      | inl same ↦ not_both (n == first.number) (subst (λ m. (n == m) ≡ true) same (eq_refl n)) a.0
      | inr some ↦ some (unknown (issued b n) a.1)
    ]
  where
    unknown : (x : Flat PlanPair) → is_unknown x ≡ true → x ≡ Unknown
    unknown Unknown e = refl
    unknown (One pair) e = absurd (let bad : ⊥ = cc in bad)
    unknown Clash e = absurd (let bad : ⊥ = cc in bad)

new_not_in : (first : Change) (b : BoardValue) (n : ℕ) (logs : List Log) → AllByRecursion (λ l. IsHeard first b l.course.number) logs → is_new first b n ≡ true → IsNotIn n logs
new_not_in first b n [] h new = tt
new_not_in first b n (l ∷ ls) h new = ((λ e. heard_old first b l.course.number h.0 (ap (is_new first b) e ∙ new)), new_not_in first b n ls h.1 new)

-- so no fresh log is of the number of one that is there
fresh_apart : (first : Change) (b : BoardValue) (logs : List Log) (es : List (ℕ × Flat PlanPair)) → AllByRecursion (λ l. IsHeard first b l.course.number) logs → AllByRecursion (λ l. IsNotIn l.course.number logs) (fresh_logs first b es)
fresh_apart first b logs es h = all_to first b (λ l. is_new first b l.course.number ≡ true) (λ l. IsNotIn l.course.number logs) (fresh_logs first b es) (λ l new. new_not_in first b l.course.number logs h new) (fresh_new first b es)

-- no log has a new number
none_there : (first : Change) (b : BoardValue) (n : ℕ) (logs : List Log) → AllByRecursion (λ l. IsHeard first b l.course.number) logs → is_new first b n ≡ true → log_of logs n ≡ None
none_there first b n [] h new = refl
none_there first b n (l ∷ ls) h new =
    ap (λ t. cond t (Some l) (log_of ls n)) (eq_differ l.course.number n (λ e. heard_old first b l.course.number h.0 (ap (is_new first b) e ∙ new))) ∙ none_there first b n ls h.1 new

empty_in : (ls : List Log) (n : ℕ) → AllByRecursion IsUntouched ls → FindsNothing (log_of ls n)
empty_in [] n a = (refl, refl, refl)
empty_in (l ∷ ls) n a = by (l.course.number == n) (empty_in ls n a.1)
  where
    by : (t : Bool) → FindsNothing (log_of ls n) → FindsNothing (cond t (Some l) (log_of ls n))
    by true rest = a.0
    by false rest = rest

-- ---- the partition after

-- what is looked up in the logs stays where the new ones tell what none tells
still : {A : Type 0} (look : Option Log → A) (p : PartValue) (ls : List Log) (n : ℕ) → look (log_of ls n) ≡ look None → look (log_of (p.logs ++ ls) n) ≡ look (log_of p.logs n)
still look p ls n none = ap look (find-append (λ l. l.course.number == n) p.logs ls) ∙ by (log_of p.logs n)
  where
    by : (o : Option Log) → look (option_or o (log_of ls n)) ≡ look o
    by None = none
    by (Some l) = refl

fresh_is_empty : (p : PartValue) (es : List (ℕ × Flat PlanPair)) (ls : List Log) (n : ℕ) → ls ≡ fresh_logs p.first p.board es → FindsNothing (log_of ls n)
fresh_is_empty p es ls n e = subst (λ x. FindsNothing (log_of x n)) (sym e) (empty_in (fresh_logs p.first p.board es) n (fresh_empty p.first p.board es))

module _ (p : PartValue) (es : List (ℕ × Flat PlanPair)) (ls : List Log) (n : ℕ) (is : IsPart p) (rise : IssuesRise es) (e : ls ≡ fresh_logs p.first p.board es) where
  found_put : log_of (put_logs ls p.logs) n ≡ log_of (p.logs ++ ls) n
  found_put = find_puts n ls p.logs (subst (AllByRecursion (λ l. IsNotIn l.course.number p.logs)) (sym e) (fresh_apart p.first p.board p.logs es is.heard)) (subst AreRising (sym e) (fresh_rising p.first p.board es rise))

  pub given_still : given_in (log_of (put_logs ls p.logs) n) ≡ given_by p n
  given_still = ap given_in found_put ∙ still given_in p ls n (fresh_is_empty p es ls n e).0

  pub loaded_still : loaded_in (log_of (put_logs ls p.logs) n) ≡ loaded_by p n
  loaded_still = ap loaded_in found_put ∙ still loaded_in p ls n (fresh_is_empty p es ls n e).1

  pub closed_still : closed_in (log_of (put_logs ls p.logs) n) ≡ closed_by p n
  closed_still = ap closed_in found_put ∙ still closed_in p ls n (fresh_is_empty p es ls n e).2

module _ (p : PartValue) (d q : BoardValue) (is : IsPart p) (tells : TellsBoth (told q) (told p.board) (told d)) (listed : AreIssues d (issues_of d)) where
  abbrev ls : List Log
  ls = fresh_logs p.first p.board (issues_of d)

  heard_more : (logs : List Log) → AllByRecursion (λ l. IsHeard p.first p.board l.course.number) logs → AllByRecursion (λ l. IsHeard p.first q l.course.number) logs
  heard_more [] h = tt
  heard_more (l ∷ logs) h = (elim h.0 [ inl same ↦ inl same | inr some ↦ inr (λ u. some (unknown_parts (issued p.board l.course.number) (issued d l.course.number) (sym (tells.issues l.course.number) ∙ u)).0) ], heard_more logs h.1)

  heard_fresh : AllByRecursion (λ l. IsHeard p.first q l.course.number) ls
  heard_fresh = all_to p.first p.board (λ l. entries_issue (issues_of d) l.course.number ≢ Unknown) (λ l. IsHeard p.first q l.course.number) ls
      (λ l some. inr (λ u. some (sym (listed.issued l.course.number) ∙ (unknown_parts (issued p.board l.course.number) (issued d l.course.number) (sym (tells.issues l.course.number) ∙ u)).1)))
      (fresh_issued p.first p.board (issues_of d))

  -- a log that was there is found as before
  found_still : (n : ℕ) (c : Change) → option_map (λ l. l.course) (log_of p.logs n) ≡ Some c → option_map (λ l. l.course) (log_of (p.logs ++ ls) n) ≡ Some c
  found_still n c e = ap (option_map (λ l. l.course)) (find-append (λ l. l.course.number == n) p.logs ls) ∙ by (log_of p.logs n) e
    where
      by : (o : Option Log) → option_map (λ l. l.course) o ≡ Some c → option_map (λ l. l.course) (option_or o (log_of ls n)) ≡ Some c
      by None e = absurd (let bad : ⊥ = cc in bad)
      by (Some l) e = e

  found_fresh : (n : ℕ) (c : Change) (pair : PlanPair) → is_new p.first p.board n ≡ true → issued d n ≡ One pair → course_under n (One pair) ≡ Some c → option_map (λ l. l.course) (log_of (p.logs ++ ls) n) ≡ Some c
  found_fresh n c pair new e under =
      ap (option_map (λ l. l.course)) (find-append (λ l. l.course.number == n) p.logs ls ∙ ap (λ o. option_or o (log_of ls n)) (none_there p.first p.board n p.logs is.heard new)
      ∙ fresh_at p.first p.board n pair (issues_of d) listed.rise (sym (listed.issued n) ∙ e) new) ∙ under

  known_then : (n : ℕ) (c : Change) → known_course p.first q n ≡ Some c → option_map (λ l. l.course) (log_of (p.logs ++ ls) n) ≡ Some c
  known_then n c k = by (n == p.first.number) refl k
    where
      other : (x y : Flat PlanPair) → issued p.board n ≡ x → issued d n ≡ y → (n == p.first.number) ≡ false → course_under n (both_issued x y) ≡ Some c → option_map (λ l. l.course) (log_of (p.logs ++ ls) n) ≡ Some c
      other Unknown Unknown e f t k = absurd (let bad : ⊥ = cc in bad)
      other Unknown Clash e f t k = absurd (let bad : ⊥ = cc in bad)
      other Unknown (One pair) e f t k = found_fresh n c pair (and_from (not (n == p.first.number)) (is_unknown (issued p.board n)) (ap not t) (ap is_unknown e)) f k
      other (One a) y e f t k = found_still n c (is.known n c (ap (λ s. cond s (Some p.first) (course_under n (issued p.board n))) t ∙ ap (course_under n) e ∙ under_first n c a y k))
      other Clash y e f t k = absurd (let bad : ⊥ = cc in bad)

      by : (s : Bool) → (n == p.first.number) ≡ s → cond s (Some p.first) (course_under n (issued q n)) ≡ Some c → option_map (λ l. l.course) (log_of (p.logs ++ ls) n) ≡ Some c
      by true t k = found_still n c (is.known n c (ap (λ s. cond s (Some p.first) (course_under n (issued p.board n))) t ∙ k))
      by false t k = other (issued p.board n) (issued d n) refl refl t (ap (course_under n) (sym (tells.issues n)) ∙ k)

  pub absorbed_part : IsBoard q → AllByRecursion IsLog ls → IsPart (record p { board = q; logs = put_logs ls p.logs })
  absorbed_part board logs =
      let others = fresh_apart p.first p.board p.logs (issues_of d) is.heard in
      let rise = fresh_rising p.first p.board (issues_of d) listed.rise in
      record {
        board = board;
        plans = is.plans;
        held = is.held;
        logs = all_puts IsLog ls p.logs logs is.logs;
        rising = puts_rising ls p.logs others rise is.rising;
        heard = all_puts (λ l. IsHeard p.first q l.course.number) ls p.logs heard_fresh (heard_more p.logs is.heard);
        known = λ n c k. ap (option_map (λ l. l.course)) (find_puts n ls p.logs others rise) ∙ known_then n c k;
      }

-- what holds of the images holds of the entries
pub all_of_images : {X Y : Type 0} (f : X → Y) (P : Y → Type 0) (xs : List X) → AllByRecursion P (Rattle.std.specs.Prelude.map f xs) → AllByRecursion (λ x. P (f x)) xs
all_of_images f P [] h = tt
all_of_images f P (x ∷ xs) h = (h.0, all_of_images f P xs h.1)
