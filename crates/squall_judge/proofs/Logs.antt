-- Of logs the lines of each node, and the first of them.
use Rattle.std.proofs.Common.{◌≡◌, ◌⊎◌, ℕ, zero, suc, ◌+◌, ◌<◌, ◌≤◌, true, false, List, [], ◌∷◌, ◌++◌, length, map, take, drop, set, replicate, Some, refl, sym, ap, ◌∙◌, subst, inl, inr, ⊎_elim, arith, take-append-drop}
use Rattle.std.specs.Prelude.{if◌then◌else◌}
use Rattle.std.specs.List.{slice_get}
use Rattle.std.proofs.lemmas.Bool.{cases_Bool, cond-true, cond-false}
use Rattle.squall_protocol.specs.declared.event.Node.{Node}
use Rattle.squall_protocol.specs.Worlds.{WorldValue, same_node}
use Rattle.squall_protocol.specs.Promises.{IsReached}
use Rattle.squall_audit.specs.Logs.{HasLogs, AreFirst, Comes, IsOfOneReport, WhatComesHappens, with_lines}
use Rattle.squall_audit.proofs.Views.{same_self, same_nodes}
use Rattle.squall_judge.specs.declared.log.Entry.{Entry}
use Rattle.squall_judge.specs.declared.log.Entry.TheVariants.{Own as OwnEntry, Gift as GiftEntry, Arrival as ArrivalEntry, Heard as HeardEntry}
use Rattle.squall_judge.specs.declared.log.Log.{Log}
use Rattle.squall_judge.specs.Entries.{line_of, lines_in, logs_of, taken_of, AreApart}

-- ---- lists

inside : {A : Type 0} (x y : A) → Some x ≡ Some y → x ≡ y
inside x y e = cc

pub at_there : {A : Type 0} (xs : List A) (i : ℕ) → i < length xs → (x : A) × (slice_get xs i ≡ Some x)
at_there [] i low = absurd (omega (arith, low))
at_there (x ∷ xs) zero low = (x, refl)
at_there (x ∷ xs) (suc i) low = at_there xs i (omega (arith, low))

map_at : {A B : Type 0} (f : A → B) (xs : List A) (i : ℕ) (x : A) → slice_get xs i ≡ Some x → slice_get (map f xs) i ≡ Some (f x)
map_at f [] i x at = absurd (cc)
map_at f (y ∷ ys) zero x at = ap (λ z. Some (f z)) (inside y x at)
map_at f (y ∷ ys) (suc i) x at = map_at f ys i x at

pub at_map : {A B : Type 0} (f : A → B) (xs : List A) (i : ℕ) (y : B) → slice_get (map f xs) i ≡ Some y → (x : A) × (slice_get xs i ≡ Some x) × (f x ≡ y)
at_map f [] i y at = absurd (cc)
at_map f (x ∷ xs) zero y at = (x, refl, inside (f x) y at)
at_map f (x ∷ xs) (suc i) y at = at_map f xs i y at

one_more_than : (n : ℕ) → suc n + 1 ≡ suc (n + 1)
one_more_than n = omega arith

take_next : {A : Type 0} (xs : List A) (n : ℕ) (x : A) → slice_get xs n ≡ Some x → take (n + 1) xs ≡ take n xs ++ x ∷ []
take_next [] n x at = absurd (cc)
take_next (y ∷ ys) zero x at = ap (λ z. z ∷ []) (inside y x at)
take_next (y ∷ ys) (suc n) x at = ap (λ k. take k (y ∷ ys)) (one_more_than n) ∙ ap (λ zs. y ∷ zs) (take_next ys n x at)

same_head : {A : Type 0} (x y : A) (xs ys : List A) → x ∷ xs ≡ y ∷ ys → x ≡ y
same_head x y xs ys e = cc

same_tail : {A : Type 0} (x y : A) (xs ys : List A) → x ∷ xs ≡ y ∷ ys → xs ≡ ys
same_tail x y xs ys e = cc

pub next_at : {A : Type 0} (xs : List A) (n : ℕ) (x : A) (more : List A) → xs ≡ (take n xs ++ x ∷ []) ++ more → slice_get xs n ≡ Some x
next_at [] zero x more e = absurd (cc)
next_at [] (suc n) x more e = absurd (cc)
next_at (y ∷ ys) zero x more e = ap Some (same_head y x ys more e)
next_at (y ∷ ys) (suc n) x more e = next_at ys n x more (same_tail y y ys ((take n ys ++ x ∷ []) ++ more) e)

pub take_most : {A : Type 0} (xs : List A) (n : ℕ) → length xs ≤ n → take n xs ≡ xs
take_most [] zero most = refl
take_most [] (suc n) most = refl
take_most (x ∷ xs) zero most = absurd (omega (arith, most))
take_most (x ∷ xs) (suc n) most = ap (λ ys. x ∷ ys) (take_most xs n (omega (arith, most)))

pub length_map : {A B : Type 0} (f : A → B) (xs : List A) → length (map f xs) ≡ length xs
length_map f [] = refl
length_map f (x ∷ xs) = ap suc (length_map f xs)

pub length_set : {A : Type 0} (xs : List A) (i : ℕ) (y : A) → length (set xs i y) ≡ length xs
length_set [] i y = refl
length_set (x ∷ xs) zero y = refl
length_set (x ∷ xs) (suc i) y = ap suc (length_set xs i y)

pub set_here : {A : Type 0} (xs : List A) (i : ℕ) (x y : A) → slice_get (set xs i y) i ≡ Some x → x ≡ y
set_here [] i x y at = absurd (cc)
set_here (z ∷ xs) zero x y at = sym (inside y x at)
set_here (z ∷ xs) (suc i) x y at = set_here xs i x y at

pub set_there : {A : Type 0} (xs : List A) (i j : ℕ) (y : A) → (j ≡ i → ⊥) → slice_get (set xs i y) j ≡ slice_get xs j
set_there [] i j y other = refl
set_there (x ∷ xs) zero zero y other = absurd (other refl)
set_there (x ∷ xs) zero (suc j) y other = refl
set_there (x ∷ xs) (suc i) zero y other = refl
set_there (x ∷ xs) (suc i) (suc j) y other = set_there xs i j y (λ e. other (ap suc e))

pub same_or_not : (i j : ℕ) → (i ≡ j) ⊎ (i ≡ j → ⊥)
same_or_not zero zero = inl refl
same_or_not zero (suc j) = inr (λ e. omega (arith, e))
same_or_not (suc i) zero = inr (λ e. omega (arith, e))
same_or_not (suc i) (suc j) = ⊎_elim (λ (e : i ≡ j). inl (ap suc e)) (λ (n : i ≡ j → ⊥). inr (λ e. n (omega (arith, e)))) (same_or_not i j)

-- ---- the log of a node

apart_rest : (log : Log) (logs : List Log) → AreApart (log ∷ logs) → AreApart logs
apart_rest log logs apart i j m a b = let same = apart (suc i) (suc j) m a b in omega (arith, same)

-- a later log is of another node than the first
other_node : (first : Log) (logs : List Log) (i : ℕ) (log : Log) → AreApart (first ∷ logs) → slice_get logs i ≡ Some log → same_node log.node first.node ≡ false
other_node first logs i log apart at = ⊎_elim
    (λ (e : same_node log.node first.node ≡ true).
    let same = apart 0 (suc i) log.node (first, refl, sym (same_nodes log.node first.node e)) (log, at, refl) in
    absurd (omega (arith, same)))
    (λ (e : same_node log.node first.node ≡ false). e)
    (cases_Bool (same_node log.node first.node))

pub taken_here : (logs : List Log) (ns : List ℕ) (i n : ℕ) (log : Log) → AreApart logs → slice_get logs i ≡ Some log → slice_get ns i ≡ Some n → taken_of logs ns log.node ≡ take n (lines_in log)
taken_here [] ns i n log apart at count = absurd (cc)
taken_here (l ∷ ls) [] i n log apart at count = absurd (cc)
taken_here (l ∷ ls) (k ∷ ks) zero n log apart at count =
    let same = inside l log at in
    let number = inside k n count in
    subst (λ (x : Log). taken_of (l ∷ ls) (k ∷ ks) x.node ≡ take n (lines_in x)) same
    (cond-true (same_node l.node l.node) (take k (lines_in l)) (taken_of ls ks l.node) (same_self l.node) ∙ ap (λ j. take j (lines_in l)) number)
taken_here (l ∷ ls) (k ∷ ks) (suc i) n log apart at count =
    cond-false (same_node log.node l.node) (take k (lines_in l)) (taken_of ls ks log.node) (other_node l ls i log apart at) ∙ taken_here ls ks i n log (apart_rest l ls apart) at count

-- with one entry more of a log
pub taken_more : (logs : List Log) (ns : List ℕ) (i n : ℕ) (log : Log) (entry : Entry) → AreApart logs → slice_get logs i ≡ Some log → slice_get ns i ≡ Some n → slice_get log.entries.items n ≡ Some entry
    → (m : Node) → taken_of logs (set ns i (n + 1)) m ≡ with_lines (taken_of logs ns) log.node (line_of entry ∷ []) m
taken_more [] ns i n log entry apart at count there m = absurd (cc)
taken_more (l ∷ ls) [] i n log entry apart at count there m = absurd (cc)
taken_more (l ∷ ls) (k ∷ ks) zero n log entry apart at count there m = ⊎_elim
    (λ (e : same_node m l.node ≡ true).
    cond-true (same_node m l.node) (take (n + 1) (lines_in l)) (taken_of ls ks m) e
    ∙ take_next (lines_in l) n (line_of entry) (map_at line_of l.entries.items n entry (subst (λ (x : Log). slice_get x.entries.items n ≡ Some entry) (sym same) there))
    ∙ ap (λ j. take j (lines_in l) ++ line_of entry ∷ []) (sym number)
    ∙ ap (λ xs. xs ++ line_of entry ∷ []) (sym (cond-true (same_node m l.node) (take k (lines_in l)) (taken_of ls ks m) e))
    ∙ sym (cond-true (same_node m log.node) (taken_of (l ∷ ls) (k ∷ ks) m ++ line_of entry ∷ []) (taken_of (l ∷ ls) (k ∷ ks) m) (subst (λ (x : Log). same_node m x.node ≡ true) same e)))
    (λ (e : same_node m l.node ≡ false).
    cond-false (same_node m l.node) (take (n + 1) (lines_in l)) (taken_of ls ks m) e
    ∙ sym (cond-false (same_node m l.node) (take k (lines_in l)) (taken_of ls ks m) e)
    ∙ sym (cond-false (same_node m log.node) (taken_of (l ∷ ls) (k ∷ ks) m ++ line_of entry ∷ []) (taken_of (l ∷ ls) (k ∷ ks) m) (subst (λ (x : Log). same_node m x.node ≡ false) same e)))
    (cases_Bool (same_node m l.node))
  where
    same : l ≡ log
    same = inside l log at

    number : k ≡ n
    number = inside k n count
taken_more (l ∷ ls) (k ∷ ks) (suc i) n log entry apart at count there m = ⊎_elim
    (λ (e : same_node m l.node ≡ true).
    cond-true (same_node m l.node) (take k (lines_in l)) (taken_of ls (set ks i (n + 1)) m) e
    ∙ sym (cond-true (same_node m l.node) (take k (lines_in l)) (taken_of ls ks m) e)
    ∙ sym (cond-false (same_node m log.node) (taken_of (l ∷ ls) (k ∷ ks) m ++ line_of entry ∷ []) (taken_of (l ∷ ls) (k ∷ ks) m) (apart_too e)))
    (λ (e : same_node m l.node ≡ false).
    cond-false (same_node m l.node) (take k (lines_in l)) (taken_of ls (set ks i (n + 1)) m) e
    ∙ taken_more ls ks i n log entry (apart_rest l ls apart) at count there m
    ∙ ap (λ xs. if same_node m log.node then xs ++ line_of entry ∷ [] else xs) (sym (cond-false (same_node m l.node) (take k (lines_in l)) (taken_of ls ks m) e)))
    (cases_Bool (same_node m l.node))
  where
    apart_too : same_node m l.node ≡ true → same_node m log.node ≡ false
    apart_too e = ⊎_elim
        (λ (f : same_node m log.node ≡ true).
        absurd (none (sym (subst (λ x. same_node x l.node ≡ true) (same_nodes m log.node f) e) ∙ other_node l ls i log apart at)))
        (λ (f : same_node m log.node ≡ false). f)
        (cases_Bool (same_node m log.node))
      where
        none : true ≡ false → ⊥
        none h = cc

-- the log of a node, and how much of it was taken; or none
pub record IsFound (logs : List Log) (ns : List ℕ) (m : Node) : Type 0 where
  pub place : ℕ
  pub count : ℕ
  pub log : Log
  pub log_at : slice_get logs place ≡ Some log
  pub count_at : slice_get ns place ≡ Some count
  pub node : log.node ≡ m
  pub lines : logs_of logs m ≡ lines_in log
  pub taken : taken_of logs ns m ≡ take count (lines_in log)

abbrev pub Found : List Log → List ℕ → Node → Type 0
Found logs ns m = IsFound logs ns m ⊎ ((logs_of logs m ≡ []) × (taken_of logs ns m ≡ []))

pub found : (logs : List Log) (ns : List ℕ) (m : Node) → length ns ≡ length logs → Found logs ns m
found [] ns m same = inr (refl, refl)
found (l ∷ ls) [] m same = absurd (cc)
found (l ∷ ls) (k ∷ ks) m same = ⊎_elim
    (λ (e : same_node m l.node ≡ true).
    inl (record {
      place = 0;
      count = k;
      log = l;
      log_at = refl;
      count_at = refl;
      node = sym (same_nodes m l.node e);
      lines = cond-true (same_node m l.node) (lines_in l) (logs_of ls m) e;
      taken = cond-true (same_node m l.node) (take k (lines_in l)) (taken_of ls ks m) e;
    }))
    (λ (e : same_node m l.node ≡ false).
    let lines = cond-false (same_node m l.node) (lines_in l) (logs_of ls m) e in
    let taken = cond-false (same_node m l.node) (take k (lines_in l)) (taken_of ls ks m) e in
    ⊎_elim
    (λ (f : IsFound ls ks m).
    inl (record { place = suc f.place; count = f.count; log = f.log; log_at = f.log_at; count_at = f.count_at; node = f.node; lines = lines ∙ f.lines; taken = taken ∙ f.taken }))
    (λ (g : (logs_of ls m ≡ []) × (taken_of ls ks m ≡ [])). inr (lines ∙ g.0, taken ∙ g.1))
    (found ls ks m (omega (arith, same))))
    (cases_Bool (same_node m l.node))

-- what is taken are first lines, all of them if there are no more, and none at first
pub are_first : (logs : List Log) (ns : List ℕ) → length ns ≡ length logs → AreFirst (taken_of logs ns) (logs_of logs)
are_first logs ns same m = ⊎_elim
    (λ (f : IsFound logs ns m).
    (drop f.count (lines_in f.log), f.lines ∙ sym (take-append-drop f.count (lines_in f.log)) ∙ ap (λ xs. xs ++ drop f.count (lines_in f.log)) (sym f.taken)))
    (λ (g : (logs_of logs m ≡ []) × (taken_of logs ns m ≡ [])). ([], g.0 ∙ ap (λ xs. xs ++ []) (sym g.1)))
    (found logs ns m same)

pub all_taken : (logs : List Log) (ns : List ℕ) → length ns ≡ length logs → ((i n : ℕ) (log : Log) → slice_get logs i ≡ Some log → slice_get ns i ≡ Some n → length log.entries.items ≤ n) → (m : Node) → taken_of logs ns m ≡ logs_of logs m
all_taken logs ns same most m = ⊎_elim
    (λ (f : IsFound logs ns m).
    f.taken ∙ take_most (lines_in f.log) f.count (subst (λ k. k ≤ f.count) (sym (length_map line_of f.log.entries.items)) (most f.place f.count f.log f.log_at f.count_at)) ∙ sym f.lines)
    (λ (g : (logs_of logs m ≡ []) × (taken_of logs ns m ≡ [])). g.1 ∙ sym g.0)
    (found logs ns m same)

take_none : {A : Type 0} (xs : List A) → take 0 xs ≡ []
take_none xs = refl

pub none_taken : (logs : List Log) (k : ℕ) (m : Node) → taken_of logs (replicate k 0) m ≡ []
none_taken [] k m = refl
none_taken (l ∷ ls) zero m = refl
none_taken (l ∷ ls) (suc k) m = ⊎_elim
    (λ (e : same_node m l.node ≡ true). cond-true (same_node m l.node) (take 0 (lines_in l)) (taken_of ls (replicate k 0) m) e ∙ take_none (lines_in l))
    (λ (e : same_node m l.node ≡ false). cond-false (same_node m l.node) (take 0 (lines_in l)) (taken_of ls (replicate k 0) m) e ∙ none_taken ls k m)
    (cases_Bool (same_node m l.node))

-- ---- one entry more

is_of_one : (entry : Entry) → IsOfOneReport (line_of entry)
is_of_one (OwnEntry e a) = tt
is_of_one (GiftEntry e x) = tt
is_of_one (ArrivalEntry x a) = tt
is_of_one (HeardEntry r) = (r, refl)

pub one_more : WhatComesHappens → (s w v : WorldValue) (logs : List Log) (ns : List ℕ) (i n : ℕ) (log : Log) (entry : Entry) → AreApart logs → slice_get logs i ≡ Some log → slice_get ns i ≡ Some n
    → slice_get log.entries.items n ≡ Some entry → IsReached s → HasLogs s (taken_of logs ns) w → Comes w log.node (line_of entry) v → HasLogs s (taken_of logs (set ns i (n + 1))) v
one_more happens s w v logs ns i n log entry apart at count there reached has comes =
    let more = happens s w v (taken_of logs ns) log.node (line_of entry) reached has comes (is_of_one entry) in
    record { run = more.run; trace = more.trace; written = λ m. more.written m ∙ sym (taken_more logs ns i n log entry apart at count there m) }
