-- What a partition replies, by the last logs that pass.
use Rattle.std.proofs.Common.{◌≡◌, ℕ, suc, ◌<◌, ◌≤◌, ◌==◌, ◌&&◌, not, Bool, true, false, cond, nat_lt, List, [], ◌∷◌, length, get_or, Option, None, Some, is_some, option_map, refl, sym, ap, subst, ◌∙◌, arith, inl, inr}
use Rattle.std.specs.Prelude.{◌⊎◌}
use Rattle.std.proofs.lemmas.Bool.{and_parts, and_from, false≢true}
use Rattle.std.proofs.lemmas.Bool.Decides.{nat_tests}
use Rattle.std.proofs.lemmas.Option.{same_Some}
use Rattle.squall_span.specs.Spans.{has}
use Rattle.squall_plan.specs.Ranges.{owner_of}
use Rattle.squall_course.specs.Change.{Change}
use Rattle.squall_course.specs.Subplans.{moves}
use Rattle.squall_errand.specs.declared.errand.Reply.TheVariants.{Moved, Pending}
use Rattle.squall_part.specs.Parts.{PartValue, Log, log_of, IsPart, known_to, course_of_part, given_in, loaded_in, loaded_by}
use Rattle.squall_part.specs.Logs.{IsLogAt, number_in, later, last_from, last_of, gave, awaits}
use Rattle.squall_part.specs.Serving.{GaveUnder, ComesUnder, IsLastGiven, IsLastComing, IsReply}
use Rattle.squall_protocol.specs.Firsts.{IsGreatest}
use Rattle.squall_part.proofs.Logs.{AreApart, apart, eq_refl, eq_same, found_at}
use Rattle.squall_part.proofs.Known.{known_number, course_known, log_at}

-- ---- the last log that passes

later_up : (test : Log → Bool) (found : Option Log) (l : Log) → number_in found ≤ number_in (later test found l)
later_up test found l = by (nat_lt (number_in found) l.course.number) (test l) refl
  where
    by : (a b : Bool) → nat_lt (number_in found) l.course.number ≡ a → number_in found ≤ number_in (cond (a && b) (Some l) found)
    by true true e = grind (arith, nat_tests)
    by true false e = omega arith
    by false b e = omega arith

last_up : (test : Log → Bool) (found : Option Log) (logs : List Log) → number_in found ≤ number_in (last_from test found logs)
last_up test found [] = omega arith
last_up test found (l ∷ ls) = omega (arith, later_up test found l, last_up test (later test found l) ls)

later_least : (test : Log → Bool) (found : Option Log) (l : Log) → test l ≡ true → l.course.number ≤ number_in (later test found l)
later_least test found l t = by (nat_lt (number_in found) l.course.number) (test l) refl t
  where
    by : (a b : Bool) → nat_lt (number_in found) l.course.number ≡ a → b ≡ true → l.course.number ≤ number_in (cond (a && b) (Some l) found)
    by true true e t = omega arith
    by true false e t = absurd (let bad : ⊥ = cc in bad)
    by false b e t = grind (arith, nat_tests)

last_least : (test : Log → Bool) (found : Option Log) (logs : List Log) (n : ℕ) (l : Log) → log_of logs n ≡ Some l → test l ≡ true → l.course.number ≤ number_in (last_from test found logs)
last_least test found [] n l e t = absurd (let bad : ⊥ = cc in bad)
last_least test found (m ∷ ms) n l e t = by (m.course.number == n) (λ e. last_least test (later test found m) ms n l e t) e
  where
    by : (b : Bool) → (log_of ms n ≡ Some l → l.course.number ≤ number_in (last_from test (later test found m) ms)) → cond b (Some m) (log_of ms n) ≡ Some l → l.course.number ≤ number_in (last_from test (later test found m) ms)
    by true rest e =
        let s : m ≡ l = same_Some m l e in
        let up = later_least test found m (subst (λ x. test x ≡ true) (sym s) t) in
        subst (λ x. x.course.number ≤ number_in (last_from test (later test found m) ms)) s (omega (arith, up, last_up test (later test found m) ms))
    by false rest e = rest e

-- what was found passes, and stands at its number
abbrev Was : (Log → Bool) → List Log → Option Log → Type 0
Was test all None = Unit {0}
Was test all (Some l) = (test l ≡ true) × (log_of all l.course.number ≡ Some l)

was_last : (test : Log → Bool) (all : List Log) (found : Option Log) (logs : List Log) → ((at : ℕ) (d : Log) → at < length logs → log_of all (get_or logs at d).course.number ≡ Some (get_or logs at d)) → Was test all found → Was test all (last_from test found logs)
was_last test all found [] h w = w
was_last test all found (l ∷ ls) h w = was_last test all (later test found l) ls (λ at d lt. h (suc at) d (omega arith)) (by (nat_lt (number_in found) l.course.number) (test l) refl)
  where
    by : (a b : Bool) → test l ≡ b → Was test all (cond (a && b) (Some l) found)
    by true true e = (e, h 0 l (omega arith))
    by true false e = w
    by false b e = w

was : (test : Log → Bool) (logs : List Log) → AreApart logs → Was test logs (last_of test logs)
was test logs other = was_last test logs None logs (λ at d lt. found_at logs at d other lt) tt

greatest : (R : ℕ → Type 0) (test : Log → Bool) (logs : List Log) → AreApart logs
    → ((n : ℕ) → R n → (l : Log) × (log_of logs n ≡ Some l) × (l.course.number ≡ n) × (test l ≡ true))
    → ((l : Log) → log_of logs l.course.number ≡ Some l → test l ≡ true → R l.course.number) → IsGreatest R (number_in (last_of test logs))
greatest R test logs other to from = record {
  top = λ n r. let t = to n r in omega (arith, last_least test None logs n t.0 t.1 t.3, t.2);
  reached = by (last_of test logs) (was test logs other);
}
  where
    by : (o : Option Log) → Was test logs o → (number_in o ≡ 0) ⊎ R (number_in o)
    by None w = inl refl
    by (Some l) w = inr (from l w.1 w.0)

-- ---- the logs of known courses

pub known_log : (p : PartValue) (n : ℕ) (c : Change) → IsPart p → known_to p n ≡ Some c → (l : Log) × (log_of p.logs n ≡ Some l) × (l.course ≡ c)
known_log p n c is known = by (log_of p.logs n) refl (is.known n c known)
  where
    by : (o : Option Log) → log_of p.logs n ≡ o → option_map (λ l. l.course) o ≡ Some c → (l : Log) × (log_of p.logs n ≡ Some l) × (l.course ≡ c)
    by None e s = absurd (let bad : ⊥ = cc in bad)
    by (Some l) e s = (l, e, same_Some _ _ s)

some_known : (p : PartValue) (n : ℕ) → is_some (known_to p n) ≡ true → (c : Change) × (known_to p n ≡ Some c)
some_known p n s = by (known_to p n) refl s
  where
    by : (o : Option Change) → known_to p n ≡ o → is_some o ≡ true → (c : Change) × (known_to p n ≡ Some c)
    by None e s = absurd (let bad : ⊥ = cc in bad)
    by (Some c) e s = (c, e)

-- a log of a known number has that number's course
course_of_log : (p : PartValue) (l : Log) → IsPart p → is_some (known_to p l.course.number) ≡ true → log_of p.logs l.course.number ≡ Some l → known_to p l.course.number ≡ Some l.course
course_of_log p l is s e =
    let k = some_known p l.course.number s in
    let g = known_log p l.course.number k.0 is k.1 in
    k.1 ∙ ap Some (sym g.2 ∙ ap (λ x. x.course) (same_Some g.0 l (sym g.1 ∙ e)))

last_given_is : (p : PartValue) (k : ℕ) → IsPart p → IsLastGiven p k (number_in (last_of (gave p k) p.logs))
last_given_is p k is = greatest (GaveUnder p k) (gave p k) p.logs (apart p is) to from
  where
    to : (n : ℕ) → GaveUnder p k n → (l : Log) × (log_of p.logs n ≡ Some l) × (l.course.number ≡ n) × (gave p k l ≡ true)
    to n r =
        let g = known_log p n r.0.0 is r.0.1 in
        let e : g.0.course.number ≡ n = ap (λ c. c.number) g.2 ∙ known_number p n r.0.0 r.0.1 in
        (g.0, g.1, e, and_from (is_some (known_to p g.0.course.number)) (has g.0.given k) (ap (λ m. is_some (known_to p m)) e ∙ ap is_some r.0.1) (ap (λ o. has (given_in o) k) (sym g.1) ∙ r.1))

    from : (l : Log) → log_of p.logs l.course.number ≡ Some l → gave p k l ≡ true → GaveUnder p k l.course.number
    from l e t =
        let a = and_parts (is_some (known_to p l.course.number)) (has l.given k) t in
        (some_known p l.course.number a.0, ap (λ o. has (given_in o) k) e ∙ a.1)

not_true : (b : Bool) → not b ≡ true → b ≡ false
not_true true e = sym e
not_true false e = refl

-- whether the key comes in by the newest course, and is not loaded
abbrev comes : PartValue → ℕ → Bool
comes p k = awaits p.id (course_of_part p) (loaded_by p (course_of_part p).number) k

-- what the log of the newest course says of it
pub comes_here : (p : PartValue) (k at : ℕ) (d : Log) → IsPart p → IsLogAt p.logs (course_of_part p) at → awaits p.id (get_or p.logs at d).course (get_or p.logs at d).loaded k ≡ comes p k
comes_here p k at d is place = λ i. awaits p.id (place.course d i) (sym (ap loaded_in (log_at p (course_of_part p).number (course_of_part p) at d is (course_known p is) place)) i) k

pub last_coming_is : (p : PartValue) (k : ℕ) → comes p k ≡ true → IsLastComing p k (course_of_part p).number
last_coming_is p k t =
    let a = and_parts (moves (course_of_part p).old (course_of_part p).new k) _ t in
    let b = and_parts (owner_of (course_of_part p).new k == p.id) (not (has (loaded_by p (course_of_part p).number) k)) a.1 in
    record { top = λ n r. omega (arith, r.0); reached = inr (refl, a.0, eq_same _ _ b.0, not_true (has (loaded_by p (course_of_part p).number) k) b.1) }

pub none_coming : (p : PartValue) (k : ℕ) → comes p k ≡ false → IsLastComing p k 0
none_coming p k f = record { top = λ n r. absurd (false≢true (sym f ∙ comes_then n r)); reached = inl refl }
  where
    comes_then : (n : ℕ) → ComesUnder p k n → comes p k ≡ true
    comes_then n r =
        and_from (moves (course_of_part p).old (course_of_part p).new k) _ r.1
        (and_from (owner_of (course_of_part p).new k == p.id) _ (ap (λ x. x == p.id) r.2 ∙ eq_refl p.id) (ap not (ap (λ m. has (loaded_by p m) k) (sym r.0) ∙ r.3)))

-- it comes in by no course above the number of the newest
pub none_later : (p : PartValue) (k after : ℕ) → (course_of_part p).number ≤ after → (c : ℕ) × IsLastComing p k c × (c ≤ after)
none_later p k after le = by (comes p k) refl
  where
    by : (b : Bool) → comes p k ≡ b → (c : ℕ) × IsLastComing p k c × (c ≤ after)
    by true t = ((course_of_part p).number, last_coming_is p k t, le)
    by false f = (0, none_coming p k f, omega arith)

-- ---- the replies

last_known : (p : PartValue) (k : ℕ) (l : Log) → IsPart p → last_of (gave p k) p.logs ≡ Some l → known_to p l.course.number ≡ Some l.course
last_known p k l is e =
    let w : Was (gave p k) p.logs (Some l) = subst (Was (gave p k) p.logs) e (was (gave p k) p.logs (apart p is)) in
    course_of_log p l is (and_parts (is_some (known_to p l.course.number)) (has l.given k) w.0).0 w.1

pub pending : (p : PartValue) (k after source : ℕ) (given : Option Log) (l : Log) → IsPart p → has p.held k ≡ false → given ≡ last_of (gave p k) p.logs → l.course ≡ course_of_part p → IsLastComing p k l.course.number
    → number_in given < l.course.number → source ≡ owner_of l.course.old k → IsReply p k after (Pending source)
pending p k after source given l is held g newest coming lt is-source =
    let given-is = subst (λ o. IsLastGiven p k (number_in o)) (sym g) (last_given_is p k is) in
    let known = subst (λ (c : Change). known_to p c.number ≡ Some c) (sym newest) (course_known p is) in
    (held, (number_in given, l.course.number, given-is, coming, lt, (l.course, known, is-source)))

pub moved : (p : PartValue) (k after dest : ℕ) (given : Option Log) (l : Log) → IsPart p → has p.held k ≡ false → given ≡ last_of (gave p k) p.logs → (c : ℕ) × IsLastComing p k c × (c ≤ number_in given)
    → given ≡ Some l → after < l.course.number → dest ≡ owner_of l.course.new k → IsReply p k after (Moved dest l.course.number)
moved p k after dest given l is held g coming some lt is-dest =
    let given-is = subst (λ o. IsLastGiven p k (number_in o)) (sym g ∙ some) (last_given_is p k is) in
    (held, given-is, (coming.0, coming.1, subst (λ o. coming.0 ≤ number_in o) some coming.2), lt, (l.course, last_known p k l is (sym g ∙ some), is-dest))

pub behind : (p : PartValue) (k after : ℕ) (given : Option Log) → IsPart p → given ≡ last_of (gave p k) p.logs → (c : ℕ) × IsLastComing p k c × (c ≤ number_in given)
    → number_in given ≤ after → (g : ℕ) × (c : ℕ) × IsLastGiven p k g × IsLastComing p k c × (c ≤ g) × (g ≤ after)
behind p k after given is g coming upto = (number_in given, coming.0, subst (λ o. IsLastGiven p k (number_in o)) (sym g) (last_given_is p k is), coming.1, coming.2, upto)
