-- The progress of the keys of a span.
use Rattle.std.proofs.Common.{◌≡◌, ℕ, ◌<◌, ◌≤◌, Bool, true, false, refl, sym, ap, subst, ◌∙◌, arith, inl, inr}
use Rattle.std.specs.Prelude.{◌&&◌, ◌||◌, ◌≢◌, None, Some, List}
use Rattle.std.proofs.Math.Bool.{or-false}
use Rattle.std.proofs.lemmas.Bool.{cases_lt, false≢true}
use Rattle.std.proofs.lemmas.Bool.Decides.{nat_tests}
use Rattle.squall_key.specs.Keys.{top}
use Rattle.squall_span.specs.Spans.{Interval, interval, span_has, has}
use Rattle.squall_span.specs.SpanLaws.{inside}
use Rattle.squall_board.specs.Boards.{CellValue}
use Rattle.squall_board.specs.MovesRoute.{cell_has_come}
use Rattle.squall_status.specs.declared.progress.Progress.{Progress}
use Rattle.squall_status.specs.declared.progress.Progress.TheVariants.{NotStarted, Partial, Complete}
use Rattle.squall_status.specs.Coming.{come_count, IsFirstMissing, IsProgress, loaded_in}
use Rattle.squall_status.specs.Steps.{shared_count, missing_in, AreBeyond}
use Rattle.squall_status.proofs.Counts.{same_many, many_none, none_many, many_of_span}
use Rattle.squall_status.proofs.Sharing.{shared_is_many, IsMissing, missing_is}

pub within_span : (s : Interval) (k : ℕ) → span_has s k ≡ true → (s.lo ≤ k) × (k < s.hi)
within_span s k e = grind (arith, nat_tests)

-- ---- how many

none_come : (span : Interval) (come : ℕ → Bool) → ((k : ℕ) → span_has span k ≡ true → come k ≡ false) → (k : ℕ) → (span_has span k && come k) ≡ false
none_come span come none k = each (span_has span k) (come k) (none k)
  where
    each : (a b : Bool) → (a ≡ true → b ≡ false) → (a && b) ≡ false
    each true b f = f refl
    each false b f = refl

all_come : (span : Interval) (come : ℕ → Bool) → ((k : ℕ) → span_has span k ≡ true → come k ≡ true) → (k : ℕ) → (span_has span k && come k) ≡ span_has span k
all_come span come all k = each (span_has span k) (come k) (all k)
  where
    each : (a b : Bool) → (a ≡ true → b ≡ true) → (a && b) ≡ a
    each true b f = f refl
    each false b f = refl

same_come : (span : Interval) (come other : ℕ → Bool) → ((k : ℕ) → span_has span k ≡ true → come k ≡ other k) → (k : ℕ) → (span_has span k && come k) ≡ (span_has span k && other k)
same_come span come other same k = each (span_has span k) (come k) (other k) (same k)
  where
    each : (a b d : Bool) → (a ≡ true → b ≡ d) → (a && b) ≡ (a && d)
    each true b d f = f refl
    each false b d f = refl

-- the progress says how many keys have come
pub progress_counts : (span : Interval) (come : ℕ → Bool) (p : Progress) → span.lo < span.hi → span.hi ≤ top → IsProgress span come p → loaded_in span p ≡ come_count span come
progress_counts span come NotStarted full high none = sym (many_none (λ k. span_has span k && come k) top (λ k lt. none_come span come none k))
progress_counts span come (Partial loaded missing) full high is = is.0
progress_counts span come Complete full high all = sym (same_many (λ k. span_has span k && come k) (span_has span) top (λ k lt. all_come span come all k) ∙ many_of_span span top full high)

same_count : (span : Interval) (come other : ℕ → Bool) → ((k : ℕ) → span_has span k ≡ true → come k ≡ other k) → come_count span come ≡ come_count span other
same_count span come other same = same_many (λ k. span_has span k && come k) (λ k. span_has span k && other k) top (λ k lt. same_come span come other same k)

-- ---- tests that agree on the span

same_missing : (span : Interval) (come other : ℕ → Bool) (run : Interval) → ((k : ℕ) → span_has span k ≡ true → come k ≡ other k) → IsFirstMissing span come run → IsFirstMissing span other run
same_missing span come other run same m = record {
  some = m.some;
  from = m.from;
  upto = m.upto;
  missing = λ k ge lt. sym (same k (inside span k (omega (arith, m.from)) (omega (arith, m.upto)))) ∙ m.missing k ge lt;
  least = λ k ge lt. sym (same k (inside span k ge (omega (arith, m.upto, m.some)))) ∙ m.least k ge lt;
  longest = λ lt. sym (same run.hi (inside span run.hi (omega (arith, m.from, m.some)) lt)) ∙ m.longest lt;
}

pub same_progress : (span : Interval) (come other : ℕ → Bool) (p : Progress) → ((k : ℕ) → span_has span k ≡ true → come k ≡ other k) → IsProgress span come p → IsProgress span other p
same_progress span come other NotStarted same none = λ k is. sym (same k is) ∙ none k is
same_progress span come other (Partial loaded missing) same is = (is.0 ∙ same_count span come other same, is.1, same_missing span come other missing same is.2)
same_progress span come other Complete same all = λ k is. sym (same k is) ∙ all k is

-- ---- one progress

-- a first run of missing keys begins no later than another
runs_from : (span : Interval) (come : ℕ → Bool) (r q : Interval) → IsFirstMissing span come r → IsFirstMissing span come q → r.lo ≤ q.lo
runs_from span come r q f g = elim (cases_lt q.lo r.lo) [
  | inl lt ↦ absurd (false≢true (sym (g.missing q.lo (omega arith) g.some) ∙ f.least q.lo g.from lt))
  | inr ge ↦ ge
]

runs_upto : (span : Interval) (come : ℕ → Bool) (r q : Interval) → IsFirstMissing span come r → IsFirstMissing span come q → r.lo ≡ q.lo → r.hi ≤ q.hi
runs_upto span come r q f g low = elim (cases_lt q.hi r.hi) [
  | inl lt ↦ absurd (false≢true (sym (f.missing q.hi (omega (arith, g.some)) lt) ∙ g.longest (omega (arith, f.upto))))
  | inr ge ↦ ge
]

one_run : (span : Interval) (come : ℕ → Bool) (r q : Interval) → IsFirstMissing span come r → IsFirstMissing span come q → r ≡ q
one_run span come r q f g =
    let low : r.lo ≡ q.lo = omega (arith, runs_from span come r q f g, runs_from span come q r g f) in
    let high : r.hi ≡ q.hi = omega (arith, runs_upto span come r q f g low, runs_upto span come q r g f (sym low)) in
    λ i. interval (low i) (high i)

-- if a run is missing, some key has not come
not_all : (span : Interval) (come : ℕ → Bool) (r : Interval) → IsFirstMissing span come r → ((k : ℕ) → span_has span k ≡ true → come k ≡ true) → ⊥
not_all span come r f all = false≢true (sym (f.missing r.lo (omega arith) f.some) ∙ all r.lo (inside span r.lo f.from (omega (arith, f.upto, f.some))))

not_none : (span : Interval) (come : ℕ → Bool) (loaded : ℕ) → loaded ≡ come_count span come → 0 < loaded → ((k : ℕ) → span_has span k ≡ true → come k ≡ false) → ⊥
not_none span come loaded e some none = let zero : come_count span come ≡ 0 = many_none (λ k. span_has span k && come k) top (λ k lt. none_come span come none k) in omega (arith, zero, e)

none_or_all : (span : Interval) (come : ℕ → Bool) → span.lo < span.hi → ((k : ℕ) → span_has span k ≡ true → come k ≡ false) → ((k : ℕ) → span_has span k ≡ true → come k ≡ true) → ⊥
none_or_all span come full none all = let first = inside span span.lo (omega arith) full in false≢true (sym (none span.lo first) ∙ all span.lo first)

pub progress_is_one : (span : Interval) (come : ℕ → Bool) (p q : Progress) → span.lo < span.hi → IsProgress span come p → IsProgress span come q → p ≡ q
progress_is_one span come NotStarted NotStarted full x y = refl
progress_is_one span come NotStarted (Partial n r) full x y = absurd (not_none span come n y.0 y.1 x)
progress_is_one span come NotStarted Complete full x y = absurd (none_or_all span come full x y)
progress_is_one span come (Partial n r) NotStarted full x y = absurd (not_none span come n x.0 x.1 y)
progress_is_one span come (Partial n r) (Partial m q) full x y = let count : n ≡ m = x.0 ∙ sym y.0 in let run : r ≡ q = one_run span come r q x.2 y.2 in λ i. Partial (count i) (run i)
progress_is_one span come (Partial n r) Complete full x y = absurd (not_all span come r x.2 y)
progress_is_one span come Complete NotStarted full x y = absurd (none_or_all span come full y x)
progress_is_one span come Complete (Partial n r) full x y = absurd (not_all span come r y.2 x)
progress_is_one span come Complete Complete full x y = refl

-- ---- what a walk over the spans of a set has found

-- no key of the span has come if none is counted
none_counted : (span : Interval) (come : ℕ → Bool) → span.hi ≤ top → come_count span come ≡ 0 → IsProgress span come NotStarted
none_counted span come high e = λ k is. no_key (span_has span k) (come k) (none_many (λ k. span_has span k && come k) top e k (omega (arith, (within_span span k is).1))) is
  where
    no_key : (a b : Bool) → (a && b) ≡ false → a ≡ true → b ≡ false
    no_key true b e h = e
    no_key false b e h = absurd (false≢true h)

module _ (span : Interval) (set ss : List Interval) (full : span.lo < span.hi) (high : span.hi ≤ top) (are : AreBeyond set span.lo ss) where
  same_here : (k : ℕ) → span_has span k ≡ true → has ss k ≡ has set k
  same_here k is = are.same k (within_span span k is).0

  found : IsMissing span (has ss) (missing_in span ss)
  found = missing_is span ss full are.canonical are.ends

  pub complete_found : missing_in span ss ≡ None → IsProgress span (has set) Complete
  complete_found e = same_progress span (has ss) (has set) Complete same_here (subst (IsMissing span (has ss)) e found)

  pub none_found : shared_count span ss ≡ 0 → IsProgress span (has set) NotStarted
  none_found e = same_progress span (has ss) (has set) NotStarted same_here (none_counted span (has ss) high (sym (shared_is_many span ss full high are.canonical are.ends) ∙ e))

  pub some_found : (loaded : ℕ) (run : Interval) → loaded ≡ shared_count span ss → loaded ≢ 0 → missing_in span ss ≡ Some run → IsProgress span (has set) (Partial loaded run)
  some_found loaded run count some e =
      same_progress span (has ss) (has set) (Partial loaded run) same_here
      (count ∙ shared_is_many span ss full high are.canonical are.ends, omega (arith, some), subst (IsMissing span (has ss)) e found)

-- ---- by a cell

-- of a cell that is not complete the keys of its set have come
pub set_alone : (span : Interval) (cell : CellValue) (p : Progress) → cell.second ≡ false → IsProgress span (has cell.first) p → IsProgress span (cell_has_come (Some cell)) p
set_alone span cell p open_cell by = same_progress span (has cell.first) (cell_has_come (Some cell)) p (λ k is. sym (ap (λ b. has cell.first k || b) open_cell ∙ or-false (has cell.first k))) by
