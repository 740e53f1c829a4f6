-- How a run goes on.
use Rattle.std.proofs.Common.{◌≡◌, ℕ, ◌+◌, List, [], ◌∷◌, ◌++◌, length, take, sym, ◌∙◌, ap, subst, refl}
use Rattle.std.proofs.lemmas.List.{append_assoc, append-nil}
use Rattle.std.proofs.Math.Seq.{take-append-add}
use Rattle.std.specs.List.{concat}
use Rattle.squall_cli_lines.specs.declared.Flow.TheVariants.{On, End}
use Rattle.squall_cli_lines.specs.declared.RunFault.TheVariants.{Read, Write, NoMemory}
use Rattle.squall_cli_lines.specs.Lines.{lines_of, whole_lines, IsOneLine}
use Rattle.squall_cli_lines.specs.Script.{Script, TakesLine, silence, after, last_word, text_of}
use Rattle.squall_cli_lines.specs.Running.{Running, Begins, Cuts, Finishes, StopsBy}
use Rattle.squall_cli_lines.proofs.LineLemmas.{lines_of-line, whole_lines-line}

pub concat-append : (xs ys : List (List ℕ)) → concat (xs ++ ys) ≡ concat xs ++ concat ys
concat-append [] ys = refl
concat-append (x ∷ xs) ys = ap (λ w. x ++ w) (concat-append xs ys) ∙ sym (append_assoc x (concat xs) (concat ys))

after-after : (a b : List (List ℕ)) (s : Script) → after a (after b s) ≡ after (a ++ b) s
after-after a b s = ap (λ (w : List (List ℕ)). record { answers = w; refused = s.refused }) (sym (append_assoc a b s.answers))

module _ (a b c : List (List ℕ) → Script → Type 0) where
  pub Running-refl : (read : List ℕ) → Running a a read read []
  Running-refl read = record { whole = []; done = []; split = refl; closed = λ tail. refl; lines = λ tail. refl; answered = λ more s p. p; written = refl }

  pub Running-more : (read left text x : List ℕ) → Running a b read left text → Running a b (read ++ x) (left ++ x) text
  Running-more read left text x r = record {
    whole = r.whole;
    done = r.done;
    split = ap (λ w. w ++ x) r.split ∙ append_assoc r.whole left x;
    closed = r.closed;
    lines = r.lines;
    answered = r.answered;
    written = r.written;
  }

  pub Running-trans : (read left last text more : List ℕ) → Running a b read left text → Running b c left last more → Running a c read last (text ++ more)
  Running-trans read left last text more r s = record {
    whole = r.whole ++ s.whole;
    done = r.done ++ s.done;
    split = r.split ∙ ap (λ w. r.whole ++ w) s.split ∙ sym (append_assoc r.whole s.whole last);
    closed = λ tail. ap whole_lines (append_assoc r.whole s.whole tail) ∙ r.closed (s.whole ++ tail) ∙ ap (λ w. r.whole ++ w) (s.closed tail) ∙ sym (append_assoc r.whole s.whole (whole_lines tail));
    lines = λ tail. ap lines_of (append_assoc r.whole s.whole tail) ∙ r.lines (s.whole ++ tail) ∙ ap (λ w. lines_of r.whole ++ w) (s.lines tail)
        ∙ sym (append_assoc (lines_of r.whole) (lines_of s.whole) (lines_of tail)) ∙ ap (λ w. w ++ lines_of tail) (sym (r.lines s.whole));
    answered = λ rest x p.
        let both = r.answered (lines_of s.whole ++ rest) (after s.done x) (s.answered rest x p) in
        let lines_are : lines_of r.whole ++ (lines_of s.whole ++ rest) ≡ lines_of (r.whole ++ s.whole) ++ rest = sym (append_assoc (lines_of r.whole) (lines_of s.whole) rest) ∙ ap (λ w. w ++ rest) (sym (r.lines s.whole)) in
        subst (λ w. a w (after (r.done ++ s.done) x)) lines_are (subst (λ (w : Script). a (lines_of r.whole ++ (lines_of s.whole ++ rest)) w) (after-after r.done s.done x) both);
    written = ap (λ w. w ++ more) r.written ∙ ap (λ w. concat r.done ++ w) s.written ∙ sym (concat-append r.done s.done);
  }

  -- a line with its LF was answered
  pub Running-line : (line rest text : List ℕ) → IsOneLine line → TakesLine On text a b line → Running a b (line ++ 10 ∷ rest) rest text
  Running-line line rest text one taken = record {
    whole = line ++ 10 ∷ [];
    done = text ∷ [];
    split = sym (append_assoc line (10 ∷ []) rest);
    closed = λ tail. ap whole_lines (append_assoc line (10 ∷ []) tail) ∙ whole_lines-line line tail one ∙ sym (append_assoc line (10 ∷ []) (whole_lines tail));
    lines = λ tail. ap lines_of (append_assoc line (10 ∷ []) tail) ∙ lines_of-line line tail one ∙ ap (λ w. w ++ lines_of tail) (sym (lines_of-line line [] one));
    answered = λ more s p. subst (λ w. a (w ++ more) (after (text ∷ []) s)) (sym (lines_of-line line [] one)) (taken more s p);
    written = sym (append-nil text);
  }

  -- all the lines: those that are answered, and those that are left
  lines_are : (read left text : List ℕ) (r : Running a b read left text) → lines_of r.whole ++ lines_of left ≡ lines_of read
  lines_are read left text r = sym (r.lines left) ∙ ap lines_of (sym r.split)

  -- some first lines: those that are answered, and the first of those that are left
  first_lines_are : (read left text : List ℕ) (r : Running a b read left text) (n : ℕ) → lines_of r.whole ++ take n (lines_of left) ≡ take (length (lines_of r.whole) + n) (lines_of read)
  first_lines_are read left text r n = sym (take-append-add (lines_of r.whole) (lines_of left) n) ∙ ap (take (length (lines_of r.whole) + n)) (lines_are read left text r)

  -- the text of what was answered and of what then is
  text_of-after : (read left text : List ℕ) (r : Running a b read left text) (s : Script) → text ++ text_of s ≡ text_of (after r.done s)
  text_of-after read left text r s = ap (λ w. w ++ text_of s) r.written ∙ sym (concat-append r.done s.answers)

  -- what is played to the lines that are left, after what was answered
  pub plays-all : (read left text : List ℕ) (r : Running a b read left text) (s : Script) → b (lines_of left) s → a (lines_of read) (after r.done s)
  plays-all read left text r s p = subst (λ w. a w (after r.done s)) (lines_are read left text r) (r.answered (lines_of left) s p)

  plays-some : (read left text : List ℕ) (r : Running a b read left text) (n : ℕ) (s : Script) → b (take n (lines_of left)) s → a (take (length (lines_of r.whole) + n) (lines_of read)) (after r.done s)
  plays-some read left text r n s p = subst (λ w. a w (after r.done s)) (first_lines_are read left text r n) (r.answered (take n (lines_of left)) s p)

  pub text-later : (read left text more : List ℕ) (r : Running a b read left text) (s : Script) → more ≡ text_of s → text ++ more ≡ text_of (after r.done s)
  text-later read left text more r s e = ap (λ w. text ++ w) e ∙ text_of-after read left text r s

  pub Begins-later : (read left text more : List ℕ) → Running a b read left text → Begins b left more → Begins a read (text ++ more)
  Begins-later read left text more r s = (length (lines_of r.whole) + s.0, after r.done s.1, plays-some read left text r s.0 s.1 s.2, text-later read left text more r s.1 s.3)

  pub Begins-now : (read left text : List ℕ) → b [] silence → Running a b read left text → Begins a read text
  Begins-now read left text quiet r = subst (Begins a read) (append-nil text) (Begins-later read left text [] r (0, silence, quiet, refl))

  pub Cuts-later : (read left text more : List ℕ) → Running a b read left text → Cuts b left more → Cuts a read (text ++ more)
  Cuts-later read left text more r s = (
    length (lines_of r.whole) + s.0,
    after r.done s.1,
    plays-some read left text r s.0 s.1 s.2,
    (s.3.0, sym (text_of-after read left text r s.1) ∙ ap (λ w. text ++ w) s.3.1 ∙ sym (append_assoc text more s.3.0)),
  )

  pub Finishes-later : (read left text more : List ℕ) → Running a b read left text → Finishes b left more → Finishes a read (text ++ more)
  Finishes-later read left text more r s = (after r.done s.0, plays-all read left text r s.0 s.1, text-later read left text more r s.0 s.2, s.3)

  -- a bad line with its LF
  pub Finishes-line : (line rest text : List ℕ) → IsOneLine line → TakesLine End text a b line → Finishes a (line ++ 10 ∷ rest) text
  Finishes-line line rest text one taken = (last_word text, subst (λ w. a w (last_word text)) (sym (lines_of-line line rest one)) (taken (lines_of rest)), sym (append-nil text), refl)

  -- a bad last line
  pub Finishes-last : (line text : List ℕ) → lines_of line ≡ line ∷ [] → TakesLine End text a b line → Finishes a line text
  Finishes-last line text one taken = (last_word text, subst (λ w. a w (last_word text)) (sym one) (taken []), sym (append-nil text), refl)

  pub StopsBy-later : (read left text more : List ℕ) (e : _) → Running a b read left text → StopsBy e b left more → StopsBy e a read (text ++ more)
  StopsBy-later read left text more Read r s = s
  StopsBy-later read left text more Write r s = Cuts-later read left text more r s
  StopsBy-later read left text more NoMemory r s = Begins-later read left text more r s
