-- The lines of a text, one after another, and what they say.
use Rattle.std.proofs.Common.{◌≡◌, ◌∙◌, ℕ, ◌+◌, Bool, true, false, List, [], ◌∷◌, ◌++◌, map, filter, cond, Some, ap, refl, sym}
use Rattle.squall_protocol.specs.declared.event.Node.{Node}
use Rattle.squall_judge.specs.declared.log.Entry.{Entry}
use Rattle.squall_cli_lines.specs.Lines.{lines_of}
use Rattle.squall_cli_lines.specs.Words.{words_of, without_cr}
use Rattle.squall_cli_audit.specs.LogLines.{entry_of}
use Rattle.squall_cli_audit.specs.LogTexts.{is_remark, numbered, is_filled, filled_lines, Says}

-- ---- the next line

filled_by : (n : ℕ) (line : List ℕ) (lines : List (List ℕ)) (b : Bool) → is_remark (words_of (without_cr line)) ≡ b → filter is_filled (numbered n (map without_cr (line ∷ lines))) ≡ cond b (filter is_filled (numbered (n + 1) (map without_cr lines))) ((n, without_cr line) ∷ filter is_filled (numbered (n + 1) (map without_cr lines)))
filled_by n line lines true e = rw e refl
filled_by n line lines false e = rw e refl

-- a line that says nothing is passed over
pub passes_over : (n : ℕ) (text line others : List ℕ) → lines_of text ≡ line ∷ lines_of others → is_remark (words_of (without_cr line)) ≡ true → filled_lines n text ≡ filled_lines (n + 1) others
passes_over n text line others e r = ap (λ ls. filter is_filled (numbered n (map without_cr ls))) e ∙ filled_by n line (lines_of others) true r

-- any other line is the next
pub is_next : (n : ℕ) (text line others : List ℕ) → lines_of text ≡ line ∷ lines_of others → is_remark (words_of (without_cr line)) ≡ false → filled_lines n text ≡ (n, without_cr line) ∷ filled_lines (n + 1) others
is_next n text line others e r = ap (λ ls. filter is_filled (numbered n (map without_cr ls))) e ∙ filled_by n line (lines_of others) false r

-- a text without a byte has no line
pub no_line : (n : ℕ) (text : List ℕ) → text ≡ [] → filled_lines n text ≡ []
no_line n text e = ap (filled_lines n) e

-- ---- entries

-- no line says no entry
pub none_said : (m : Node) → Says m [] [] []
none_said m = record { said = refl; counted = refl }

map_end : {A B : Type 0} (f : A → B) (xs : List A) (x : A) → map f (xs ++ x ∷ []) ≡ map f xs ++ f x ∷ []
map_end f [] x = refl
map_end f (y ∷ ys) x = ap (λ l. f y ∷ l) (map_end f ys x)

-- one more line says one more entry
pub one_more : (m : Node) (lines : List (ℕ × List ℕ)) (entries : List Entry) (numbers : List ℕ) (n : ℕ) (line : List ℕ) (entry : Entry) → Says m lines entries numbers → entry_of m line ≡ Some entry → Says m (lines ++ (n, line) ∷ []) (entries ++ entry ∷ []) (numbers ++ n ∷ [])
one_more m lines entries numbers n line entry h e =
    record {
      said = map_end (λ (l : ℕ × List ℕ). entry_of m l.1) lines (n, line) ∙ (ap (λ l. l ++ entry_of m line ∷ []) h.said ∙ (ap (λ o. map Some entries ++ o ∷ []) e ∙ sym (map_end Some entries entry)));
      counted = map_end (λ (l : ℕ × List ℕ). l.0) lines (n, line) ∙ ap (λ l. l ++ n ∷ []) h.counted;
    }

append_one : {A : Type 0} (xs ys : List A) (x : A) → xs ++ x ∷ ys ≡ (xs ++ x ∷ []) ++ ys
append_one [] ys x = refl
append_one (z ∷ zs) ys x = ap (λ l. z ∷ l) (append_one zs ys x)

-- the lines that were taken grow by the next
pub taken_grows : (all before rest after : List (ℕ × List ℕ)) (n : ℕ) (line : List ℕ) → all ≡ before ++ rest → rest ≡ (n, line) ∷ after → all ≡ (before ++ (n, line) ∷ []) ++ after
taken_grows all before rest after n line e f = e ∙ (ap (λ l. before ++ l) f ∙ append_one before after (n, line))

append_none : {A : Type 0} (xs : List A) → xs ++ [] ≡ xs
append_none [] = refl
append_none (x ∷ xs) = ap (λ l. x ∷ l) (append_none xs)

-- all lines were taken once none is left
pub all_taken : (all before rest : List (ℕ × List ℕ)) → all ≡ before ++ rest → rest ≡ [] → before ≡ all
all_taken all before rest e f = sym (e ∙ (ap (λ l. before ++ l) f ∙ append_none before))

-- the entries that were read are one more
pub says_more : (m : Node) (lines : List (ℕ × List ℕ)) (entries es : List Entry) (numbers ns : List ℕ) (n : ℕ) (line : List ℕ) (entry : Entry) → Says m lines entries numbers → entry_of m line ≡ Some entry → es ≡ entries ++ entry ∷ [] → ns ≡ numbers ++ n ∷ [] → Says m (lines ++ (n, line) ∷ []) es ns
says_more m lines entries es numbers ns n line entry h e p q = rw (p, q) (one_more m lines entries numbers n line entry h e)
