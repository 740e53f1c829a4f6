-- Files that are read one after the other.
use Rattle.std.proofs.Common.{◌≡◌, ◌⊎◌, inl, inr, ℕ, ◌+◌, ◌<◌, List, [], ◌∷◌, ◌++◌, length, take, drop, Bool, true, false, ◌&&◌, ◌||◌, Option, refl, sym, subst, ap, ◌∙◌}
use Rattle.std.proofs.KnownBytes.{Consumes-nil, Consumes-trans}
use Rattle.std.proofs.lemmas.Bool.{false≢true, or_parts}
use Rattle.std.proofs.lemmas.List.{append-nil, map-append, length-map, get_or-map, take_more, take-append-drop}
use Rattle.std.proofs.lemmas.List.Elements.{All-append, All-cons, All-nil}
use Rattle.std.proofs.lemmas.List.Folds.{list_any-append, list_all-map, list_all_at}
use Rattle.std.proofs.lemmas.Grind.{flat_map-append}
use Rattle.std.specs.Prelude.{Contains, MatchBool, map, slice_index_or, if◌then◌else◌}
use Rattle.std.specs.List.{list_all, list_any}
use Rattle.std.specs.Io.KnownBytes.{Consumes, IsAtEnd}
use Rattle.squall_cli_lines.specs.Script.{IsPrefix}
use Rattle.squall_cli_boards.specs.Files.{FileValue, file_with}
use Rattle.squall_cli_ask.specs.Files.{KnownFile, is_input}
use Rattle.squall_cli_ask.specs.Gathered.{bytes_of_input, input_bytes, IsWhole, IsReadOnce, AreRead, IsNextRead, TakesSome}

-- no file was read
pub none_read : (known : List ℕ → KnownFile) (i : Option (List ℕ)) → AreRead known i i [] []
none_read known i = record { named = refl; whole = All-nil (IsWhole known); input = Consumes-nil i; ended = λ e. absurd (false≢true e); once = tt }

-- what was read of a file, if it is standard input
pub takes_some : (t : Bool) (i j : Option (List ℕ)) (read : List ℕ) (Q : Type 0) → MatchBool t (Consumes i j read) Q → (t ≡ false → j ≡ i) → TakesSome i j
takes_some true i j read Q h kept = (read, h)
takes_some false i j read Q h kept = ([], subst (λ m. Consumes i m []) (sym (kept refl)) (Consumes-nil i))

-- and after other files
pub takes_more : (i j k : Option (List ℕ)) (read : List ℕ) → Consumes i j read → TakesSome j k → TakesSome i k
takes_more i j k read first more = (read ++ more.0, Consumes-trans i j k read more.0 first more.1)

-- the front of a text
pub front : (text whole : List ℕ) (n : ℕ) → text ≡ whole → IsPrefix (take n text) whole
front text whole n is = (drop n text, sym is ∙ sym (take-append-drop n text))

-- the names up to the next one
pub next_names : {X : Type 0} (f : X → List ℕ) (xs : List X) (n : ℕ) (x : X) → n < length xs → x ≡ slice_index_or xs n x
    → map f (take (n + 1) xs) ≡ map f (take n xs) ++ f x ∷ []
next_names f xs n x below is = ap (map f) (take_more xs n x below ∙ ap (λ y. take n xs ++ y ∷ []) (sym is)) ∙ map-append f (take n xs) (x ∷ [])

-- the next name is one of the names
pub contains_next : {X : Type 0} (f : X → List ℕ) (xs : List X) (n : ℕ) (x : X) (name file : List ℕ) → n < length xs → x ≡ slice_index_or xs n x → name ≡ f x
    → file ≡ name → Contains (map f xs) file
contains_next f xs n x name file below is text same = subst (Contains (map f xs)) (sym text ∙ sym same)
    (n, subst (λ m. n < m) (sym (length-map xs f)) below, get_or-map f xs n x (f x) below ∙ ap f (sym is))

-- a name that does not pass
pub not_all : {X : Type 0} (f : X → List ℕ) (p : List ℕ → Bool) (xs : List X) (n : ℕ) (x : X) (name : List ℕ) → n < length xs → x ≡ slice_index_or xs n x → name ≡ f x
    → p name ≡ false → list_all p (map f xs) ≡ false
not_all f p xs n x name below is text e = list_all-map p f xs ∙ list_all_at (λ y. p (f y)) xs n x below (ap (λ y. p (f y)) (sym is) ∙ ap p (sym text) ∙ e)

-- if no name passes, then neither the next one does nor one before it
pub none_named : {X : Type 0} (f : X → List ℕ) (p : List ℕ → Bool) (xs : List X) (n : ℕ) (x : X) (name : List ℕ) → n < length xs → x ≡ slice_index_or xs n x → name ≡ f x
    → list_any p (map f xs) ≡ false → (list_any p (map f (take n xs)) ≡ false) × (p name ≡ false)
none_named f p xs n x name below is text none =
    let old = take (n + 1) xs in
    let rest = drop (n + 1) xs in
    let split = sym (ap (λ ys. list_any p (map f ys)) (take-append-drop (n + 1) xs)) ∙ ap (list_any p) (map-append f old rest) ∙ list_any-append p (map f old) (map f rest) in
    let front = (or_parts (list_any p (map f old)) (list_any p (map f rest)) (sym split ∙ none)).0 in
    let last = ap (list_any p) (next_names f xs n x below is) ∙ list_any-append p (map f (take n xs)) (f x ∷ []) in
    let both = or_parts (list_any p (map f (take n xs))) (p (f x) || false) (sym last ∙ front) in
    (both.0, ap p text ∙ (or_parts (p (f x)) false both.1).0)

-- what holds of standard input after one more file, by whether it was named before
pub taken_next : (taken : Bool) (names more : List (List ℕ)) (name : List ℕ) → taken ≡ list_any is_input names → more ≡ names ++ name ∷ []
    → (taken || is_input name) ≡ list_any is_input more
taken_next taken names more name is more_is = ap (λ t. t || is_input name) is ∙ or_last (list_any is_input names) (is_input name)
    ∙ sym (list_any-append is_input names (name ∷ [])) ∙ ap (list_any is_input) (sym more_is)
  where
    or_last : (t u : Bool) → (t || u) ≡ (t || (u || false))
    or_last true u = refl
    or_last false true = refl
    or_last false false = refl

pub kept_next : {D : Type 0} (a b c : D) (taken t r : Bool) → r ≡ (taken || t) → (taken ≡ false → b ≡ a) → (t ≡ false → c ≡ b) → r ≡ false → c ≡ a
kept_next a b c true t r is first next e = absurd (false≢true (sym e ∙ is))
kept_next a b c false t r is first next e = next (sym is ∙ e) ∙ first refl

pub ended_next : {D : Type 0} (F : D → D → Type 0) (a b c : D) (taken t r : Bool) → r ≡ (taken || t) → (taken ≡ false → b ≡ a) → (taken ≡ true → F a b)
    → (taken ≡ true → c ≡ b) → (t ≡ true → taken ≡ false → F b c) → r ≡ true → F a c
ended_next F a b c true t r is same old kept new e = subst (F a) (sym (kept refl)) (old refl)
ended_next F a b c false t r is same old kept new e = subst (λ d. F d c) (same refl) (new (sym is ∙ e) refl)

-- a fault that came at the next file
pub device_next : {D : Type 0} (F : D → Type 0) (Q : Type 0) (a b : D) (taken : Bool) (R : Type 0) → (taken ≡ false → b ≡ a) → (R → Q) → ((taken ≡ false) × F b) ⊎ R → F a ⊎ Q
device_next F Q a b taken R same other (inl fails) = inl (subst F (same fails.0) fails.1)
device_next F Q a b taken R same other (inr r) = inr (other r)

-- ---- standard input is read once

first_once : (t b : Bool) (P : Type 0) → (((t || false) && b) ≡ true → P) → (t && b) ≡ true → P
first_once true b P last e = last e
first_once false b P last e = last e

more_once : (t a b c : Bool) (P : Type 0) → (((t || (a || b)) && c) ≡ true → P) → (((t || a) || b) && c) ≡ true → P
more_once true a b c P last e = last e
more_once false a b c P last e = last e

once_more : (t : Bool) (files : List FileValue) (f : FileValue) → IsReadOnce t files
    → (((t || list_any is_input (map (λ g. g.name) files)) && is_input f.name) ≡ true → f.bytes ≡ []) → IsReadOnce t (files ++ f ∷ [])
once_more t [] f once last = (first_once t (is_input f.name) (f.bytes ≡ []) last, tt)
once_more t (g ∷ gs) f once last = (
  once.0,
  once_more (t || is_input g.name) gs f once.1
      (more_once t (is_input g.name) (list_any is_input (map (λ h. h.name) gs)) (is_input f.name) (f.bytes ≡ []) last),
)

-- ---- one more file

abbrev of_input : Bool → List ℕ → List ℕ
of_input t bytes = if t then bytes else []

next_consumed : (t taken : Bool) (j k : Option (List ℕ)) (bytes : List ℕ) → (t ≡ false → k ≡ j) → (t ≡ true → taken ≡ false → Consumes j k bytes)
    → (t ≡ true → taken ≡ true → (bytes ≡ []) × (k ≡ j)) → Consumes j k (of_input t bytes)
next_consumed false taken j k bytes other first again = subst (λ m. Consumes j m []) (sym (other refl)) (Consumes-nil j)
next_consumed true false j k bytes other first again = first refl refl
next_consumed true true j k bytes other first again =
    let a = again refl refl in
    subst (λ m. Consumes j m bytes) (sym a.1) (subst (λ w. Consumes j j w) (sym a.0) (Consumes-nil j))

next_ended : (t taken : Bool) (j k : Option (List ℕ)) → (t ≡ false → k ≡ j) → (t ≡ true → taken ≡ false → IsAtEnd k) → (t ≡ true → taken ≡ true → k ≡ j)
    → (taken ≡ true → IsAtEnd j) → (taken || (t || false)) ≡ true → IsAtEnd k
next_ended false true j k other first again ended e = subst IsAtEnd (sym (other refl)) (ended refl)
next_ended false false j k other first again ended e = absurd (false≢true e)
next_ended true false j k other first again ended e = first refl refl
next_ended true true j k other first again ended e = subst IsAtEnd (sym (again refl refl)) (ended refl)

next_empty : (t taken : Bool) (bytes : List ℕ) → (t ≡ true → taken ≡ true → bytes ≡ []) → (taken && t) ≡ true → bytes ≡ []
next_empty false false bytes again e = absurd (false≢true e)
next_empty true false bytes again e = absurd (false≢true e)
next_empty false true bytes again e = absurd (false≢true e)
next_empty true true bytes again e = again refl refl

module _ (known : List ℕ → KnownFile) (i j k : Option (List ℕ)) (names : List (List ℕ)) (files : List FileValue) (taken : Bool) (name bytes : List ℕ)
    (named : taken ≡ list_any is_input names) (read : AreRead known i j names files) (next : IsNextRead known j k taken name bytes) where
  consumed : Consumes j k (input_bytes (file_with name bytes ∷ []))
  consumed = subst (Consumes j k) (sym (append-nil (of_input (is_input name) bytes)))
      (next_consumed (is_input name) taken j k bytes (λ e. (next.file e).1) (λ e f. (next.first e f).0) next.again)

  pub read_more : AreRead known i k (names ++ name ∷ []) (files ++ file_with name bytes ∷ [])
  read_more = record {
    named = map-append (λ f. f.name) files (file_with name bytes ∷ []) ∙ ap (λ w. w ++ name ∷ []) read.named;
    whole = All-append (IsWhole known) files (file_with name bytes ∷ []) read.whole
        (All-cons (IsWhole known) (file_with name bytes) [] (λ e. (next.file e).0) (All-nil (IsWhole known)));
    input = subst (Consumes i k) (sym (flat_map-append bytes_of_input files (file_with name bytes ∷ [])))
        (Consumes-trans i j k (input_bytes files) (input_bytes (file_with name bytes ∷ [])) read.input consumed);
    ended = λ e. next_ended (is_input name) taken j k (λ f. (next.file f).1) (λ f g. (next.first f g).1) (λ f g. (next.again f g).1)
        (λ f. read.ended (sym named ∙ f)) (ap (λ t. t || (is_input name || false)) named ∙ sym (list_any-append is_input names (name ∷ [])) ∙ e);
    once = once_more false files (file_with name bytes) read.once
        (λ e. next_empty (is_input name) taken bytes (λ f g. (next.again f g).0)
        (ap (λ t. t && is_input name) (named ∙ ap (list_any is_input) (sym read.named)) ∙ e));
  }
