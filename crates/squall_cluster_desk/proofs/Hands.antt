-- The letter in hand, and what is shown once it was absorbed.
use Rattle.std.proofs.Common.{◌≡◌, ◌+◌, ◌<◌, ◌≤◌, List, [], ◌∷◌, ◌++◌, length, Option, Some, None, Bool, true, false, true≢false, suc, refl, sym, ap, ◌∙◌, subst, arith, append-nil, length-append, is_some, IsTrue, MatchBool, MatchResult, OnErr, Result, Ok, Err, fold}
use Rattle.logbook.specs.Pages.{Book}
use Rattle.squall_course.specs.Change.{Change}
use Rattle.squall_board.specs.Boards.{BoardValue, board_join}
use Rattle.squall_router.specs.Routers.{RouterValue, router_with}
use Rattle.squall_cluster_inbox.specs.Letters.{Allowance, IsLetter, AreLetters, board_after}
use Rattle.squall_cluster_inbox.proofs.Lists.{letters_snoc}
use Rattle.squall_cluster_desk.specs.declared.shown.Entry.{Entry}
use Rattle.squall_cluster_desk.specs.Hand.{listed, letters, Follows}
use Rattle.squall_cluster_desk.specs.Track.{Run}
use Rattle.squall_cluster_desk.proofs.Desks.{board_after-snoc}

pub length-letters : (xs : List Entry) → length (letters xs) ≡ length xs
length-letters [] = refl
length-letters (x ∷ xs) = ap suc (length-letters xs)

pub waits_none : (pend : List Entry) (h : Option Entry) → (0 < length pend → ⊥) → is_some h ≡ false → letters (pend ++ listed h) ≡ []
waits_none [] None n s = refl
waits_none [] (Some e) n s = absurd (true≢false s)
waits_none (x ∷ xs) h n s = absurd (n (omega arith))

pub waits_held : (pend : List Entry) (h : Option Entry) → length (pend ++ listed h) ≤ 1 → is_some h ≡ true → length (letters (pend ++ listed h)) ≡ 1
waits_held pend None le s = absurd (true≢false (sym s))
waits_held pend (Some e) le s = let a = length-letters (pend ++ e ∷ []) in let b : length (pend ++ e ∷ []) ≡ length pend + 1 = omega (arith, length-append pend (e ∷ [])) in omega arith

pub waits_pending : (pend : List Entry) (h : Option Entry) → length (pend ++ listed h) ≤ 1 → 0 < length pend → length (letters (pend ++ listed h)) ≡ 1
waits_pending pend h le lt = let a = length-letters (pend ++ listed h) in let b = length-append pend (listed h) in omega arith

pub one_waits : (all : List Entry) → length all ≤ 1 → 0 < length all → length (letters all) ≡ 1
one_waits all le lt = let a = length-letters all in omega arith

pub on_err : {A E : Type 0} (r : Result A E) (P : Type 0) → P → OnErr r P
on_err (Ok x) P p = tt
on_err (Err e) P p = p

pub waits_said : (b : Bool) (pend : List Entry) (h : Option Entry) → (IsTrue b → 0 < length pend) → (0 < length pend → IsTrue b) → is_some h ≡ false → length (pend ++ listed h) ≤ 1
    → MatchBool b (length (letters (pend ++ listed h)) ≡ 1) (letters (pend ++ listed h) ≡ [])
waits_said true pend h f g s le = waits_pending pend h le (f refl)
waits_said false pend h f g s le = waits_none pend h (λ lt. true≢false (sym (g lt))) s

-- one letter more in hand, if none was
pub alone : (pend : List Entry) (e : Entry) → pend ≡ [] → letters (pend ++ e ∷ []) ≡ e.letter ∷ []
alone pend e empty = ap (λ (p : List Entry). letters (p ++ e ∷ [])) empty

pub alone_follows : (allowed : Allowance) (book : Book) (log : List BoardValue) (pend : List Entry) (e : Entry) → pend ≡ [] → IsLetter allowed e.letter → e.prefix.book ≡ book → e.prefix.log ≡ log ++ e.letter ∷ [] → Follows allowed book log (pend ++ e ∷ [])
alone_follows allowed book log pend e empty may of_book is = subst (λ (p : List Entry). Follows allowed book log (p ++ e ∷ [])) (sym empty) (may, of_book, is, tt)

pub alone_one : (pend : List Entry) (e : Entry) → pend ≡ [] → length (pend ++ e ∷ []) ≤ 1
alone_one pend e empty = let a : length (pend ++ e ∷ []) ≡ 1 = ap (λ (p : List Entry). length (p ++ e ∷ [])) empty in omega arith

-- no letter waits
pub idle : (pend : List Entry) (h : Option Entry) → letters (pend ++ listed h) ≡ [] → (pend ≡ []) × (h ≡ None)
idle [] None e = (refl, refl)
idle [] (Some x) e = absurd cc
idle (x ∷ xs) h e = absurd cc

-- what is shown once one pending entry was absorbed
pub next_is : (allowed : Allowance) (book : Book) (router next_router : RouterValue) (run next : Run) (pend : List Entry) → length pend ≡ 1 → Follows allowed book run.log pend
    → (next_router, next) ≡ fold (λ (t : RouterValue × Run) (x : Entry). (router_with t.0.first (board_join t.0.board x.letter), x.prefix)) (router, run) pend
    → (next.book ≡ book) × (next.log ≡ run.log ++ letters pend)
    × ((first : Change) (opening : BoardValue) → router ≡ router_with first (board_after opening run.log) → next_router ≡ router_with first (board_after opening next.log))
    × (AreLetters allowed run.log → AreLetters allowed next.log)
next_is allowed book router next_router run next [] one f e = absurd (omega arith)
next_is allowed book router next_router run next (x ∷ []) one f e =
    let same : next ≡ x.prefix = ap (λ (t : RouterValue × Run). t.1) e in
    let log : next.log ≡ run.log ++ x.letter ∷ [] = ap (λ (r : Run). r.log) same ∙ f.2 in (
      ap (λ (r : Run). r.book) same ∙ f.1,
      log,
      λ first opening is. ap (λ (t : RouterValue × Run). t.0) e ∙ ap (λ (r : RouterValue). router_with r.first (board_join r.board x.letter)) is
          ∙ ap (router_with first) (sym (board_after-snoc opening run.log x.letter) ∙ ap (board_after opening) (sym log)),
      λ old. subst (AreLetters allowed) (sym log) (letters_snoc allowed run.log x.letter old f.0),
    )
next_is allowed book router next_router run next (x ∷ y ∷ ys) one f e = absurd (omega arith)

pub match_map : {A E : Type 0} (r : Result A E) (P P' : A → Type 0) (Q Q' : E → Type 0) → MatchResult r P Q → ((x : A) → P x → P' x) → ((x : E) → Q x → Q' x) → MatchResult r P' Q'
match_map (Ok x) P P' Q Q' h f g = f x h
match_map (Err x) P P' Q Q' h f g = g x h

-- nothing is pending, so nothing was in hand
pub nothing_pending : (b : Bool) (log : List BoardValue) (pend pend' : List Entry) (h : Option Entry) → pend' ≡ pend ++ listed h → (0 < length pend' → IsTrue b) → b ≡ false → log ≡ log ++ letters (pend ++ listed h)
nothing_pending b log pend pend' h is told said =
    let none : pend' ≡ [] = empty_of pend' (λ lt. true≢false (sym (told lt) ∙ said)) in
    sym (append-nil log) ∙ ap (λ (p : List Entry). log ++ letters p) (sym none ∙ is)
  where
    empty_of : (xs : List Entry) → (0 < length xs → ⊥) → xs ≡ []
    empty_of [] h = refl
    empty_of (x ∷ xs) h = absurd (h (omega arith))
