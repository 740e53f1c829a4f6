-- The board after letters is the join of all.
use Rattle.std.proofs.Common.{◌≡◌, ◌⊎◌, inl, inr, ⊎_elim, Bool, true, false, true≢false, ◌||◌, List, [], ◌∷◌, ◌++◌, refl, sym, ap, ◌∙◌, subst, arith}
use Rattle.std.specs.List.{Contains}
use Rattle.std.proofs.lemmas.List.Elements.{Contains-append_cases, Contains-append_left, Contains-append_right, Contains-push, Contains-push_cases}
use Rattle.squall_join.specs.Laws.{Covers}
use Rattle.squall_course.specs.Change.{Change}
use Rattle.squall_board.specs.Boards.{BoardValue, IsBoard, board_join, says}
use Rattle.squall_board.specs.BoardLaws.{board_laws, join_is, tells_both}
use Rattle.squall_cluster_inbox.specs.Letters.{Allowance, AreLetters, board_after}
use Rattle.squall_cluster_desk.proofs.Desks.{board_after-snoc}
use Rattle.squall_cluster.specs.Joined.{IsJoinOfAll, AreSameLetters, HasFactsOf, HasAbsorbed, shown_router}

-- ---- covering

trans : (w v u : BoardValue) → IsBoard w → IsBoard v → IsBoard u → Covers board_join w v → Covers board_join v u → Covers board_join w u
trans w v u x y z wv vu =
    ap (λ b. board_join b u) (sym wv) ∙ board_laws.assoc w v u x.nested y.nested z.nested ∙ ap (board_join w) vu ∙ wv

antisym : (w v : BoardValue) → IsBoard w → IsBoard v → Covers board_join w v → Covers board_join v w → w ≡ v
antisym w v x y wv vw = sym wv ∙ board_laws.comm w v x.nested y.nested ∙ vw

covers_second : (a b : BoardValue) → IsBoard a → IsBoard b → Covers board_join (board_join a b) b
covers_second a b x y = board_laws.assoc a b b x.nested y.nested y.nested ∙ ap (board_join a) (board_laws.idem b y.nested)

covers_first : (a b : BoardValue) → IsBoard a → IsBoard b → Covers board_join (board_join a b) a
covers_first a b x y =
    board_laws.comm (board_join a b) a (join_is a b x y).nested x.nested ∙ sym (board_laws.assoc a a b x.nested x.nested y.nested) ∙ ap (λ c. board_join c b) (board_laws.idem a x.nested)

covers_both : (w a b : BoardValue) → IsBoard w → IsBoard a → IsBoard b → Covers board_join w a → Covers board_join w b → Covers board_join w (board_join a b)
covers_both w a b x y z wa wb = sym (board_laws.assoc w a b x.nested y.nested z.nested) ∙ ap (λ c. board_join c b) wa ∙ wb

-- ---- lists

contains_head : {A : Type 0} (x : A) (xs : List A) → Contains (x ∷ xs) x
contains_head x xs = Contains-append_left (x ∷ []) xs x (Contains-push [] x)

contains_tail : {A : Type 0} (y x : A) (xs : List A) → Contains xs x → Contains (y ∷ xs) x
contains_tail y x xs h = Contains-append_right (y ∷ []) xs x h

contains_nil : {A : Type 0} (x : A) → Contains [] x → ⊥
contains_nil x h = let lt = h.1 in absurd (omega arith)

contains_cases : {A : Type 0} (y x : A) (xs : List A) → Contains (y ∷ xs) x → (y ≡ x) ⊎ Contains xs x
contains_cases y x xs h = ⊎_elim (λ a. ⊎_elim (λ e. absurd (contains_nil x e)) (λ e. inl e) (Contains-push_cases [] y x a)) (λ b. inr b) (Contains-append_cases (y ∷ []) xs x h)

-- ---- the join of all

pub after_is : (allowed : Allowance) (b : BoardValue) (xs : List BoardValue) → IsBoard b → AreLetters allowed xs → IsBoard (board_after b xs)
after_is allowed b [] is h = is
after_is allowed b (x ∷ xs) is h = after_is allowed (board_join b x) xs (join_is b x is h.0.0) h.1

joined : (allowed : Allowance) (b : BoardValue) (xs : List BoardValue) → IsBoard b → AreLetters allowed xs → IsJoinOfAll b xs (board_after b xs)
joined allowed b [] is h = record {
  start = board_laws.idem b is.nested;
  letter = λ x at. absurd (contains_nil x at);
  least = λ w v first each. first;
}
joined allowed b (x ∷ xs) is h =
    let one : IsBoard (board_join b x) = join_is b x is h.0.0 in
    let all : IsBoard (board_after (board_join b x) xs) = after_is allowed (board_join b x) xs one h.1 in
    let rest : IsJoinOfAll (board_join b x) xs (board_after (board_join b x) xs) = joined allowed (board_join b x) xs one h.1 in
    record {
      start = trans _ _ _ all one is rest.start (covers_first b x is h.0.0);
      letter = λ y at. ⊎_elim (λ e. subst (λ z. Covers board_join (board_after (board_join b x) xs) z) e (trans _ _ _ all one h.0.0 rest.start (covers_second b x is h.0.0))) (λ t. rest.letter y t) (contains_cases x y xs at);
      least = λ w v first each. rest.least w v (covers_both w b x v is h.0.0 first (each x (contains_head x xs))) (λ y at. each y (contains_tail x y xs at));
    }

pub joined_all : (allowed : Allowance) (b : BoardValue) (xs : List BoardValue) → IsBoard b → AreLetters allowed xs → IsJoinOfAll b xs (board_after b xs)
joined_all = joined

pub any_order : (allowed : Allowance) (b : BoardValue) (xs ys : List BoardValue) → IsBoard b → AreLetters allowed xs → AreLetters allowed ys → AreSameLetters xs ys → board_after b xs ≡ board_after b ys
any_order allowed b xs ys is h k same =
    let one = joined allowed b xs is h in
    let two = joined allowed b ys is k in
    let v = after_is allowed b xs is h in
    let w = after_is allowed b ys is k in
    antisym (board_after b xs) (board_after b ys) v w (two.least (board_after b xs) v one.start (λ x at. one.letter x ((same x).1 at))) (one.least (board_after b ys) w two.start (λ x at. two.letter x ((same x).0 at)))

-- ---- facts

or_cases : (a b : Bool) → (a || b) ≡ true → (a ≡ true) ⊎ (b ≡ true)
or_cases true b e = inl refl
or_cases false b e = inr e

or_left : (a b : Bool) → a ≡ true → (a || b) ≡ true
or_left true b e = refl
or_left false b e = absurd (true≢false (sym e))

or_right : (a b : Bool) → b ≡ true → (a || b) ≡ true
or_right true b e = refl
or_right false b e = e

pub has_facts : (allowed : Allowance) (b : BoardValue) (xs : List BoardValue) → IsBoard b → AreLetters allowed xs → HasFactsOf b xs (board_after b xs)
has_facts allowed b [] is h f = ((λ e. inl e), (λ s. ⊎_elim (λ e. e) (λ t. absurd (contains_nil t.0 t.1)) s))
has_facts allowed b (x ∷ xs) is h f =
    let rest = has_facts allowed (board_join b x) xs (join_is b x is h.0.0) h.1 f in
    let both = (tells_both b x is.nested h.0.0.nested).facts f in (
      (λ e. ⊎_elim
          (λ a. ⊎_elim (λ l. inl l) (λ r. inr (x, contains_head x xs, r)) (or_cases (says b f) (says x f) (sym both ∙ a)))
          (λ t. inr (t.0, contains_tail x t.0 xs t.1, t.2))
          (rest.0 e)),
      (λ s. rest.1 (⊎_elim
          (λ a. inl (both ∙ or_left (says b f) (says x f) a))
          (λ t. ⊎_elim
          (λ e. inl (both ∙ or_right (says b f) (says x f) (subst (λ (z : BoardValue). says z f ≡ true) (sym e) t.2)))
          (λ r. inr (t.0, r, t.2))
          (contains_cases x t.0 xs t.1))
          s)),
    )

-- ---- publishing

pub absorbs : (first : Change) (opening : BoardValue) (published : List BoardValue) (letter : BoardValue) → HasAbsorbed (shown_router first opening published) letter (shown_router first opening (published ++ letter ∷ []))
absorbs first opening published letter = record { first = refl; board = board_after-snoc opening published letter }
