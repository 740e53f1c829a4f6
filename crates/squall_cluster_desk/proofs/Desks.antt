-- A step that only adds to the published list keeps the rule of the desk.
use Rattle.std.proofs.Common.{◌≡◌, ℕ, List, [], ◌∷◌, ◌++◌, sym, refl, ap, ◌∙◌, subst, append_assoc, append-nil}
use mathlib.Core.List.{IsPrefix}
use Rattle.left_right.specs.Register.{Admits, TurnsAt}
use Rattle.logbook.specs.Pages.{Book}
use Rattle.squall_course.specs.Change.{Change}
use Rattle.squall_board.specs.Boards.{BoardValue, board_join}
use Rattle.squall_router.specs.Routers.{RouterValue, router_with}
use Rattle.squall_cluster_inbox.specs.Letters.{Allowance, AreLetters, board_after}
use Rattle.squall_cluster_desk.specs.Track.{Run}
use Rattle.squall_cluster_desk.specs.Desk.{Shows, Looks}
use Rattle.squall_cluster_desk.proofs.Views.{all_set, all_back}

pub board_after-snoc : (opening : BoardValue) (xs : List BoardValue) (x : BoardValue) → board_after opening (xs ++ x ∷ []) ≡ board_join (board_after opening xs) x
board_after-snoc opening [] x = refl
board_after-snoc opening (y ∷ ys) x = board_after-snoc (board_join opening y) ys x

pub prefix_self : (xs : List BoardValue) → IsPrefix xs xs
prefix_self xs = ([], append-nil xs)

pub prefix_trans : (xs ys zs : List BoardValue) → IsPrefix xs ys → IsPrefix ys zs → IsPrefix xs zs
prefix_trans xs ys zs p q = (p.0 ++ q.0, sym (append_assoc xs p.0 q.0) ∙ (ap (λ w. w ++ q.0) p.1 ∙ q.1))

module _ {T : Type 0} (allowed : Allowance) (book : Book) (first : Change) (opening : BoardValue) (router : T → RouterValue) (run : T → Run) where
  pub starts : (x : T) → (run x).book ≡ book → router x ≡ router_with first opening → (run x).log ≡ [] → Shows allowed book first opening (router x) (run x) ([] ∷ [])
  starts x of_book is none = (subst (AreLetters allowed) (sym none) tt, of_book, is ∙ ap (λ l. router_with first (board_after opening l)) (sym none), all_back (λ j u. IsPrefix u (run x).log) [] [] ((run x).log, refl) (λ j u e. cc))

  pub admits : Admits (λ (x : T). Shows allowed book first opening (router x) (run x)) []
  admits x views h = (h.0, h.1, h.2, all_back (λ j u. IsPrefix u (run x).log) views [] ((run x).log, refl) h.3)

  pub rises : (seat : ℕ) (v : List BoardValue) (x y : T) → IsPrefix (run x).log (run y).log → (AreLetters allowed (run x).log → AreLetters allowed (run y).log) → ((run x).book ≡ book → (run y).book ≡ book)
      → (router x ≡ router_with first (board_after opening (run x).log) → router y ≡ router_with first (board_after opening (run y).log))
      → TurnsAt (λ (x : T). Shows allowed book first opening (router x) (run x)) seat v x y (λ v x y w. Looks allowed book first opening v (router y) (run y) w)
  rises seat v x y up may same is views h at = (
    (run y).log,
    (may h.0, same h.1, is h.2, all_set (λ j u. IsPrefix u (run y).log) views seat (run y).log (prefix_self (run y).log) (λ j u apart e. prefix_trans u (run x).log (run y).log (h.3 j u e) up)),
    (may h.0, refl, prefix_trans v (run x).log (run y).log (h.3 seat v at) up, same h.1, is h.2),
  )
