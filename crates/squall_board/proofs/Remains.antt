-- What is left of a board beyond another.
use Rattle.std.proofs.Common.{◌≡◌, sym, ap, subst, ◌∙◌}
use Rattle.squall_report.specs.Told.{TellsAll}
use Rattle.squall_board.specs.Boards.{BoardValue, empty_board, board_join, told, IsBoard}
use Rattle.squall_board.specs.BoardBeyond.{TellsBeyond, board_beyond}
use Rattle.squall_board.specs.BoardBeyondLaws.{board_beyond_laws, beyond_tells, beyond_is, rest_of_covered}
use Rattle.squall_board.proofs.Merged.{covers_all, all_covered}

module _ (c x y z w : BoardValue) (e : c ≡ board_beyond x y) (p : x ≡ z) (q : y ≡ w) (a : IsBoard x) (b : IsBoard y) where
  pub rest_tells : TellsBeyond z w c
  rest_tells = subst (λ v. TellsBeyond v w c) p (subst (λ v. TellsBeyond x v c) q (subst (TellsBeyond x y) (sym e) (beyond_tells x y a.nested b.nested)))

  pub rest_joined : board_join c w ≡ board_join z w
  rest_joined = subst (λ v. board_join c v ≡ board_join z v) q (subst (λ v. board_join c y ≡ board_join v y) p (ap (λ v. board_join v y) e ∙ board_beyond_laws.joined x y a.nested b.nested))

  pub rest_at_most : TellsAll (told z) (told c)
  rest_at_most = subst (λ v. TellsAll (told v) (told c)) p (subst (λ v. TellsAll (told x) (told v)) (sym e) (covers_all x (board_beyond x y) a (beyond_is x y a b) (board_beyond_laws.at_most x y a.nested b.nested)))

pub covered_rest : (a b c : BoardValue) → IsBoard a → IsBoard b → IsBoard c → TellsAll (told b) (told a) → TellsBeyond a b c → c ≡ empty_board
covered_rest a b c x y z all p = rest_of_covered a b c x y z (all_covered b a y x all) p
