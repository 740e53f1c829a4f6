-- Routers that heard the same.
use Rattle.std.specs.Prelude.{◌≡◌, List, refl}
use Rattle.std.proofs.Common.{subst}
use Rattle.squall_key.specs.Keys.{top}
use Rattle.squall_plan.specs.declared.range.PlanRange.{PlanRange}
use Rattle.squall_report.specs.Told.{SameTold}
use Rattle.squall_board.specs.Boards.{IsBoard, told}
use Rattle.squall_board.specs.BoardLaws.{same_board}
use Rattle.squall_table.specs.TableLaws.{one_list}
use Rattle.squall_router.specs.Routers.{RouterValue, router_with, route_of_router, IsTableOf}

pub same_routers : (x y : RouterValue) → IsBoard x.board → IsBoard y.board → x.first ≡ y.first → SameTold (told x.board) (told y.board) → x ≡ y
same_routers x y is_x is_y firsts same =
    let boards : x.board ≡ y.board = same_board x.board y.board is_x.nested is_y.nested same in
    λ i. router_with (firsts i) (boards i)

pub same_tables : (x y : RouterValue) → x ≡ y → (ls ms : List PlanRange) → IsTableOf x ls → IsTableOf y ms → ls ≡ ms
same_tables x y same ls ms a b = one_list (route_of_router y) (route_of_router y) 0 top ls ms (λ k from below. refl) (subst (λ z. IsTableOf z ls) same a) b
