-- What a router has heard once it has taken what a delta tells beyond its board.
use Rattle.std.specs.Prelude.{◌≡◌, Result, OnOk}
use Rattle.std.proofs.Common.{ap, ◌∙◌, sym}
use Rattle.std.proofs.lemmas.Result.{on_ok_weaker}
use Rattle.squall_course.specs.Change.{Change}
use Rattle.squall_board.specs.Boards.{BoardValue, IsBoard, board_join, told}
use Rattle.squall_board.specs.BoardLaws.{board_laws}
use Rattle.squall_board.specs.Takes.{TakesBoard}
use Rattle.squall_board.specs.TakesLaws.{took, same_told}
use Rattle.squall_router.specs.Routers.{RouterValue, router_with}

-- what the delta tells beyond the board joins it as the delta does
rest_joins : (b news delta : BoardValue) → IsBoard b → IsBoard news → IsBoard delta → board_join news b ≡ board_join delta b → board_join b news ≡ board_join b delta
rest_joins b news delta is_b is_news is_delta joined = board_laws.comm b news is_b.nested is_news.nested ∙ joined ∙ board_laws.comm delta b is_delta.nested is_b.nested

-- the router that a proof has open takes the delta if its board joins the news
pub took_delta : {T E : Type 0} (r : Result T E) (new b news delta : BoardValue) (s : RouterValue) (first : Change) → router_with first b ≡ s → IsBoard b → IsBoard news → IsBoard delta → board_join news b ≡ board_join delta b → OnOk r (new ≡ board_join b news) → OnOk r (TakesBoard s.board delta new)
took_delta r new b news delta s first view is_b is_news is_delta joined ok = took r new b delta s.board (told delta) (ap (λ (x : RouterValue). x.board) view)
    (on_ok_weaker r (λ (e : new ≡ board_join b news). e ∙ rest_joins b news delta is_b is_news is_delta joined) ok)
    is_b is_delta (same_told (told delta))

-- a router that has turned to another course has the board with the news
pub turned : {T E : Type 0} (r : Result T E) (new s : RouterValue) (b news : BoardValue) (first : Change) → router_with first b ≡ s → OnOk r (new ≡ router_with s.first (board_join s.board news)) → OnOk r (new.board ≡ board_join b news)
turned r new s b news first view ok = on_ok_weaker r (λ (e : new ≡ router_with s.first (board_join s.board news)). ap (λ (x : RouterValue). x.board) e ∙ ap (λ (x : RouterValue). board_join x.board news) (sym view)) ok
