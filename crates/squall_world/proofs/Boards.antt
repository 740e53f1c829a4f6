-- What reports tell together.
use Rattle.std.proofs.Common.{◌≡◌, ℕ, zero, suc, ◌+◌, ◌-◌, ◌≤◌, List, [], ◌∷◌, ◌++◌, length, take, drop, refl, sym, ap, ◌∙◌, arith}
use Rattle.std.specs.List.{AllByRecursion}
use Rattle.squall_report.specs.declared.report.ReportKind.{ReportKind}
use Rattle.squall_report.specs.Issues.{PlanPair}
use Rattle.squall_board.specs.Boards.{BoardValue, IsBoard, empty_board, board_join, report_board}
use Rattle.squall_board.specs.BoardLaws.{board_laws, join_is, empty_is}
use Rattle.squall_world.specs.Nets.{reports_to, reports_board}

abbrev pub AreBoards : List (ReportKind PlanPair) → Type 0
AreBoards ps = AllByRecursion (λ r. IsBoard (report_board r)) ps

-- ---- joins

pub join_assoc : (x y z : BoardValue) → IsBoard x → IsBoard y → IsBoard z → board_join (board_join x y) z ≡ board_join x (board_join y z)
join_assoc x y z a b c = board_laws.assoc x y z a.nested b.nested c.nested

pub join_comm : (x y : BoardValue) → IsBoard x → IsBoard y → board_join x y ≡ board_join y x
join_comm x y a b = board_laws.comm x y a.nested b.nested

pub join_idem : (x : BoardValue) → IsBoard x → board_join x x ≡ x
join_idem x a = board_laws.idem x a.nested

pub join_none : (x : BoardValue) → IsBoard x → board_join x empty_board ≡ x
join_none x a = board_laws.neutral x a.nested

-- a board that covers one that covers another covers that
pub covers_on : (x y z : BoardValue) → IsBoard x → IsBoard y → IsBoard z → board_join x y ≡ x → board_join y z ≡ y → board_join x z ≡ x
covers_on x y z a b c xy yz = ap (λ v. board_join v z) (sym xy) ∙ join_assoc x y z a b c ∙ ap (board_join x) yz ∙ xy

-- it covers two joined where it covers both
pub covers_both : (x y z : BoardValue) → IsBoard x → IsBoard y → IsBoard z → board_join x y ≡ x → board_join x z ≡ x → board_join x (board_join y z) ≡ x
covers_both x y z a b c xy xz = sym (join_assoc x y z a b c) ∙ ap (λ v. board_join v z) xy ∙ xz

-- a join covers each of the two
pub covers_first : (x y : BoardValue) → IsBoard x → IsBoard y → board_join (board_join x y) x ≡ board_join x y
covers_first x y a b = join_comm (board_join x y) x (join_is x y a b) a ∙ sym (join_assoc x x y a a b) ∙ ap (λ v. board_join v y) (join_idem x a)

pub covers_second : (x y : BoardValue) → IsBoard x → IsBoard y → board_join (board_join x y) y ≡ board_join x y
covers_second x y a b = join_assoc x y y a b b ∙ ap (board_join x) (join_idem y b)

-- ---- reports

pub reports_to_is : (b : BoardValue) (ps : List (ReportKind PlanPair)) → IsBoard b → AreBoards ps → IsBoard (reports_to b ps)
reports_to_is b [] is all = is
reports_to_is b (p ∷ ps) is all = reports_to_is (board_join b (report_board p)) ps (join_is b (report_board p) is all.0) all.1

pub reports_is : (ps : List (ReportKind PlanPair)) → AreBoards ps → IsBoard (reports_board ps)
reports_is ps all = reports_to_is empty_board ps empty_is all

pub reports_from : (b : BoardValue) (ps : List (ReportKind PlanPair)) → IsBoard b → AreBoards ps → reports_to b ps ≡ board_join b (reports_board ps)
reports_from b [] is all = sym (join_none b is)
reports_from b (p ∷ ps) is all =
    let c = report_board p in
    let first : board_join empty_board c ≡ c = join_comm empty_board c empty_is all.0 ∙ join_none c all.0 in
    reports_from (board_join b c) ps (join_is b c is all.0) all.1
    ∙ join_assoc b c (reports_board ps) is all.0 (reports_is ps all.1)
    ∙ ap (board_join b) (sym (reports_from c ps all.0 all.1) ∙ ap (λ v. reports_to v ps) (sym first))

reports_past : (b : BoardValue) (ps qs : List (ReportKind PlanPair)) → reports_to b (ps ++ qs) ≡ reports_to (reports_to b ps) qs
reports_past b [] qs = refl
reports_past b (p ∷ ps) qs = reports_past (board_join b (report_board p)) ps qs

pub reports_both : (ps qs : List (ReportKind PlanPair)) → AreBoards ps → AreBoards qs → reports_board (ps ++ qs) ≡ board_join (reports_board ps) (reports_board qs)
reports_both ps qs a b = reports_past empty_board ps qs ∙ reports_from (reports_board ps) qs (reports_is ps a) b

pub reports_more : (ps : List (ReportKind PlanPair)) (p : ReportKind PlanPair) → reports_board (ps ++ p ∷ []) ≡ board_join (reports_board ps) (report_board p)
reports_more ps p = reports_past empty_board ps (p ∷ [])

pub told_take : (k : ℕ) (ps : List (ReportKind PlanPair)) → AreBoards ps → AreBoards (take k ps)
told_take zero ps all = tt
told_take (suc k) [] all = tt
told_take (suc k) (p ∷ ps) all = (all.0, told_take k ps all.1)

pub told_drop : (k : ℕ) (ps : List (ReportKind PlanPair)) → AreBoards ps → AreBoards (drop k ps)
told_drop zero ps all = all
told_drop (suc k) [] all = tt
told_drop (suc k) (p ∷ ps) all = told_drop k ps all.1

abbrev no_reports : List (ReportKind PlanPair)
no_reports = []

take_none : (v : ℕ) → take v no_reports ≡ no_reports
take_none zero = refl
take_none (suc v) = refl

-- so many reports are those before, and the others up to so many
pub take_split : (h k : ℕ) (ps : List (ReportKind PlanPair)) → h ≤ k → take k ps ≡ take h ps ++ take (k - h) (drop h ps)
take_split zero k ps le = ap (λ v. take v ps) (omega arith)
take_split (suc h) zero ps le = absurd (omega arith)
take_split (suc h) (suc k) [] le = sym (take_none (suc k - suc h))
take_split (suc h) (suc k) (p ∷ ps) le = ap (λ l. p ∷ l) (take_split h k ps (omega arith)) ∙ ap (λ v. p ∷ (take h ps ++ take v (drop h ps))) (omega arith)

pub reports_split : (h k : ℕ) (ps : List (ReportKind PlanPair)) → AreBoards ps → h ≤ k → reports_board (take k ps) ≡ board_join (reports_board (take h ps)) (reports_board (take (k - h) (drop h ps)))
reports_split h k ps all le = ap reports_board (take_split h k ps le) ∙ reports_both (take h ps) (take (k - h) (drop h ps)) (told_take h ps all) (told_take (k - h) (drop h ps) (told_drop h ps all))

pub take_left : (k : ℕ) (ps qs : List (ReportKind PlanPair)) → k ≤ length ps → take k (ps ++ qs) ≡ take k ps
take_left zero ps qs le = refl
take_left (suc k) [] qs le = absurd (omega arith)
take_left (suc k) (p ∷ ps) qs le = ap (λ l. p ∷ l) (take_left k ps qs (omega arith))

pub take_whole : (ps : List (ReportKind PlanPair)) → take (length ps) ps ≡ ps
take_whole [] = refl
take_whole (p ∷ ps) = ap (λ l. p ∷ l) (take_whole ps)

-- two joins joined
pub join_four : (w x y z : BoardValue) → IsBoard w → IsBoard x → IsBoard y → IsBoard z → board_join (board_join w x) (board_join y z) ≡ board_join (board_join w y) (board_join x z)
join_four w x y z a b c d =
    join_assoc w x (board_join y z) a b (join_is y z c d)
    ∙ ap (board_join w) (sym (join_assoc x y z b c d) ∙ ap (λ v. board_join v z) (join_comm x y b c) ∙ join_assoc y x z c b d)
    ∙ sym (join_assoc w y (board_join x z) a c (join_is x z b d))

-- two of three change places
pub join_swap : (x y z : BoardValue) → IsBoard x → IsBoard y → IsBoard z → board_join (board_join x y) z ≡ board_join (board_join x z) y
join_swap x y z a b c = join_assoc x y z a b c ∙ ap (board_join x) (join_comm y z b c) ∙ sym (join_assoc x z y a c b)

pub none_join : (x : BoardValue) → IsBoard x → board_join empty_board x ≡ x
none_join x a = join_comm empty_board x empty_is a ∙ join_none x a

pub length_both : (ps qs : List (ReportKind PlanPair)) → length (ps ++ qs) ≡ length ps + length qs
length_both [] qs = omega arith
length_both (p ∷ ps) qs = let h = length_both ps qs in omega (arith, h)
