-- What counts of nodes' reports tell: where a node makes a report, where counts are raised, and where nodes come.
use Rattle.std.proofs.Common.{◌≡◌, ℕ, zero, suc, ◌-◌, ◌≤◌, ◌||◌, nat_lt, Bool, true, false, cond, List, [], ◌∷◌, ◌++◌, length, take, drop, get_or, Some, refl, sym, ap, subst, ◌∙◌, arith}
use Rattle.std.specs.List.{slice_get, AllByRecursion}
use Rattle.std.proofs.lemmas.Bool.{false≢true}
use Rattle.std.proofs.lemmas.Bool.Decides.{nat_tests}
use Rattle.std.proofs.lemmas.Option.{same_Some, none-some}
use Rattle.squall_report.specs.declared.report.ReportKind.{ReportKind}
use Rattle.squall_report.specs.Issues.{PlanPair}
use Rattle.squall_board.specs.Boards.{BoardValue, IsBoard, board_join, empty_board, report_board}
use Rattle.squall_board.specs.BoardLaws.{join_is, empty_is}
use Rattle.squall_world.specs.Nets.{PeerValue, AreWithin, told_from, news_to, noted, raised, is_behind, reports_to, reports_board, put_at}
use Rattle.squall_world.proofs.Boards.{AreBoards, join_assoc, join_comm, join_idem, join_none, none_join, join_four, join_swap, reports_to_is, reports_is, reports_from, reports_more, reports_split, told_take, told_drop, take_left, take_whole}

-- what each node's reports tell are boards
abbrev pub AreMade : List PeerValue → Type 0
AreMade ps = AllByRecursion (λ p. AreBoards p.reports) ps

first_is : (p : PeerValue) (k : ℕ) → AreBoards p.reports → IsBoard (reports_board (take k p.reports))
first_is p k is = reports_is (take k p.reports) (told_take k p.reports is)

pub told_is : (ps : List PeerValue) (ks : List ℕ) → AreMade ps → IsBoard (told_from ps ks)
told_is [] ks all = empty_is
told_is (p ∷ ps) [] all = empty_is
told_is (p ∷ ps) (k ∷ ks) all = join_is (reports_board (take k p.reports)) (told_from ps ks) (first_is p k all.0) (told_is ps ks all.1)

-- no counts tell nothing
pub told_none : (ps : List PeerValue) → told_from ps [] ≡ empty_board
told_none [] = refl
told_none (p ∷ ps) = refl

-- ---- a node makes more reports

pub within_more : (at : ℕ) (ps : List PeerValue) (ks : List ℕ) (a c : PeerValue) → slice_get ps at ≡ Some a → length a.reports ≤ length c.reports → AreWithin ps ks → AreWithin (put_at at c ps) ks
within_more at ps [] a c there le w = tt
within_more at [] (k ∷ ks) a c there le w = absurd w
within_more zero (p ∷ ps) (k ∷ ks) a c there le w = (let h = w.0 in let e = ap (λ (v : PeerValue). length v.reports) (same_Some p a there) in omega (arith, h, le, e), w.1)
within_more (suc at) (p ∷ ps) (k ∷ ks) a c there le w = (w.0, within_more at ps ks a c there le w.1)

pub told_more : (at : ℕ) (ps : List PeerValue) (ks : List ℕ) (a c : PeerValue) (more : List (ReportKind PlanPair)) → slice_get ps at ≡ Some a → c.reports ≡ a.reports ++ more → AreWithin ps ks → told_from (put_at at c ps) ks ≡ told_from ps ks
told_more at [] ks a c more there e w = refl
told_more zero (p ∷ ps) [] a c more there e w = refl
told_more (suc at) (p ∷ ps) [] a c more there e w = refl
told_more zero (p ∷ ps) (k ∷ ks) a c more there e w =
    let same : p ≡ a = same_Some p a there in
    let le : k ≤ length a.reports = subst (λ (v : PeerValue). k ≤ length v.reports) same w.0 in
    ap (λ v. board_join (reports_board v) (told_from ps ks)) (ap (take k) e ∙ take_left k a.reports more le ∙ ap (λ (v : PeerValue). take k v.reports) (sym same))
told_more (suc at) (p ∷ ps) (k ∷ ks) a c more there e w = ap (board_join (reports_board (take k p.reports))) (told_more at ps ks a c more there e w.1)

-- ---- a node makes a report, and knows it

-- all the reports, with one more
all_with : (a c : PeerValue) (r : ReportKind PlanPair) → c.reports ≡ a.reports ++ r ∷ [] → take (length c.reports) c.reports ≡ a.reports ++ r ∷ []
all_with a c r e = take_whole c.reports ∙ e

board_with : (a c : PeerValue) (r : ReportKind PlanPair) → c.reports ≡ a.reports ++ r ∷ [] → reports_board (take (length c.reports) c.reports) ≡ board_join (reports_board a.reports) (report_board r)
board_with a c r e = ap reports_board (all_with a c r e) ∙ reports_more a.reports r

none_first : (rs : List (ReportKind PlanPair)) → 0 ≡ length rs → reports_board rs ≡ empty_board
none_first [] e = refl
none_first (r ∷ rs) e = absurd (omega (arith, e))

pub told_own : (at : ℕ) (ps : List PeerValue) (ks : List ℕ) (a c : PeerValue) (r : ReportKind PlanPair) → AreMade ps → IsBoard (report_board r) → slice_get ps at ≡ Some a → c.reports ≡ a.reports ++ r ∷ [] → get_or ks at 0 ≡ length a.reports
    → told_from (put_at at c ps) (noted at (length c.reports) ks) ≡ board_join (told_from ps ks) (report_board r)
told_own at [] ks a c r all is there e own = absurd (none-some a there)
told_own zero (p ∷ ps) [] a c r all is there e own =
    ap (λ v. board_join v (told_from ps [])) (board_with a c r e ∙ ap (λ v. board_join v (report_board r)) (none_first a.reports own) ∙ none_join (report_board r) is)
    ∙ ap (board_join (report_board r)) (told_none ps) ∙ join_comm (report_board r) empty_board is empty_is
told_own zero (p ∷ ps) (k ∷ ks) a c r all is there e own =
    let same : p ≡ a = same_Some p a there in
    let whole : take k p.reports ≡ a.reports = (λ i. take (own i) (same i).reports) ∙ take_whole a.reports in
    let first : IsBoard (reports_board a.reports) = reports_is a.reports (subst (λ (v : PeerValue). AreBoards v.reports) same all.0) in
    ap (λ v. board_join v (told_from ps ks)) (board_with a c r e)
    ∙ join_swap (reports_board a.reports) (report_board r) (told_from ps ks) first is (told_is ps ks all.1)
    ∙ ap (λ v. board_join (board_join (reports_board v) (told_from ps ks)) (report_board r)) (sym whole)
told_own (suc at) (p ∷ ps) [] a c r all is there e own =
    let rest : told_from (put_at at c ps) (noted at (length c.reports) []) ≡ report_board r =
    told_own at ps [] a c r all.1 is there e own ∙ ap (λ v. board_join v (report_board r)) (told_none ps) ∙ none_join (report_board r) is in
    ap (board_join empty_board) rest
told_own (suc at) (p ∷ ps) (k ∷ ks) a c r all is there e own =
    ap (board_join (reports_board (take k p.reports))) (told_own at ps ks a c r all.1 is there e own)
    ∙ sym (join_assoc (reports_board (take k p.reports)) (told_from ps ks) (report_board r) (first_is p k all.0) (told_is ps ks all.1) is)

pub within_own : (at : ℕ) (ps : List PeerValue) (ks : List ℕ) (a c : PeerValue) → slice_get ps at ≡ Some a → AreWithin ps ks → AreWithin (put_at at c ps) (noted at (length c.reports) ks)
within_own at [] ks a c there w = absurd (none-some a there)
within_own zero (p ∷ ps) [] a c there w = (omega arith, tt)
within_own zero (p ∷ ps) (k ∷ ks) a c there w = (omega arith, w.1)
within_own (suc at) (p ∷ ps) [] a c there w = (omega arith, within_own at ps [] a c there tt)
within_own (suc at) (p ∷ ps) (k ∷ ks) a c there w = (w.0, within_own at ps ks a c there w.1)

pub noted_at : (at n : ℕ) (ks : List ℕ) → get_or (noted at n ks) at 0 ≡ n
noted_at zero n [] = refl
noted_at zero n (k ∷ ks) = refl
noted_at (suc at) n [] = noted_at at n []
noted_at (suc at) n (k ∷ ks) = noted_at at n ks

-- ---- counts are raised

lt_less : (k m : ℕ) → nat_lt k m ≡ true → k ≤ m
lt_less k m e = grind (arith, nat_tests)

lt_not : (k m : ℕ) → nat_lt k m ≡ false → m ≤ k
lt_not k m e = grind (arith, nat_tests)

pub within_raised : (ps : List PeerValue) (ks ms : List ℕ) → AreWithin ps ks → AreWithin ps ms → AreWithin ps (raised ks ms)
within_raised ps [] ms v w = w
within_raised [] (k ∷ ks) ms v w = absurd v
within_raised (p ∷ ps) (k ∷ ks) [] v w = v
within_raised (p ∷ ps) (k ∷ ks) (m ∷ ms) v w = (by (nat_lt k m), within_raised ps ks ms v.1 w.1)
  where
    by : (b : Bool) → cond b m k ≤ length p.reports
    by true = w.0
    by false = v.0

-- more reports cover fewer
first_covers : (p : PeerValue) (h k : ℕ) → AreBoards p.reports → h ≤ k → board_join (reports_board (take h p.reports)) (reports_board (take k p.reports)) ≡ reports_board (take k p.reports)
first_covers p h k is le =
    let x = reports_board (take h p.reports) in
    let y = reports_board (take (k - h) (drop h p.reports)) in
    let is_x : IsBoard x = first_is p h is in
    let is_y : IsBoard y = reports_is (take (k - h) (drop h p.reports)) (told_take (k - h) (drop h p.reports) (told_drop h p.reports is)) in
    let split : reports_board (take k p.reports) ≡ board_join x y = reports_split h k p.reports is le in
    ap (board_join x) split ∙ sym (join_assoc x x y is_x is_x is_y) ∙ ap (λ v. board_join v y) (join_idem x is_x) ∙ sym split

pub told_raised : (ps : List PeerValue) (ks ms : List ℕ) → AreMade ps → told_from ps (raised ks ms) ≡ board_join (told_from ps ks) (told_from ps ms)
told_raised ps [] ms all = sym (none_join (told_from ps ms) (told_is ps ms all)) ∙ ap (λ v. board_join v (told_from ps ms)) (sym (told_none ps))
told_raised [] (k ∷ ks) [] all = sym (join_none empty_board empty_is)
told_raised [] (k ∷ ks) (m ∷ ms) all = sym (join_none empty_board empty_is)
told_raised (p ∷ ps) (k ∷ ks) [] all = sym (join_none (told_from (p ∷ ps) (k ∷ ks)) (told_is (p ∷ ps) (k ∷ ks) all))
told_raised (p ∷ ps) (k ∷ ks) (m ∷ ms) all =
    (λ i. board_join (by (nat_lt k m) refl i) (told_raised ps ks ms all.1 i))
    ∙ join_four (reports_board (take k p.reports)) (reports_board (take m p.reports)) (told_from ps ks) (told_from ps ms) (first_is p k all.0) (first_is p m all.0) (told_is ps ks all.1) (told_is ps ms all.1)
  where
    by : (b : Bool) → nat_lt k m ≡ b → reports_board (take (cond b m k) p.reports) ≡ board_join (reports_board (take k p.reports)) (reports_board (take m p.reports))
    by true e = sym (first_covers p k m all.0 (lt_less k m e))
    by false e = sym (join_comm (reports_board (take k p.reports)) (reports_board (take m p.reports)) (first_is p k all.0) (first_is p m all.0) ∙ first_covers p m k all.0 (lt_not k m e))

-- it knows all of its own reports still
pub raised_own : (at : ℕ) (ps : List PeerValue) (ks ms : List ℕ) (a : PeerValue) → slice_get ps at ≡ Some a → AreWithin ps ms → get_or ks at 0 ≡ length a.reports → get_or (raised ks ms) at 0 ≡ length a.reports
raised_own at [] ks ms a there w own = absurd (none-some a there)
raised_own at (p ∷ ps) [] [] a there w own = own
raised_own zero (p ∷ ps) [] (m ∷ ms) a there w own = let e = ap (λ (v : PeerValue). length v.reports) (same_Some p a there) in let h = w.0 in omega (arith, e, h, own)
raised_own (suc at) (p ∷ ps) [] (m ∷ ms) a there w own = raised_own at ps [] ms a there w.1 own
raised_own at (p ∷ ps) (k ∷ ks) [] a there w own = own
raised_own zero (p ∷ ps) (k ∷ ks) (m ∷ ms) a there w own = by (nat_lt k m) refl
  where
    by : (b : Bool) → nat_lt k m ≡ b → cond b m k ≡ length a.reports
    by true e = let le = lt_less k m e in let s = ap (λ (v : PeerValue). length v.reports) (same_Some p a there) in let h = w.0 in omega (arith, s, h, own, le)
    by false e = own
raised_own (suc at) (p ∷ ps) (k ∷ ks) (m ∷ ms) a there w own = raised_own at ps ks ms a there w.1 own

-- ---- news

-- the reports of a node between two counts
abbrev between : PeerValue → ℕ → ℕ → List (ReportKind PlanPair)
between p k m = take (m - k) (drop k p.reports)

are_between : (p : PeerValue) (k m : ℕ) → AreBoards p.reports → AreBoards (between p k m)
are_between p k m is = told_take (m - k) (drop k p.reports) (told_drop k p.reports is)

beside_more : (b n : BoardValue) (rs : List (ReportKind PlanPair)) → IsBoard b → IsBoard n → AreBoards rs → board_join (reports_to b rs) n ≡ board_join b (board_join (reports_board rs) n)
beside_more b n rs is is_n all = ap (λ v. board_join v n) (reports_from b rs is all) ∙ join_assoc b (reports_board rs) n is (reports_is rs all) is_n

-- the news beside a board are that board, and the news
pub news_beside : (b : BoardValue) (ps : List PeerValue) (ks ms : List ℕ) → IsBoard b → AreMade ps → IsBoard (news_to b ps ks ms) × (news_to b ps ks ms ≡ board_join b (news_to empty_board ps ks ms))
news_beside b [] ks ms is all = (is, sym (join_none b is))
news_beside b (p ∷ ps) ks [] is all = (is, sym (join_none b is))
news_beside b (p ∷ ps) [] (m ∷ ms) is all =
    let rs = take m p.reports in
    let made : AreBoards rs = told_take m p.reports all.0 in
    let x = news_beside (reports_to b rs) ps [] ms (reports_to_is b rs is made) all.1 in
    let y = news_beside (reports_board rs) ps [] ms (reports_is rs made) all.1 in
    (x.0, x.1 ∙ beside_more b (news_to empty_board ps [] ms) rs is (news_beside empty_board ps [] ms empty_is all.1).0 made ∙ ap (board_join b) (sym y.1))
news_beside b (p ∷ ps) (k ∷ ks) (m ∷ ms) is all =
    let rs = between p k m in
    let made : AreBoards rs = are_between p k m all.0 in
    let x = news_beside (reports_to b rs) ps ks ms (reports_to_is b rs is made) all.1 in
    let y = news_beside (reports_board rs) ps ks ms (reports_is rs made) all.1 in
    (x.0, x.1 ∙ beside_more b (news_to empty_board ps ks ms) rs is (news_beside empty_board ps ks ms empty_is all.1).0 made ∙ ap (board_join b) (sym y.1))

pub news_is : (ps : List PeerValue) (ks ms : List ℕ) → AreMade ps → IsBoard (news_to empty_board ps ks ms)
news_is ps ks ms all = (news_beside empty_board ps ks ms empty_is all).0

-- beside what was known, a node's reports between two counts tell what all up to the second tell
between_tells : (p : PeerValue) (k m : ℕ) → AreBoards p.reports → board_join (reports_board (take k p.reports)) (reports_board (between p k m)) ≡ board_join (reports_board (take k p.reports)) (reports_board (take m p.reports))
between_tells p k m is = by (nat_lt k m) refl
  where
    by : (b : Bool) → nat_lt k m ≡ b → board_join (reports_board (take k p.reports)) (reports_board (between p k m)) ≡ board_join (reports_board (take k p.reports)) (reports_board (take m p.reports))
    by true e = sym (reports_split k m p.reports is (lt_less k m e)) ∙ sym (first_covers p k m is (lt_less k m e))
    by false e =
        let le = lt_not k m e in
        let z : m - k ≡ 0 = omega (arith, le) in
        ap (λ v. board_join (reports_board (take k p.reports)) (reports_board (take v (drop k p.reports)))) z ∙ join_none (reports_board (take k p.reports)) (first_is p k is)
        ∙ sym (join_comm (reports_board (take k p.reports)) (reports_board (take m p.reports)) (first_is p k is) (first_is p m is) ∙ first_covers p m k is le)

-- beside what was known, the news tell what the second counts tell
pub told_news : (ps : List PeerValue) (ks ms : List ℕ) → AreMade ps → board_join (told_from ps ks) (news_to empty_board ps ks ms) ≡ board_join (told_from ps ks) (told_from ps ms)
told_news [] ks ms all = refl
told_news (p ∷ ps) ks [] all = refl
told_news (p ∷ ps) [] (m ∷ ms) all =
    let rs = take m p.reports in
    let news = news_to empty_board ps [] ms in
    let bare : news ≡ told_from ps ms =
    sym (none_join news (news_is ps [] ms all.1)) ∙ ap (λ v. board_join v news) (sym (told_none ps)) ∙ told_news ps [] ms all.1
    ∙ ap (λ v. board_join v (told_from ps ms)) (told_none ps) ∙ none_join (told_from ps ms) (told_is ps ms all.1) in
    ap (board_join empty_board) ((news_beside (reports_board rs) ps [] ms (first_is p m all.0) all.1).1 ∙ ap (board_join (reports_board rs)) bare)
told_news (p ∷ ps) (k ∷ ks) (m ∷ ms) all =
    let pk = reports_board (take k p.reports) in
    let pm = reports_board (take m p.reports) in
    let d = reports_board (between p k m) in
    let news = news_to empty_board ps ks ms in
    let is_d : IsBoard d = reports_is (between p k m) (are_between p k m all.0) in
    ap (board_join (board_join pk (told_from ps ks))) (news_beside d ps ks ms is_d all.1).1
    ∙ join_four pk (told_from ps ks) d news (first_is p k all.0) (told_is ps ks all.1) is_d (news_is ps ks ms all.1)
    ∙ (λ i. board_join (between_tells p k m all.0 i) (told_news ps ks ms all.1 i))
    ∙ join_four pk pm (told_from ps ks) (told_from ps ms) (first_is p k all.0) (first_is p m all.0) (told_is ps ks all.1) (told_is ps ms all.1)

neither : (a b : Bool) → (a || b) ≡ false → (a ≡ false) × (b ≡ false)
neither true b e = absurd (false≢true (sym e))
neither false b e = (refl, e)

-- counts that are nowhere greater tell nothing new
pub told_behind : (ps : List PeerValue) (ks ms : List ℕ) → AreMade ps → is_behind ks ms ≡ false → board_join (told_from ps ks) (told_from ps ms) ≡ told_from ps ks
told_behind [] ks ms all e = join_none empty_board empty_is
told_behind (p ∷ ps) ks [] all e = join_none (told_from (p ∷ ps) ks) (told_is (p ∷ ps) ks all)
told_behind (p ∷ ps) [] (m ∷ ms) all e =
    let n = neither (nat_lt 0 m) (is_behind [] ms) e in
    let z : m ≡ 0 = let le = lt_not 0 m n.0 in omega (arith, le) in
    let bare : told_from ps ms ≡ empty_board =
    sym (none_join (told_from ps ms) (told_is ps ms all.1)) ∙ ap (λ v. board_join v (told_from ps ms)) (sym (told_none ps)) ∙ told_behind ps [] ms all.1 n.1 ∙ told_none ps in
    ap (board_join empty_board) ((λ i. board_join (reports_board (take (z i) p.reports)) (bare i)) ∙ join_none empty_board empty_is) ∙ join_none empty_board empty_is
told_behind (p ∷ ps) (k ∷ ks) (m ∷ ms) all e =
    let n = neither (nat_lt k m) (is_behind ks ms) e in
    let pk = reports_board (take k p.reports) in
    let pm = reports_board (take m p.reports) in
    let covers : board_join pk pm ≡ pk = join_comm pk pm (first_is p k all.0) (first_is p m all.0) ∙ first_covers p m k all.0 (lt_not k m n.0) in
    join_four pk (told_from ps ks) pm (told_from ps ms) (first_is p k all.0) (told_is ps ks all.1) (first_is p m all.0) (told_is ps ms all.1)
    ∙ (λ i. board_join (covers i) (told_behind ps ks ms all.1 n.1 i))

-- ---- nodes come

pub told_new : (ps qs : List PeerValue) (ks : List ℕ) → AreWithin ps ks → told_from (ps ++ qs) ks ≡ told_from ps ks
told_new [] qs [] w = told_none qs
told_new [] qs (k ∷ ks) w = absurd w
told_new (p ∷ ps) qs [] w = refl
told_new (p ∷ ps) qs (k ∷ ks) w = ap (board_join (reports_board (take k p.reports))) (told_new ps qs ks w.1)

pub within_new : (ps qs : List PeerValue) (ks : List ℕ) → AreWithin ps ks → AreWithin (ps ++ qs) ks
within_new ps qs [] w = tt
within_new [] qs (k ∷ ks) w = absurd w
within_new (p ∷ ps) qs (k ∷ ks) w = (w.0, within_new ps qs ks w.1)
