-- The newest course once news are in.
use Rattle.std.specs.Prelude.{◌≡◌, ◌≢◌, ℕ, ◌<◌, ◌≤◌, Bool, true, false, cond, Option, None, Some, refl}
use Rattle.std.proofs.Common.{sym, ap, subst, ◌∙◌, arith}
use Rattle.squall_join.specs.declared.flat.Flat.{Flat}
use Rattle.squall_join.specs.declared.flat.Flat.TheVariants.{Unknown, One, Clash}
use Rattle.squall_course.specs.Change.{Change}
use Rattle.squall_report.specs.Issues.{PlanPair, is_same_pair}
use Rattle.squall_report.specs.Told.{both_issued}
use Rattle.squall_report.specs.ToldLaws.{issued_neutral}
use Rattle.squall_report.specs.Newest.{IsNewest}
use Rattle.squall_report.specs.NewestLaws.{one_newest, newest_same}
use Rattle.squall_board.specs.Boards.{BoardValue, IsBoard, board_join, issued}
use Rattle.squall_board.specs.BoardLaws.{tells_both, join_is}
use Rattle.squall_board.specs.Newest.{newest_of}
use Rattle.squall_board.specs.NewestLaws.{newest_is_greatest}
use Rattle.squall_board.specs.CourseRoute.{course_by, course_of_board}
use Rattle.squall_router.specs.Routers.{RouterValue, router_with, course_of_router}

-- the newest of both, as a board has it that issues what both do
pub joined_newest : (b news issues : BoardValue) (low : ℕ) → IsBoard b → IsBoard news → IsBoard issues → ((n : ℕ) → issued issues n ≡ both_issued (issued b n) (issued news n)) → newest_of issues low ≡ newest_of (board_join b news) low
joined_newest b news issues low is_b is_news is_issues same = one_newest (issued issues) low (newest_of issues low) (newest_of (board_join b news) low)
    (newest_is_greatest issues low is_issues)
    (newest_same (issued (board_join b news)) (issued issues) low (newest_of (board_join b news) low)
    (λ n. (tells_both b news is_b.nested is_news.nested).issues n ∙ sym (same n))
    (newest_is_greatest (board_join b news) low (join_is b news is_b is_news)))

pub joined_course : (first : Change) (b news issues : BoardValue) → IsBoard b → IsBoard news → IsBoard issues → ((n : ℕ) → issued issues n ≡ both_issued (issued b n) (issued news n)) → course_by first (newest_of issues first.number) ≡ course_of_board first (board_join b news)
joined_course first b news issues is_b is_news is_issues same = ap (course_by first) (joined_newest b news issues first.number is_b is_news is_issues same)

-- news that issue nothing leave the course
pub same_without_issues : (first : Change) (b news : BoardValue) → IsBoard b → IsBoard news → ((n : ℕ) → issued news n ≡ Unknown) → course_of_board first b ≡ course_of_board first (board_join b news)
same_without_issues first b news is_b is_news none = joined_course first b news b is_b is_news is_b (λ n. sym (ap (both_issued (issued b n)) (none n) ∙ issued_neutral (issued b n)))

-- ---- one pair stays or clashes, so that under the same number there is the same course

one_stays : (p q : PlanPair) (z : Flat PlanPair) → both_issued (One p) z ≡ One q → p ≡ q
one_stays p q Unknown e = cc
one_stays p q (One z) e = kept (is_same_pair p z) e
  where
    kept : (t : Bool) → cond t (One p) Clash ≡ One q → p ≡ q
    kept true e = cc
    kept false e = cc
one_stays p q Clash e = cc

pair_kept : (f g : ℕ → Flat PlanPair) (n m : ℕ) (p q : PlanPair) → n ≡ m → f n ≡ One p → both_issued (f m) (g m) ≡ One q → p ≡ q
pair_kept f g n m p q same is joined = one_stays p q (g m) (ap (λ x. both_issued x (g m)) (sym is ∙ ap f same) ∙ joined)

same_course : (first : Change) (f g : ℕ → Flat PlanPair) (x y : Option (ℕ × PlanPair)) → IsNewest f first.number x → IsNewest (λ n. both_issued (f n) (g n)) first.number y → (course_by first x).number ≡ (course_by first y).number → course_by first x ≡ course_by first y
same_course first f g None None a b same = refl
same_course first f g None (Some y) a (above, is, last) same = absurd (omega (arith, above, same))
same_course first f g (Some x) None (above, is, last) b same = absurd (omega (arith, above, same))
same_course first f g (Some x) (Some y) (above, is, last) (above_y, is_y, last_y) same =
    let p : x.1 ≡ y.1 = pair_kept f g x.0 y.0 x.1 y.1 same is is_y in
    λ i. course_by first (Some (same i, p i))

pub same_number_same_course : (first : Change) (b news : BoardValue) → IsBoard b → IsBoard news → (course_of_board first b).number ≡ (course_of_board first (board_join b news)).number → course_of_board first b ≡ course_of_board first (board_join b news)
same_number_same_course first b news is_b is_news same = same_course first (issued b) (issued news) (newest_of b first.number) (newest_of (board_join b news) first.number)
    (newest_is_greatest b first.number is_b)
    (newest_same (issued (board_join b news)) (λ n. both_issued (issued b n) (issued news n)) first.number (newest_of (board_join b news) first.number) (tells_both b news is_b.nested is_news.nested).issues (newest_is_greatest (board_join b news) first.number (join_is b news is_b is_news)))
    same

-- ---- of the router that a proof has open

-- the course of both by what a board has that issues what both do
pub other_is : (s : RouterValue) (first d : Change) (b news issues : BoardValue) (c : Change) (x : Option (ℕ × PlanPair)) → router_with first b ≡ s → IsBoard b → IsBoard news → IsBoard issues
    → ((n : ℕ) → issued issues n ≡ both_issued (issued b n) (issued news n)) → d ≡ first → x ≡ newest_of issues d.number → c ≡ course_by first x → c ≡ course_of_board s.first (board_join s.board news)
other_is s first d b news issues c x view is_b is_news is_issues same at_first newest by =
    by ∙ ap (course_by first) (newest ∙ ap (λ (y : Change). newest_of issues y.number) at_first)
    ∙ joined_course first b news issues is_b is_news is_issues same ∙ ap (λ (r : RouterValue). course_of_board r.first (board_join r.board news)) view

pub same_number_stays : (s : RouterValue) (first d e : Change) (b news issues : BoardValue) (n : ℕ) (x : Option (ℕ × PlanPair)) → router_with first b ≡ s → IsBoard b → IsBoard news → IsBoard issues
    → ((n : ℕ) → issued issues n ≡ both_issued (issued b n) (issued news n)) → d ≡ first → x ≡ newest_of issues d.number → n ≡ (course_by e x).number → e ≡ first → n ≡ (course_of_board first b).number → course_of_router s ≡ course_of_board s.first (board_join s.board news)
same_number_stays s first d e b news issues n x view is_b is_news is_issues same at_first newest by also stays =
    let both : course_by first x ≡ course_of_board first (board_join b news) = ap (course_by first) (newest ∙ ap (λ (y : Change). newest_of issues y.number) at_first) ∙ joined_course first b news issues is_b is_news is_issues same in
    subst (λ (r : RouterValue). course_of_router r ≡ course_of_board r.first (board_join r.board news)) view
    (same_number_same_course first b news is_b is_news (sym stays ∙ by ∙ ap (λ (y : Change). (course_by y x).number) also ∙ ap (λ (y : Change). y.number) both))

pub stays_without_issues : (s : RouterValue) (first : Change) (b news : BoardValue) → router_with first b ≡ s → IsBoard b → IsBoard news → ((n : ℕ) → issued news n ≡ Unknown) → course_of_router s ≡ course_of_board s.first (board_join s.board news)
stays_without_issues s first b news view is_b is_news none = subst (λ (r : RouterValue). course_of_router r ≡ course_of_board r.first (board_join r.board news)) view (same_without_issues first b news is_b is_news none)

-- ---- the newer course of two boards, where the other one issues nothing under its number

not_both : (x y : Flat PlanPair) → ((p : PlanPair) → x ≢ One p) → ((p : PlanPair) → y ≢ One p) → (p : PlanPair) → both_issued x y ≢ One p
not_both Unknown y a b p e = b p e
not_both (One q) y a b p e = absurd (a q refl)
not_both Clash y a b p e = let bad : ⊥ = cc in bad

none_above : (first : Change) (f : ℕ → Flat PlanPair) (x : Option (ℕ × PlanPair)) → IsNewest f first.number x → (n : ℕ) → (course_by first x).number < n → (p : PlanPair) → f n ≢ One p
none_above first f None none n gt p = none n gt p
none_above first f (Some x) (above, is, last) n gt p = last n gt p

-- that of the second
second_newest : (first : Change) (f g : ℕ → Flat PlanPair) (x y : Option (ℕ × PlanPair)) → IsNewest f first.number x → IsNewest g first.number y → (course_by first x).number < (course_by first y).number → f (course_by first y).number ≡ Unknown
    → first.number ≤ (course_by first x).number → IsNewest (λ n. both_issued (f n) (g n)) first.number y
second_newest first f g x None a b lt none least = absurd (omega (arith, lt, least))
second_newest first f g x (Some y) a (above, is, last) lt none least =
    (above, (λ i. both_issued (none i) (is i)), λ n gt p. not_both (f n) (g n) (none_above first f x a n (omega (arith, lt, gt))) (last n gt) p)

-- that of the first
first_newest : (first : Change) (f g : ℕ → Flat PlanPair) (x y : Option (ℕ × PlanPair)) → IsNewest f first.number x → IsNewest g first.number y → (course_by first y).number ≤ (course_by first x).number → g (course_by first x).number ≡ Unknown
    → IsNewest (λ n. both_issued (f n) (g n)) first.number x
first_newest first f g None y none b le silent = λ n gt p. not_both (f n) (g n) (none n gt) (none_above first g y b n (omega (arith, le, gt))) p
first_newest first f g (Some x) y (above, is, last) b le silent =
    (above, (λ i. both_issued (is i) (silent i)), λ n gt p. not_both (f n) (g n) (last n gt) (none_above first g y b n (omega (arith, le, gt))) p)

least_number : (first : Change) (f : ℕ → Flat PlanPair) (x : Option (ℕ × PlanPair)) → IsNewest f first.number x → first.number ≤ (course_by first x).number
least_number first f None none = omega arith
least_number first f (Some x) (above, is, last) = omega (arith, above)

both_course : (first : Change) (b news : BoardValue) (x : Option (ℕ × PlanPair)) → IsBoard b → IsBoard news → IsNewest (λ n. both_issued (issued b n) (issued news n)) first.number x → course_by first x ≡ course_of_board first (board_join b news)
both_course first b news x is_b is_news newest = ap (course_by first)
    (one_newest (λ n. both_issued (issued b n) (issued news n)) first.number x (newest_of (board_join b news) first.number) newest
    (newest_same (issued (board_join b news)) (λ n. both_issued (issued b n) (issued news n)) first.number (newest_of (board_join b news) first.number) (tells_both b news is_b.nested is_news.nested).issues (newest_is_greatest (board_join b news) first.number (join_is b news is_b is_news))))

-- of the router that a proof has open: a course of the news that is newer, if the board issues nothing under its number
pub turns_to_news : (s : RouterValue) (first d e g : Change) (b news : BoardValue) (n m : ℕ) (c : Change) (x : Option (ℕ × PlanPair)) → router_with first b ≡ s → IsBoard b → IsBoard news → d ≡ first → IsNewest (issued news) d.number x
    → e ≡ first → n ≡ (course_by e x).number → g ≡ course_of_board first b → m ≡ g.number → m < n → issued b n ≡ Unknown → c ≡ course_by first x → c ≡ course_of_board s.first (board_join s.board news)
turns_to_news s first d e g b news n m c x view is_b is_news at_d is at_e by_n at_g by_m lt none by =
    let greatest = newest_is_greatest b first.number is_b in
    let newest = subst (λ (y : Change). IsNewest (issued news) y.number x) at_d is in
    let number : n ≡ (course_by first x).number = by_n ∙ ap (λ (y : Change). (course_by y x).number) at_e in
    let current : m ≡ (course_of_board first b).number = by_m ∙ ap (λ (y : Change). y.number) at_g in
    let newer : (course_of_board first b).number < (course_by first x).number = omega (arith, lt, number, current) in
    let silent = subst (λ k. issued b k ≡ Unknown) number none in
    by ∙ both_course first b news x is_b is_news (second_newest first (issued b) (issued news) (newest_of b first.number) x greatest newest newer silent (least_number first (issued b) (newest_of b first.number) greatest))
    ∙ ap (λ (r : RouterValue). course_of_board r.first (board_join r.board news)) view

-- none that is newer, if the news issue nothing under the number of the router's course
pub stays_by_number : (s : RouterValue) (first d e g : Change) (b news : BoardValue) (n m : ℕ) (x : Option (ℕ × PlanPair)) → router_with first b ≡ s → IsBoard b → IsBoard news → d ≡ first → IsNewest (issued news) d.number x
    → e ≡ first → n ≡ (course_by e x).number → g ≡ course_of_board first b → m ≡ g.number → n ≤ m → issued news m ≡ Unknown → course_of_router s ≡ course_of_board s.first (board_join s.board news)
stays_by_number s first d e g b news n m x view is_b is_news at_d is at_e by_n at_g by_m le none =
    let newest = subst (λ (y : Change). IsNewest (issued news) y.number x) at_d is in
    let number : n ≡ (course_by first x).number = by_n ∙ ap (λ (y : Change). (course_by y x).number) at_e in
    let current : m ≡ (course_of_board first b).number = by_m ∙ ap (λ (y : Change). y.number) at_g in
    let least : (course_by first x).number ≤ (course_of_board first b).number = omega (arith, le, number, current) in
    let silent = subst (λ k. issued news k ≡ Unknown) current none in
    subst (λ (r : RouterValue). course_of_router r ≡ course_of_board r.first (board_join r.board news)) view
    (both_course first b news (newest_of b first.number) is_b is_news (first_newest first (issued b) (issued news) (newest_of b first.number) x (newest_is_greatest b first.number is_b) newest least silent))
