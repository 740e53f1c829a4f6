-- The courses of a world, one after another, as they are seen.
use Rattle.std.proofs.Common.{◌≡◌, ℕ, zero, suc, ◌+◌, ◌-◌, ◌<◌, ◌≤◌, ◌==◌, Bool, true, false, cond, List, [], ◌∷◌, ◌++◌, length, get_or, refl, sym, ap, ◌∙◌, arith}
use Rattle.std.proofs.lemmas.Bool.Decides.{nat_tests}
use Rattle.squall_course.specs.Change.{Change, ArePlans}
use Rattle.squall_protocol.specs.Worlds.{last_course}
use Rattle.squall_world.specs.Nets.{NetValue, IsNet, IsChain, no_course, first_of, newest_of}
use Rattle.squall_world.specs.Views.{view, course_under, opened_under}

-- a course that is there, whatever stands for none
pub get_any : (cs : List Change) (i : ℕ) (c d : Change) → i < length cs → get_or cs i c ≡ get_or cs i d
get_any [] i c d lt = absurd (omega (arith, lt))
get_any (e ∷ cs) zero c d lt = refl
get_any (e ∷ cs) (suc i) c d lt = get_any cs i c d (omega (arith, lt))

-- ---- a chain

chain_number : (k : ℕ) (cs : List Change) (i : ℕ) (d : Change) → IsChain k cs → i < length cs → (get_or cs i d).number ≡ k + i
chain_number k [] i d chain lt = absurd (omega (arith, lt))
chain_number k (c ∷ cs) zero d chain lt = chain.0 ∙ omega arith
chain_number k (c ∷ cs) (suc i) d chain lt = chain_number (k + 1) cs i d chain.2 (omega (arith, lt)) ∙ omega arith

chain_plans : (k : ℕ) (cs : List Change) (i : ℕ) (d : Change) → IsChain k cs → i < length cs → ArePlans (get_or cs i d).old (get_or cs i d).new
chain_plans k [] i d chain lt = absurd (omega (arith, lt))
chain_plans k (c ∷ cs) zero d chain lt = chain.1
chain_plans k (c ∷ cs) (suc i) d chain lt = chain_plans (k + 1) cs i d chain.2 (omega (arith, lt))

-- one course more
pub chain_more : (k : ℕ) (cs : List Change) (c : Change) → IsChain k cs → c.number ≡ k + length cs → ArePlans c.old c.new → IsChain k (cs ++ c ∷ [])
chain_more k [] c chain number plans = (number ∙ omega arith, plans, tt)
chain_more k (b ∷ cs) c chain number plans = (chain.0, chain.1, chain_more (k + 1) cs c chain.2 (number ∙ omega arith) plans)

-- ---- what is seen of it

-- the course begun last is seen as the course begun last
pub last_seen : (n : NetValue) → IsNet n → last_course (view n) ≡ newest_of n
last_seen n net = λ i. record { number = number i; old = (course i).old; new = (course i).new }
  where
    below : length n.courses - 1 < length n.courses
    below = let some : 0 < length n.courses = net.some in omega (arith, some)

    next : length n.courses ≡ suc (length n.courses - 1)
    next = let some : 0 < length n.courses = net.some in omega (arith, some)

    number : length n.courses ≡ (newest_of n).number
    number = (let some : 0 < length n.courses = net.some in omega (arith, some)) ∙ sym (chain_number 1 n.courses (length n.courses - 1) no_course net.chain below)

    course : course_under n (length n.courses) ≡ newest_of n
    course = ap (course_under n) next ∙ get_any n.courses (length n.courses - 1) (first_of n) no_course below

pub last_number : (n : NetValue) → IsNet n → (newest_of n).number ≡ length n.courses
last_number n net = sym (ap (λ (c : Change). c.number) (last_seen n net))

pub last_plans : (n : NetValue) → IsNet n → ArePlans (newest_of n).old (newest_of n).new
last_plans n net = let some : 0 < length n.courses = net.some in chain_plans 1 n.courses (length n.courses - 1) no_course net.chain (omega (arith, some))

-- ---- where a course is begun

pub first_stays : (cs : List Change) (c d : Change) → 0 < length cs → get_or (cs ++ c ∷ []) 0 d ≡ get_or cs 0 d
first_stays [] c d some = absurd (omega (arith, some))
first_stays (b ∷ cs) c d some = refl

pub newest_begun : (cs : List Change) (c d : Change) → get_or (cs ++ c ∷ []) (length (cs ++ c ∷ []) - 1) d ≡ c
newest_begun cs c d = ap (λ k. get_or (cs ++ c ∷ []) k d) (length_more cs c) ∙ at_last cs c d
  where
    count : (cs : List Change) (c : Change) → length (cs ++ c ∷ []) ≡ suc (length cs)
    count [] c = refl
    count (b ∷ cs) c = ap suc (count cs c)

    length_more : (cs : List Change) (c : Change) → length (cs ++ c ∷ []) - 1 ≡ length cs
    length_more cs c = let e = count cs c in omega (arith, e)

    at_last : (cs : List Change) (c d : Change) → get_or (cs ++ c ∷ []) (length cs) d ≡ c
    at_last [] c d = refl
    at_last (b ∷ cs) c d = at_last cs c d

-- the element at each place, if one more is at the end
pub more_at_end : {A : Type 0} (xs : List A) (x d : A) (i : ℕ) → get_or (xs ++ x ∷ []) i d ≡ cond (i == length xs) x (get_or xs i d)
more_at_end [] x d zero = refl
more_at_end [] x d (suc i) = let none : (suc i == 0) ≡ false = grind (arith, nat_tests) in sym (ap (λ t. cond t x d) none)
more_at_end (y ∷ ys) x d zero = let none : (0 == suc (length ys)) ≡ false = grind (arith, nat_tests) in sym (ap (λ t. cond t x y) none)
more_at_end (y ∷ ys) x d (suc i) = more_at_end ys x d i ∙ ap (λ t. cond t x (get_or ys i d)) (same i (length ys))
  where
    same : (a b : ℕ) → (a == b) ≡ (suc a == suc b)
    same a b = grind (arith, nat_tests)

pub course_begun : (n m : NetValue) (c : Change) (i : ℕ) → 0 < length n.courses → m.courses ≡ n.courses ++ c ∷ [] → course_under m i ≡ cond (i == length n.courses + 1) c (course_under n i)
course_begun n m c zero some e =
    let none : (0 == length n.courses + 1) ≡ false = grind (arith, nat_tests) in
    ap (λ (cs : List Change). get_or cs 0 no_course) e
    ∙ first_stays n.courses c no_course some
    ∙ sym (ap (λ t. cond t c (first_of n)) none)
course_begun n m c (suc i) some e =
    let one : (i == length n.courses) ≡ (suc i == length n.courses + 1) = grind (arith, nat_tests) in
    ap (λ (cs : List Change). get_or cs i (get_or cs 0 no_course)) e
    ∙ ap (λ (d : Change). get_or (n.courses ++ c ∷ []) i d) (first_stays n.courses c no_course some)
    ∙ more_at_end n.courses c (first_of n) i
    ∙ ap (λ t. cond t c (get_or n.courses i (first_of n))) one

-- ---- how many sub-plans were opened

-- of the course begun last it is the leader's count
pub opened_last : (ended : List ℕ) (last count : ℕ) → count ≡ length ended + 1 → opened_under ended last count ≡ last
opened_last ended last count is = ap (opened_under ended last) (is ∙ next) ∙ beyond ended last
  where
    next : length ended + 1 ≡ suc (length ended)
    next = omega arith

    past : (xs : List ℕ) (d : ℕ) → get_or xs (length xs) d ≡ d
    past [] d = refl
    past (x ∷ xs) d = past xs d

    beyond : (xs : List ℕ) (x : ℕ) → get_or xs (length xs) (cond (length xs == length xs) x 0) ≡ x
    beyond xs x = past xs (cond (length xs == length xs) x 0) ∙ ap (λ t. cond t x 0) (let same : (length xs == length xs) ≡ true = grind (arith, nat_tests) in same)

-- once the leader opened one more
pub opened_more : (ended : List ℕ) (last count i : ℕ) → count ≡ length ended + 1 → opened_under ended (last + 1) i ≡ cond (i == count) (opened_under ended last i + 1) (opened_under ended last i)
opened_more ended last count zero is = let none : (0 == count) ≡ false = grind (arith, nat_tests, is) in sym (ap (λ t. cond t 1 0) none)
opened_more ended last count (suc i) is =
    let one : (i == length ended) ≡ (suc i == count) = grind (arith, nat_tests, is) in
    at ended i (i == length ended) refl ∙ ap (λ t. cond t (opened_under ended last (suc i) + 1) (opened_under ended last (suc i))) one
  where
    past : (xs : List ℕ) (i d : ℕ) → length xs ≤ i → get_or xs i d ≡ d
    past [] i d le = refl
    past (x ∷ xs) zero d le = absurd (omega (arith, le))
    past (x ∷ xs) (suc i) d le = past xs i d (omega (arith, le))

    at : (xs : List ℕ) (i : ℕ) (b : Bool) → (i == length xs) ≡ b → get_or xs i (cond (i == length xs) (last + 1) 0) ≡ cond (i == length xs) (get_or xs i (cond (i == length xs) last 0) + 1) (get_or xs i (cond (i == length xs) last 0))
    at xs i true e =
        (λ j. get_or xs i (cond (e j) (last + 1) 0)) ∙ past xs i (last + 1) (let s : i ≡ length xs = grind (arith, nat_tests, e) in omega (arith, s))
        ∙ ap (λ v. v + 1) (sym (past xs i last (let s : i ≡ length xs = grind (arith, nat_tests, e) in omega (arith, s))))
        ∙ (λ j. cond (sym e j) (get_or xs i (cond (sym e j) last 0) + 1) (get_or xs i (cond (sym e j) last 0)))
    at xs i false e = (λ j. get_or xs i (cond (e j) (last + 1) 0)) ∙ (λ j. cond (sym e j) (get_or xs i (cond (sym e j) last 0) + 1) (get_or xs i (cond (sym e j) last 0)))

-- once a course is begun of which none is opened
pub opened_begun : (ended : List ℕ) (last count i : ℕ) → count ≡ length ended + 1 → opened_under (ended ++ last ∷ []) 0 i ≡ cond (i == count + 1) 0 (opened_under ended last i)
opened_begun ended last count zero is = let none : (0 == count + 1) ≡ false = grind (arith, nat_tests) in sym (ap (λ t. cond t 0 0) none)
opened_begun ended last count (suc i) is =
    (λ j. get_or (ended ++ last ∷ []) i (zeros (i == length (ended ++ last ∷ [])) j)) ∙ more_at_end ended last 0 i ∙ by (i == length ended) refl
  where
    zeros : (b : Bool) → ◌≡◌ {A = ℕ} (cond b 0 0) 0
    zeros true = refl
    zeros false = refl

    past : (xs : List ℕ) (i d : ℕ) → length xs ≤ i → get_or xs i d ≡ d
    past [] i d le = refl
    past (x ∷ xs) zero d le = absurd (omega (arith, le))
    past (x ∷ xs) (suc i) d le = past xs i d (omega (arith, le))

    -- the count of a course that is begun no sooner is 0
    none_there : (b : Bool) → (suc i == count + 1) ≡ b → (i == length ended) ≡ false → get_or ended i 0 ≡ cond b 0 (get_or ended i 0)
    none_there false e f = refl
    none_there true e f = past ended i 0 (let s : suc i ≡ count + 1 = grind (arith, nat_tests, e) in omega (arith, s, is))

    by : (b : Bool) → (i == length ended) ≡ b → cond b last (get_or ended i 0) ≡ cond (suc i == count + 1) 0 (get_or ended i (cond (i == length ended) last 0))
    by true e =
        let s : i ≡ length ended = grind (arith, nat_tests, e) in
        let none : (suc i == count + 1) ≡ false = grind (arith, nat_tests, s, is) in
        sym (past ended i last (omega (arith, s))) ∙ (λ j. cond (sym none j) 0 (get_or ended i (cond (sym e j) last 0)))
    by false e = none_there (suc i == count + 1) refl e ∙ (λ j. cond (suc i == count + 1) 0 (get_or ended i (cond (sym e j) last 0)))
