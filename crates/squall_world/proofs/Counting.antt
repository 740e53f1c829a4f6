-- Counts one by one: the first of them noted, raised and compared.
use Rattle.std.proofs.Common.{◌≡◌, ◌≢◌, ℕ, zero, suc, ◌+◌, ◌-◌, ◌<◌, ◌≤◌, ◌||◌, nat_lt, true, false, cond, List, [], ◌∷◌, ◌++◌, length, take, drop, get_or, set, refl, sym, ap, subst, ◌∙◌, arith}
use Rattle.std.proofs.lemmas.Bool.Decides.{nat_tests}
use Rattle.squall_board.specs.Boards.{BoardValue}
use Rattle.squall_world.specs.Nets.{PeerValue, AreWithin, noted, raised, is_behind, news_to, reports_to}

-- ---- noted

-- a zero more at the end changes nothing
pub noted_zero : (i c : ℕ) (ks : List ℕ) → length ks ≤ i → noted i c (ks ++ 0 ∷ []) ≡ noted i c ks
noted_zero zero c [] le = refl
noted_zero zero c (k ∷ ks) le = absurd (omega (arith, le))
noted_zero (suc i) c [] le = refl
noted_zero (suc i) c (k ∷ ks) le = ap (λ v. k ∷ v) (noted_zero i c ks (omega (arith, le)))

pub noted_set : (i c : ℕ) (ks : List ℕ) → i < length ks → set ks i c ≡ noted i c ks
noted_set i c [] lt = absurd (omega (arith, lt))
noted_set zero c (k ∷ ks) lt = refl
noted_set (suc i) c (k ∷ ks) lt = ap (λ v. k ∷ v) (noted_set i c ks (omega (arith, lt)))

-- ---- raised

less : (k m : ℕ) → k < m → nat_lt k m ≡ true
less k m lt = grind (arith, nat_tests, lt)

not_less : (k m : ℕ) → m ≤ k → nat_lt k m ≡ false
not_less k m le = grind (arith, nat_tests, le)

raised_none : (ks : List ℕ) → raised ks [] ≡ ks
raised_none [] = refl
raised_none (k ∷ ks) = refl

-- the list is as long as what was raised
pub reach : (i : ℕ) (ks ms : List ℕ) → i ≤ length ms → i ≤ length (raised ks (take i ms))
reach zero ks ms le = omega arith
reach (suc i) ks [] le = absurd (omega (arith, le))
reach (suc i) [] (m ∷ ms) le = let h = reach i [] ms (omega (arith, le)) in omega (arith, h)
reach (suc i) (k ∷ ks) (m ∷ ms) le = let h = reach i ks ms (omega (arith, le)) in omega (arith, h)

-- the next count stands at the end
pub raised_end : (i : ℕ) (ks ms : List ℕ) (m : ℕ) → i < length ms → m ≡ get_or ms i m → length (raised ks (take i ms)) ≡ i → raised ks (take i ms) ++ m ∷ [] ≡ raised ks (take (suc i) ms)
raised_end i ks [] m lt e at = absurd (omega (arith, lt))
raised_end zero [] (n ∷ ms) m lt e at = ap (λ v. v ∷ []) e
raised_end zero (k ∷ ks) (n ∷ ms) m lt e at = absurd (omega (arith, at))
raised_end (suc i) [] (n ∷ ms) m lt e at = ap (λ v. n ∷ v) (raised_end i [] ms m (omega (arith, lt)) e (omega (arith, at)))
raised_end (suc i) (k ∷ ks) (n ∷ ms) m lt e at = ap (λ v. cond (nat_lt k n) n k ∷ v) (raised_end i ks ms m (omega (arith, lt)) e (omega (arith, at)))

-- it is greater than what stands there
pub raised_less : (i : ℕ) (ks ms : List ℕ) (m k : ℕ) → i < length ms → m ≡ get_or ms i m → i < length (raised ks (take i ms)) → k ≡ get_or (raised ks (take i ms)) i k → k < m → set (raised ks (take i ms)) i m ≡ raised ks (take (suc i) ms)
raised_less i ks [] m k lt e at f up = absurd (omega (arith, lt))
raised_less zero [] (n ∷ ms) m k lt e at f up = absurd (omega (arith, at))
raised_less zero (l ∷ ks) (n ∷ ms) m k lt e at f up =
    (λ i. e i ∷ ks) ∙ (λ i. cond (sym (less l n (subst (λ v. v < n) f (subst (λ v. k < v) e up))) i) n l ∷ sym (raised_none ks) i)
raised_less (suc i) [] (n ∷ ms) m k lt e at f up = ap (λ v. n ∷ v) (raised_less i [] ms m k (omega (arith, lt)) e (omega (arith, at)) f up)
raised_less (suc i) (l ∷ ks) (n ∷ ms) m k lt e at f up = ap (λ v. cond (nat_lt l n) n l ∷ v) (raised_less i ks ms m k (omega (arith, lt)) e (omega (arith, at)) f up)

-- it is no greater
pub raised_kept : (i : ℕ) (ks ms : List ℕ) (m k : ℕ) → i < length ms → m ≡ get_or ms i m → i < length (raised ks (take i ms)) → k ≡ get_or (raised ks (take i ms)) i k → m ≤ k → raised ks (take i ms) ≡ raised ks (take (suc i) ms)
raised_kept i ks [] m k lt e at f up = absurd (omega (arith, lt))
raised_kept zero [] (n ∷ ms) m k lt e at f up = absurd (omega (arith, at))
raised_kept zero (l ∷ ks) (n ∷ ms) m k lt e at f up =
    λ i. cond (sym (not_less l n (subst (λ v. n ≤ v) f (subst (λ v. v ≤ k) e up))) i) n l ∷ sym (raised_none ks) i
raised_kept (suc i) [] (n ∷ ms) m k lt e at f up = ap (λ v. n ∷ v) (raised_kept i [] ms m k (omega (arith, lt)) e (omega (arith, at)) f up)
raised_kept (suc i) (l ∷ ks) (n ∷ ms) m k lt e at f up = ap (λ v. cond (nat_lt l n) n l ∷ v) (raised_kept i ks ms m k (omega (arith, lt)) e (omega (arith, at)) f up)

-- what is read within a list is the same whatever stands for none
get_any : {A : Type 0} (xs : List A) (i : ℕ) (d e : A) → i < length xs → get_or xs i d ≡ get_or xs i e
get_any [] i d e lt = absurd (omega (arith, lt))
get_any (x ∷ xs) zero d e lt = refl
get_any (x ∷ xs) (suc i) d e lt = get_any xs i d e (omega (arith, lt))

one_more : (i : ℕ) (ks ms : List ℕ) → raised ks (take (suc i) ms) ≡ raised ks (take (i + 1) ms)
one_more i ks ms = let e : suc i ≡ i + 1 = omega arith in ap (λ v. raised ks (take v ms)) e

pub step_below : (i l : ℕ) (xs ks ms : List ℕ) → xs ≡ raised ks (take i ms) → length xs ≡ l → i < length ms → i ≢ l → i < l
step_below i l xs ks ms e len lt apart = let h = reach i ks ms (omega (arith, lt)) in let k = sym len ∙ ap length e in omega (arith, h, k, apart)

pub step_end : (i : ℕ) (xs ys ks ms : List ℕ) → xs ≡ raised ks (take i ms) → length xs ≡ i → i < length ms → ys ≡ xs ++ get_or ms i 0 ∷ [] → ys ≡ raised ks (take (i + 1) ms)
step_end i xs ys ks ms e len lt new =
    new ∙ ap (λ v. v ++ get_or ms i 0 ∷ []) e ∙ raised_end i ks ms (get_or ms i 0) lt (get_any ms i 0 (get_or ms i 0) lt) (ap length (sym e) ∙ len) ∙ one_more i ks ms

pub step_less : (i k : ℕ) (xs ys ks ms : List ℕ) → xs ≡ raised ks (take i ms) → i < length xs → i < length ms → k ≡ get_or xs i k → k < get_or ms i 0 → ys ≡ set xs i (get_or ms i 0) → ys ≡ raised ks (take (i + 1) ms)
step_less i k xs ys ks ms e in_xs lt read up new =
    new ∙ ap (λ v. set v i (get_or ms i 0)) e
    ∙ raised_less i ks ms (get_or ms i 0) k lt (get_any ms i 0 (get_or ms i 0) lt) (subst (λ v. i < length v) e in_xs) (read ∙ ap (λ v. get_or v i k) e) up ∙ one_more i ks ms

pub step_kept : (i k : ℕ) (xs ks ms : List ℕ) → xs ≡ raised ks (take i ms) → i < length xs → i < length ms → k ≡ get_or xs i k → get_or ms i 0 ≤ k → xs ≡ raised ks (take (i + 1) ms)
step_kept i k xs ks ms e in_xs lt read up =
    e ∙ raised_kept i ks ms (get_or ms i 0) k lt (get_any ms i 0 (get_or ms i 0) lt) (subst (λ v. i < length v) e in_xs) (read ∙ ap (λ v. get_or v i k) e) up ∙ one_more i ks ms

-- ---- compared

abbrev no_counts : List ℕ
no_counts = []

drop_none : (i : ℕ) → drop i no_counts ≡ no_counts
drop_none zero = refl
drop_none (suc i) = refl

get_none : (i : ℕ) → get_or no_counts i 0 ≡ 0
get_none i = refl

-- the next count is greater, or one after it
pub behind_next : (i : ℕ) (ks ms : List ℕ) (m : ℕ) → i < length ms → m ≡ get_or ms i m → is_behind (drop i ks) (drop i ms) ≡ (nat_lt (get_or ks i 0) m || is_behind (drop (suc i) ks) (drop (suc i) ms))
behind_next i ks [] m lt e = absurd (omega (arith, lt))
behind_next zero [] (n ∷ ms) m lt e = ap (λ v. nat_lt 0 v || is_behind [] ms) (sym e)
behind_next zero (k ∷ ks) (n ∷ ms) m lt e = ap (λ v. nat_lt k v || is_behind ks ms) (sym e)
behind_next (suc i) [] (n ∷ ms) m lt e = ap (λ v. is_behind v (drop i ms)) (sym (drop_none i)) ∙ behind_next i [] ms m (omega (arith, lt)) e
behind_next (suc i) (k ∷ ks) (n ∷ ms) m lt e = behind_next i ks ms m (omega (arith, lt)) e

pub drop_all : {A : Type 0} (xs : List A) → drop (length xs) xs ≡ []
drop_all [] = refl
drop_all (x ∷ xs) = drop_all xs

-- ---- news

-- the next node's reports, and those of the nodes after it
pub news_next : (b : BoardValue) (i : ℕ) (ps : List PeerValue) (ks ms : List ℕ) (p : PeerValue) (m : ℕ) → i < length ms → i < length ps → p ≡ get_or ps i p → m ≡ get_or ms i m → news_to b (drop i ps) (drop i ks) (drop i ms) ≡ news_to (reports_to b (take (m - get_or ks i 0) (drop (get_or ks i 0) p.reports))) (drop (suc i) ps) (drop (suc i) ks) (drop (suc i) ms)
news_next b i ps ks [] p m lt in_ps ep em = absurd (omega (arith, lt))
news_next b i [] ks (n ∷ ms) p m lt in_ps ep em = absurd (omega (arith, in_ps))
news_next b zero (q ∷ ps) [] (n ∷ ms) p m lt in_ps ep em = let z : n ≡ m - 0 = omega (arith, em) in λ i. news_to (reports_to b (take (z i) (sym ep i).reports)) ps [] ms
news_next b zero (q ∷ ps) (k ∷ ks) (n ∷ ms) p m lt in_ps ep em = λ i. news_to (reports_to b (take (sym em i - k) (drop k (sym ep i).reports))) ps ks ms
news_next b (suc i) (q ∷ ps) [] (n ∷ ms) p m lt in_ps ep em = ap (λ v. news_to b (drop i ps) v (drop i ms)) (sym (drop_none i)) ∙ news_next b i ps [] ms p m (omega (arith, lt)) (omega (arith, in_ps)) ep em
news_next b (suc i) (q ∷ ps) (k ∷ ks) (n ∷ ms) p m lt in_ps ep em = news_next b i ps ks ms p m (omega (arith, lt)) (omega (arith, in_ps)) ep em

-- of a node of which so much is known there are no news
pub news_old : (b : BoardValue) (i : ℕ) (ps : List PeerValue) (ks ms : List ℕ) (m : ℕ) → i < length ms → i < length ps → m ≡ get_or ms i m → m ≤ get_or ks i 0 → news_to b (drop i ps) (drop i ks) (drop i ms) ≡ news_to b (drop (suc i) ps) (drop (suc i) ks) (drop (suc i) ms)
news_old b i ps ks [] m lt in_ps em le = absurd (omega (arith, lt))
news_old b i [] ks (n ∷ ms) m lt in_ps em le = absurd (omega (arith, in_ps))
news_old b zero (q ∷ ps) [] (n ∷ ms) m lt in_ps em le = let z : n ≡ 0 = omega (arith, em, le) in ap (λ v. news_to (reports_to b (take v q.reports)) ps [] ms) z
news_old b zero (q ∷ ps) (k ∷ ks) (n ∷ ms) m lt in_ps em le = let z : n - k ≡ 0 = omega (arith, em, le) in ap (λ v. news_to (reports_to b (take v (drop k q.reports))) ps ks ms) z
news_old b (suc i) (q ∷ ps) [] (n ∷ ms) m lt in_ps em le = ap (λ v. news_to b (drop i ps) v (drop i ms)) (sym (drop_none i)) ∙ news_old b i ps [] ms m (omega (arith, lt)) (omega (arith, in_ps)) em le
news_old b (suc i) (q ∷ ps) (k ∷ ks) (n ∷ ms) m lt in_ps em le = news_old b i ps ks ms m (omega (arith, lt)) (omega (arith, in_ps)) em le

-- counts of as many nodes as there are, and of as many reports
pub within_nodes : (ps : List PeerValue) (ms : List ℕ) → AreWithin ps ms → length ms ≤ length ps
within_nodes ps [] w = omega arith
within_nodes [] (m ∷ ms) w = absurd w
within_nodes (p ∷ ps) (m ∷ ms) w = let h = within_nodes ps ms w.1 in omega (arith, h)

pub within_reports : (i : ℕ) (ps : List PeerValue) (ms : List ℕ) (p : PeerValue) (m : ℕ) → AreWithin ps ms → i < length ms → p ≡ get_or ps i p → m ≡ get_or ms i m → m ≤ length p.reports
within_reports i ps [] p m w lt ep em = absurd (omega (arith, lt))
within_reports i [] (n ∷ ms) p m w lt ep em = absurd w
within_reports zero (q ∷ ps) (n ∷ ms) p m w lt ep em = let h = w.0 in let e = ap (λ (v : PeerValue). length v.reports) ep in omega (arith, h, e, em)
within_reports (suc i) (q ∷ ps) (n ∷ ms) p m w lt ep em = within_reports i ps ms p m w.1 (omega (arith, lt)) ep em

-- all news were taken
pub news_end : (b : BoardValue) (ps : List PeerValue) (ks : List ℕ) → news_to b ps ks [] ≡ b
news_end b [] ks = refl
news_end b (p ∷ ps) ks = refl

drop_past : {A : Type 0} (i : ℕ) (xs : List A) → length xs ≤ i → drop i xs ≡ []
drop_past zero [] le = refl
drop_past (suc i) [] le = refl
drop_past zero (x ∷ xs) le = absurd (omega (arith, le))
drop_past (suc i) (x ∷ xs) le = drop_past i xs (omega (arith, le))

pub news_done : (b all : BoardValue) (i : ℕ) (ps : List PeerValue) (ks ms : List ℕ) → length ms ≤ i → news_to b (drop i ps) (drop i ks) (drop i ms) ≡ all → b ≡ all
news_done b all i ps ks ms le e = sym (ap (news_to b (drop i ps) (drop i ks)) (drop_past i ms le) ∙ news_end b (drop i ps) (drop i ks)) ∙ e

pub reports_there : (i : ℕ) (ps : List PeerValue) (ms : List ℕ) (p : PeerValue) → AreWithin ps ms → i < length ms → p ≡ get_or ps i p → get_or ms i 0 ≤ length p.reports
reports_there i ps ms p w lt ep = within_reports i ps ms p (get_or ms i 0) w lt ep (get_any ms i 0 (get_or ms i 0) lt)

pub step_taken : (b c all : BoardValue) (i f : ℕ) (ps : List PeerValue) (ks ms : List ℕ) (p : PeerValue) → i < length ms → length ms ≤ length ps → p ≡ get_or ps i p → f ≡ get_or ks i 0
    → c ≡ reports_to b (take (get_or ms i 0 - f) (drop f p.reports)) → news_to b (drop i ps) (drop i ks) (drop i ms) ≡ all → news_to c (drop (i + 1) ps) (drop (i + 1) ks) (drop (i + 1) ms) ≡ all
step_taken b c all i f ps ks ms p lt le ep ef new e =
    let next : i + 1 ≡ suc i = omega arith in
    let taken : c ≡ reports_to b (take (get_or ms i 0 - get_or ks i 0) (drop (get_or ks i 0) p.reports)) = new ∙ ap (λ v. reports_to b (take (get_or ms i 0 - v) (drop v p.reports))) ef in
    (λ j. news_to (taken j) (drop (next j) ps) (drop (next j) ks) (drop (next j) ms))
    ∙ sym (news_next b i ps ks ms p (get_or ms i 0) lt (omega (arith, lt, le)) ep (get_any ms i 0 (get_or ms i 0) lt)) ∙ e

pub step_old : (b all : BoardValue) (i f : ℕ) (ps : List PeerValue) (ks ms : List ℕ) → i < length ms → length ms ≤ length ps → f ≡ get_or ks i 0 → get_or ms i 0 ≤ f
    → news_to b (drop i ps) (drop i ks) (drop i ms) ≡ all → news_to b (drop (i + 1) ps) (drop (i + 1) ks) (drop (i + 1) ms) ≡ all
step_old b all i f ps ks ms lt le ef old e =
    let next : i + 1 ≡ suc i = omega arith in
    (λ j. news_to b (drop (next j) ps) (drop (next j) ks) (drop (next j) ms))
    ∙ sym (news_old b i ps ks ms (get_or ms i 0) lt (omega (arith, lt, le)) (get_any ms i 0 (get_or ms i 0) lt) (subst (λ v. get_or ms i 0 ≤ v) ef old)) ∙ e
