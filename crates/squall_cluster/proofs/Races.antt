-- Races: lists that are posted, and routes by letters that only grow.
use Rattle.std.proofs.Common.{◌≡◌, ℕ, ◌+◌, ◌<◌, suc, zero, List, [], ◌∷◌, ◌++◌, length, get_or, Some, refl, sym, ap, ◌∙◌, subst, arith, map, All, Result, Ok, Err, IfOk, eq-eqb, ne_eqb}
use Rattle.std.proofs.lemmas.List.{length-map, map-append}
use Rattle.std.proofs.lemmas.List.Elements.{All-nil, All-cons}
use Rattle.std.specs.List.{Contains, AllByRecursion}
use mathlib.Core.List.{IsPrefix}
use Rattle.atomic_table.specs.Seated.{TableId}
use Rattle.squall_course.specs.Change.{Change}
use Rattle.squall_board.specs.Boards.{BoardValue, IsBoard, report_board}
use Rattle.squall_board.specs.CourseRoute.{route_by_newest}
use Rattle.squall_report.specs.declared.report.ReportKind.{ReportKind}
use Rattle.squall_report.specs.Issues.{PlanPair}
use Rattle.squall_cluster_inbox.specs.Letters.{Allowance, IsAllowed, AreLetters, list_at, board_after}
use Rattle.squall_cluster_inbox.specs.Inbox.{posted}
use Rattle.squall_cluster_inbox.specs.Ends.{Posting, Numbered, vouching}
use Rattle.squall_cluster.specs.Owners.{Owning, Fresh}
use Rattle.squall_cluster.specs.Race.{Reports, boards_of, Bring, Within, Grown, GrownTo, Read, end_of, AllBring, SentAll}

-- ---- posts

-- one letter more, for one report more
pub bring_more : (xs : List BoardValue) (x : BoardValue) (rs : Reports) (r : ReportKind PlanPair) → Bring xs rs → x ≡ report_board r → IsBoard x → Bring (xs ++ x ∷ []) (rs ++ r ∷ [])
bring_more xs x rs r h is one = (
  ap (λ l. l ++ x ∷ []) h.0 ∙ ap (λ b. boards_of rs ++ b ∷ []) is ∙ sym (map-append report_board rs (r ∷ [])),
  boards_more xs x h.1 one,
)
  where
    boards_more : (xs : List BoardValue) (x : BoardValue) → AllByRecursion IsBoard xs → IsBoard x → AllByRecursion IsBoard (xs ++ x ∷ [])
    boards_more [] x all one = (one, tt)
    boards_more (y ∷ ys) x all one = (all.0, boards_more ys x all.1 one)

-- ---- routes

pub grown_more : (allowed : Allowance) (first : Change) (opening : BoardValue) (known : List BoardValue) (ks : List ℕ) (routes : List ℕ) (last now : List BoardValue) (k r : ℕ) → GrownTo allowed first opening known ks routes last → IsPrefix last now → AreLetters allowed now → r ≡ route_by_newest first (board_after opening now) k
    → GrownTo allowed first opening known (ks ++ k ∷ []) (routes ++ r ∷ []) now
grown_more allowed first opening known [] routes last now k r h p are is = (now, [], ap (λ l. l ++ r ∷ []) h.0 ∙ ap (λ x. x ∷ []) is, subst (λ l. IsPrefix l now) (sym h.1) p, are, (refl, refl))
grown_more allowed first opening known (j ∷ js) routes last now k r h p are is = (h.0, h.1 ++ r ∷ [], ap (λ l. l ++ r ∷ []) h.2, h.3, h.4, grown_more allowed first opening h.0 js h.1 last now k r h.5 p are is)

-- where the routes came so far
grown_end : (allowed : Allowance) (first : Change) (opening : BoardValue) (known : List BoardValue) (ks : List ℕ) (routes : List ℕ) (last : List BoardValue) → GrownTo allowed first opening known ks routes last → Grown allowed first opening known ks routes
grown_end allowed first opening known [] routes last h = h.0
grown_end allowed first opening known (k ∷ ks) routes last h = (h.0, h.1, h.2, h.3, h.4, grown_end allowed first opening h.0 ks h.1 last h.5)

pub read_end : (allowed : Allowance) (first : Change) (opening : BoardValue) (known : List BoardValue) (ks : List ℕ) (routes : List ℕ) (last : List BoardValue) → GrownTo allowed first opening known ks routes last → Read allowed first opening ks routes
read_end allowed first opening known [] routes last h = h.0
read_end allowed first opening known (k ∷ ks) routes last h = (h.0, h.1, h.2, (h.0, refl), h.4, grown_end allowed first opening h.0 ks h.1 last h.5)

-- ---- senders whose lists are posted

pub all_bring_append : (ss ts : List Posting) (ls ms : List Reports) → AllBring ss ls → AllBring ts ms → AllBring (ss ++ ts) (ls ++ ms)
all_bring_append [] ts ls ms h g = subst (λ l. AllBring ts (l ++ ms)) (sym h) g
all_bring_append (s ∷ ss) ts [] ms h g = absurd h
all_bring_append (s ∷ ss) ts (l ∷ ls) ms h g = (h.0, all_bring_append ss ts ls ms h.1 g)

pub sent_append : (ss ts : List Posting) (ls ms : List Reports) (one other : List Posting) → SentAll ss ls one → SentAll ts ms other → SentAll (ss ++ ts) (ls ++ ms) (one ++ other)
sent_append ss ts ls ms one other h g = (
  map-append end_of one other ∙ ap (λ l. l ++ map end_of other) h.0 ∙ ap (λ l. map end_of ss ++ l) g.0 ∙ sym (map-append end_of ss ts),
  all_bring_append one other ls ms h.1 g.1,
)

-- these have the inbox, and are numbered from n on
abbrev pub Ends : TableId → ℕ → List Posting → Type 0
Ends inbox n [] = Unit {0}
Ends inbox n (s ∷ ss) = (s.inbox ≡ inbox) × (s.from ≡ n) × Ends inbox (suc n) ss

ends_of : (inbox : TableId) (n : ℕ) (senders spent : List Posting) → Numbered inbox n senders → map end_of spent ≡ map end_of senders → Ends inbox n spent
ends_of inbox n [] [] h e = tt
ends_of inbox n [] (x ∷ xs) h e = absurd cc
ends_of inbox n (s ∷ ss) [] h e = absurd cc
ends_of inbox n (s ∷ ss) (x ∷ xs) h e =
    let head : end_of x ≡ end_of s = cc in
    let rest : map end_of xs ≡ map end_of ss = cc in (
      ap (λ (t : TableId × ℕ). t.0) head ∙ ap (λ (p : Posting). p.inbox) h.0,
      ap (λ (t : TableId × ℕ). t.1) head ∙ ap (λ (p : Posting). p.from) h.0,
      ends_of inbox (suc n) ss xs h.1 rest,
    )

ends_inbox : (inbox : TableId) (n : ℕ) (spent : List Posting) → Ends inbox n spent → All (λ s. s.inbox ≡ inbox) spent
ends_inbox inbox n [] h = All-nil (λ (s : Posting). s.inbox ≡ inbox)
ends_inbox inbox n (s ∷ ss) h = All-cons (λ (s : Posting). s.inbox ≡ inbox) s ss h.0 (ends_inbox inbox (suc n) ss h.2)

numbered_new : (inbox : TableId) (n : ℕ) (senders : List Posting) → Numbered inbox n senders → All (λ s. s.posted ≡ []) senders
numbered_new inbox n [] h = All-nil (λ (s : Posting). s.posted ≡ [])
numbered_new inbox n (s ∷ ss) h = All-cons (λ (s : Posting). s.posted ≡ []) s ss (ap (λ (p : Posting). p.posted) h.0) (numbered_new inbox (suc n) ss h.1)

length-vouching : (xs : List Posting) (known : List (ℕ × List BoardValue)) → length (vouching xs known) ≡ length xs + length known
length-vouching [] known = omega arith
length-vouching (x ∷ xs) known = length-vouching xs ((x.from, x.posted) ∷ known) ∙ omega arith

-- a list of another number is not that of p
posted_else : (p : ℕ) (s : Posting) (known : List (ℕ × List BoardValue)) → (s.from ≡ p → ⊥) → posted p ((s.from, s.posted) ∷ known) ≡ posted p known
posted_else p s known n = rw (ne_eqb s.from p n)

posted_here : (p : ℕ) (s : Posting) (known : List (ℕ × List BoardValue)) → s.from ≡ p → posted p ((s.from, s.posted) ∷ known) ≡ s.posted
posted_here p s known e = rw (eq-eqb s.from p e)

vouched_below : (inbox : TableId) (n : ℕ) (spent : List Posting) (known : List (ℕ × List BoardValue)) (p : ℕ) → Ends inbox n spent → p < n → posted p (vouching spent known) ≡ posted p known
vouched_below inbox n [] known p h lt = refl
vouched_below inbox n (s ∷ ss) known p h lt = vouched_below inbox (suc n) ss ((s.from, s.posted) ∷ known) p h.2 (omega arith) ∙ posted_else p s known (λ same. absurd (let a = h.1 in omega arith))

vouched_at : (inbox : TableId) (n : ℕ) (spent : List Posting) (lists : List Reports) (known : List (ℕ × List BoardValue)) (p k : ℕ) → Ends inbox n spent → AllBring spent lists → p ≡ n + k → posted p known ≡ []
    → Bring (posted p (vouching spent known)) (list_at k lists)
vouched_at inbox n [] [] known p k h e at none = (none, subst (AllByRecursion IsBoard) (sym none) tt)
vouched_at inbox n [] (l ∷ ls) known p k h e at none = absurd cc
vouched_at inbox n (s ∷ ss) [] known p k h e at none = absurd e
vouched_at inbox n (s ∷ ss) (l ∷ ls) known p zero h e at none =
    let is : posted p (vouching ss ((s.from, s.posted) ∷ known)) ≡ s.posted = vouched_below inbox (suc n) ss ((s.from, s.posted) ∷ known) p h.2 (omega arith) ∙ posted_here p s known (let a = h.1 in omega arith) in
    subst (λ x. Bring x l) (sym is) e.0
vouched_at inbox n (s ∷ ss) (l ∷ ls) known p (suc k) h e at none =
    vouched_at inbox (suc n) ss ls ((s.from, s.posted) ∷ known) p k h.2 e.1 (omega arith) (posted_else p s known (λ same. absurd (let a = h.1 in omega arith)) ∙ none)

pub fresh_new : (o : Owning) (senders : List Posting) → Fresh o senders → All (λ s. s.posted ≡ []) senders
fresh_new o senders h = numbered_new o.inbox 0 senders h.1

-- the owner vouches for the lists of all
pub settled : (o o' : Owning) (senders spent : List Posting) (lists : List Reports) → Fresh o senders → o'.inbox ≡ o.inbox → o'.made ≡ o.made → o'.vouched ≡ o.vouched → SentAll senders lists spent
    → All (λ s. s.inbox ≡ o'.inbox) spent × (length (vouching spent o'.vouched) ≡ o'.made) × ((p : ℕ) → Bring (posted p (vouching spent o'.vouched)) (list_at p lists))
settled o o' senders spent lists fresh inbox made vouched sent =
    let ends : Ends o.inbox 0 spent = ends_of o.inbox 0 senders spent fresh.1 sent.0 in
    let none : o'.vouched ≡ [] = vouched ∙ ap (λ (a : Owning). a.vouched) fresh.0 in
    let count : o.made ≡ length senders = ap (λ (a : Owning). a.made) fresh.0 in
    let same : length spent ≡ length senders = sym (length-map spent end_of) ∙ ap length sent.0 ∙ length-map senders end_of in
    let empty : length o'.vouched ≡ 0 = ap length none in (
      subst (λ (t : TableId). All (λ s. s.inbox ≡ t) spent) (sym inbox) (ends_inbox o.inbox 0 spent ends),
      length-vouching spent o'.vouched ∙ omega arith,
      λ p. vouched_at o.inbox 0 spent lists o'.vouched p p ends sent.1 (omega arith) (ap (posted p) none),
    )

-- what both gave
pub both_first : {A C E : Type 0} (P : A → Type 0) (first : C → A) (one : Result A E) (r : Result C E) → IfOk r (λ x. one ≡ Ok (first x)) → IfOk one P → IfOk r (λ x. P (first x))
both_first P first one (Ok x) h p = subst (λ o. IfOk o P) h p
both_first P first one (Err e) h p = tt

-- each list is within the lists
pub within_all : {X : Type 0} (items_of : X → Reports) (allowed : Allowance) (xs : List X) → allowed ≡ Some (map items_of xs) → All (λ x. Within allowed (items_of x)) xs
within_all items_of allowed xs is k d lt = record {
  each = λ letter r at taken. subst (λ a. IsAllowed a letter) (sym is) (k, r, subst (λ ys. Contains ys r) (sym (list_at_map items_of xs k d lt)) at, taken);
}
  where
    list_at_map : {X : Type 0} (items_of : X → Reports) (xs : List X) (k : ℕ) (d : X) → k < length xs → list_at k (map items_of xs) ≡ items_of (get_or xs k d)
    list_at_map items_of [] k d lt = absurd (omega arith)
    list_at_map items_of (x ∷ xs) zero d lt = refl
    list_at_map items_of (x ∷ xs) (suc k) d lt = list_at_map items_of xs k d (omega arith)

-- what follows from what holds at Ok
pub ok_weaker : {A E : Type 0} (r : Result A E) (P Q : A → Type 0) → IfOk r P → ((x : A) → P x → Q x) → IfOk r Q
ok_weaker (Ok x) P Q h f = f x h
ok_weaker (Err e) P Q h f = tt
