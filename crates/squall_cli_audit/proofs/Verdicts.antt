-- What texts and verdicts mean.
use Rattle.std.proofs.Common.{◌≡◌, ◌∙◌, inl, inr, ℕ, List, [], ◌∷◌, ◌++◌, map, None, Some, refl, sym, subst, ap}
use Rattle.squall_plan.specs.declared.range.PlanRange.{PlanRange}
use Rattle.squall_protocol.specs.declared.event.Node.{Node}
use Rattle.squall_judge.specs.declared.log.Entry.{Entry}
use Rattle.squall_judge.specs.declared.log.Log.{Log}
use Rattle.squall_judge.specs.declared.judgment.Judgment.{Judgment}
use Rattle.squall_judge.specs.declared.judgment.Judgment.TheVariants.{Accepted, Refused as RefusedLogs}
use Rattle.squall_judge.specs.Judging.{IsJudged}
use Rattle.squall_cli_lines.specs.declared.Ended.TheVariants.{Fine, Refused}
use Rattle.squall_cli_audit.specs.LogLines.{entry_of}
use Rattle.squall_cli_audit.specs.LogTexts.{filled_lines, Says, AreLog, IsLogOf, IsFirstBad, AreBad, HasBadLine, IsSameLog}
use Rattle.squall_cli_audit.specs.LogFiles.{FileValue, AreLogsOf}
use Rattle.squall_cli_audit.specs.Audits.{ShowsJudgment, ShowsLogs, MayShow, AreOfARun}

-- ---- one log

some_same : {A : Type 0} (x y : A) → Some x ≡ Some y → x ≡ y
some_same x y e = cc

some_none : {A : Type 0} (x : A) → Some x ≡ None → ⊥
some_none x e = cc

one_head : {A : Type 0} (x y : A) (xs ys : List A) → x ∷ xs ≡ y ∷ ys → x ≡ y
one_head x y xs ys e = cc

one_tail : {A : Type 0} (x y : A) (xs ys : List A) → x ∷ xs ≡ y ∷ ys → xs ≡ ys
one_tail x y xs ys e = cc

no_cons : {A : Type 0} (x : A) (xs : List A) → x ∷ xs ≡ [] → ⊥
no_cons x xs e = cc

somes_same : (xs ys : List Entry) → map Some xs ≡ map Some ys → xs ≡ ys
somes_same [] [] e = refl
somes_same [] (y ∷ ys) e = absurd (no_cons _ _ (sym e))
somes_same (x ∷ xs) [] e = absurd (no_cons _ _ e)
somes_same (x ∷ xs) (y ∷ ys) e =
    let first = some_same x y (one_head (Some x) (Some y) (map Some xs) (map Some ys) e) in
    let rest = somes_same xs ys (one_tail (Some x) (Some y) (map Some xs) (map Some ys) e) in
    ap (λ z. z ∷ xs) first ∙ ap (λ zs. y ∷ zs) rest

says_once : (m : Node) (lines : List (ℕ × List ℕ)) (es fs : List Entry) (ns ms : List ℕ) → Says m lines es ns → Says m lines fs ms → (es ≡ fs) × (ns ≡ ms)
says_once m lines es fs ns ms h i = (somes_same es fs (sym h.said ∙ i.said), sym h.counted ∙ i.counted)

same_lines : (lines : List (ℕ × List ℕ)) (a b : Log) (ns ms : List ℕ) → AreLog lines a ns → AreLog lines b ms → IsSameLog a b ns ms
same_lines [] a b ns ms h i = absurd h
same_lines (first ∷ lines) a b ns ms h i =
    let node : a.node ≡ b.node = some_same a.node b.node (sym h.0 ∙ i.0) in
    let once = says_once b.node lines a.entries.items b.entries.items ns ms (subst (λ m. Says m lines a.entries.items ns) node h.1) i.1 in
    record { node = node; entries = once.0; numbers = once.1 }

pub one_log_of : (text : List ℕ) (a b : Log) (ns ms : List ℕ) → IsLogOf text a ns → IsLogOf text b ms → IsSameLog a b ns ms
one_log_of text a b ns ms h i = same_lines (filled_lines 1 text) a b ns ms h i

-- ---- bad lines

all_some : (m : Node) (before : List (ℕ × List ℕ)) (bad : ℕ × List ℕ) (after : List (ℕ × List ℕ)) (es : List Entry) → map (λ (l : ℕ × List ℕ). entry_of m l.1) (before ++ bad ∷ after) ≡ map Some es → entry_of m bad.1 ≡ None → ⊥
all_some m [] bad after [] e none = no_cons _ _ e
all_some m [] bad after (x ∷ xs) e none = some_none x (sym (one_head (entry_of m bad.1) (Some x) (map (λ (l : ℕ × List ℕ). entry_of m l.1) after) (map Some xs) e) ∙ none)
all_some m (l ∷ ls) bad after [] e none = no_cons _ _ e
all_some m (l ∷ ls) bad after (x ∷ xs) e none =
    all_some m ls bad after xs (one_tail (entry_of m l.1) (Some x) (map (λ (k : ℕ × List ℕ). entry_of m k.1) (ls ++ bad ∷ after)) (map Some xs) e) none

bad_says_none : (m : Node) (lines : List (ℕ × List ℕ)) (n : ℕ) (es : List Entry) (ns : List ℕ) → IsFirstBad m lines n → Says m lines es ns → ⊥
bad_says_none m lines n es ns b h = all_some m b.before (n, b.line) b.after es (ap (map (λ (l : ℕ × List ℕ). entry_of m l.1)) (sym b.split) ∙ h.said) b.bad

no_log_in : (lines : List (ℕ × List ℕ)) (n : ℕ) (log : Log) (ns : List ℕ) → AreBad lines n → AreLog lines log ns → ⊥
no_log_in [] n log ns b h = h
no_log_in (first ∷ lines) n log ns (inl none) h = some_none log.node (sym h.0 ∙ none.0)
no_log_in (first ∷ lines) n log ns (inr bad) h =
    bad_says_none bad.0 lines n log.entries.items ns bad.2 (subst (λ m. Says m lines log.entries.items ns) (some_same log.node bad.0 (sym h.0 ∙ bad.1)) h.1)

pub bad_is_no_log : (text : List ℕ) (n : ℕ) (log : Log) (ns : List ℕ) → HasBadLine text n → IsLogOf text log ns → ⊥
bad_is_no_log text n log ns b h = no_log_in (filled_lines 1 text) n log ns b h

-- ---- verdicts

not_refused : Fine ≡ Refused → ⊥
not_refused e = cc

of_judgment : (old new : List PlanRange) (files : List FileValue) (shown : List ℕ) (logs : List Log) (nss : List (List ℕ)) (judgment : Judgment) → AreLogsOf files logs nss → IsJudged old new logs judgment → ShowsJudgment files logs nss judgment Fine shown → AreOfARun old new files shown
of_judgment old new files shown logs nss Accepted are judged h =
    record { logs = logs; numbers = nss; are = are; text = h.1; routers = judged.0; world = judged.2.world; run = judged.2.has; reached = judged.2.reached }
of_judgment old new files shown logs nss (RefusedLogs taken causes) are judged h = absurd (not_refused h.0)

of_logs : (old new : List PlanRange) (files : List FileValue) (shown : List ℕ) (logs : List Log) (nss : List (List ℕ)) → AreLogsOf files logs nss → ShowsLogs old new files logs nss Fine shown → AreOfARun old new files shown
of_logs old new files shown logs nss are (inl h) = of_judgment old new files shown logs nss h.0 are h.1 h.2
of_logs old new files shown logs nss are (inr h) = absurd (not_refused h.0)

pub fine_is_a_run : (old new : List PlanRange) (files : List FileValue) (shown : List ℕ) → MayShow old new files Fine shown → AreOfARun old new files shown
fine_is_a_run old new files shown (inl bad) = absurd (not_refused bad.refused)
fine_is_a_run old new files shown (inr v) = of_logs old new files shown v.logs v.numbers v.are v.verdict
