-- Files, one after another.
use Rattle.std.proofs.Common.{◌≡◌, ◌∙◌, ℕ, suc, ◌+◌, ◌<◌, List, [], ◌∷◌, ◌++◌, map, length, take, drop, ap, refl, sym, subst, arith}
use Rattle.std.proofs.Math.ListN.{get_or}
use Rattle.std.proofs.lemmas.List.{append_assoc, length-map, get_or-map, take_more, drop_more}
use Rattle.std.specs.Prelude.{Option, None}
use Rattle.squall_judge.specs.declared.log.Log.{Log}
use Rattle.squall_judge.specs.declared.judgment.Cause.{Cause}
use Rattle.squall_cli_audit.specs.LogTexts.{IsLogOf}
use Rattle.squall_cli_audit.specs.LogFiles.{FileValue, AreLogsOf}
use Rattle.squall_cli_audit.specs.AuditText.{refused_text, refused_lines}

-- ---- logs

logs_end : (fs : List FileValue) (f : FileValue) (logs : List Log) (nss : List (List ℕ)) (log : Log) (ns : List ℕ) → AreLogsOf fs logs nss → IsLogOf f.text log ns → AreLogsOf (fs ++ f ∷ []) (logs ++ log ∷ []) (nss ++ ns ∷ [])
logs_end [] f [] [] log ns a h = (h, tt)
logs_end [] f [] (x ∷ xs) log ns a h = absurd a
logs_end [] f (l ∷ ls) nss log ns a h = absurd a
logs_end (g ∷ gs) f [] nss log ns a h = absurd a
logs_end (g ∷ gs) f (l ∷ ls) [] log ns a h = absurd a
logs_end (g ∷ gs) f (l ∷ ls) (x ∷ xs) log ns a h = (a.0, logs_end gs f ls xs log ns a.1 h)

map_end : {A B : Type 0} (f : A → B) (xs : List A) (x : A) → map f (xs ++ x ∷ []) ≡ map f xs ++ f x ∷ []
map_end f [] x = refl
map_end f (y ∷ ys) x = ap (λ l. f y ∷ l) (map_end f ys x)

take_one : (fs : List FileValue) (i : ℕ) (f : FileValue) → i < length fs → f ≡ get_or fs i f → take (i + 1) fs ≡ take i fs ++ f ∷ []
take_one fs i f l e = take_more fs i f l ∙ ap (λ x. take i fs ++ x ∷ []) (sym e)

-- one more file was read
pub logs_more : {A : Type 0} (g : A → List ℕ) (fs : List FileValue) (i : ℕ) (f : FileValue) (logs more : List Log) (lines others : List A) (log : Log) (ns : A) → i < length fs → f ≡ get_or fs i f → AreLogsOf (take i fs) logs (map g lines) → IsLogOf f.text log (g ns) → more ≡ logs ++ log ∷ [] → others ≡ lines ++ ns ∷ [] → AreLogsOf (take (i + 1) fs) more (map g others)
logs_more g fs i f logs more lines others log ns l e a h p q =
    subst (λ xs. AreLogsOf xs more (map g others)) (sym (take_one fs i f l e))
    (subst (λ ls. AreLogsOf (take i fs ++ f ∷ []) ls (map g others)) (sym p)
    (subst (λ nss. AreLogsOf (take i fs ++ f ∷ []) (logs ++ log ∷ []) nss) (sym (ap (map g) q ∙ map_end g lines ns)) (logs_end (take i fs) f logs (map g lines) log (g ns) a h)))

-- as many logs as files
pub as_many_logs : (fs : List FileValue) (logs : List Log) (nss : List (List ℕ)) → AreLogsOf fs logs nss → length logs ≡ length fs
as_many_logs [] [] nss a = refl
as_many_logs [] (l ∷ ls) nss a = absurd a
as_many_logs (g ∷ gs) [] nss a = absurd a
as_many_logs (g ∷ gs) (l ∷ ls) [] a = absurd a
as_many_logs (g ∷ gs) (l ∷ ls) (x ∷ xs) a = ap suc (as_many_logs gs ls xs a.1)

pub as_many_lines : (fs : List FileValue) (logs : List Log) (nss : List (List ℕ)) → AreLogsOf fs logs nss → length nss ≡ length fs
as_many_lines [] [] [] a = refl
as_many_lines [] [] (x ∷ xs) a = absurd a
as_many_lines [] (l ∷ ls) nss a = absurd a
as_many_lines (g ∷ gs) [] nss a = absurd a
as_many_lines (g ∷ gs) (l ∷ ls) [] a = absurd a
as_many_lines (g ∷ gs) (l ∷ ls) (x ∷ xs) a = ap suc (as_many_lines gs ls xs a.1)

-- ---- what is shown

refused_of : (fs gs : List FileValue) (nss mss : List (List ℕ)) (ts us : List ℕ) (cs ds : List (Option Cause)) (f : FileValue) (ns : List ℕ) (t : ℕ) (c : Option Cause) → fs ≡ f ∷ gs → nss ≡ ns ∷ mss → ts ≡ t ∷ us → cs ≡ c ∷ ds
    → refused_lines fs nss ts cs ≡ refused_text f.name ns t c ++ refused_lines gs mss us ds
refused_of fs gs nss mss ts us cs ds f ns t c d e h k = rw (d, e, h, k) refl

-- the lines from one file on
pub refused_from : {A : Type 0} (g : A → List ℕ) (fs : List FileValue) (lines : List A) (ts : List ℕ) (cs : List (Option Cause)) (i : ℕ) (f : FileValue) (ns : A) → i < length fs → length lines ≡ length fs
    → length ts ≡ length fs → length cs ≡ length fs → f ≡ get_or fs i f → ns ≡ get_or lines i ns
    → refused_lines (drop i fs) (drop i (map g lines)) (drop i ts) (drop i cs)
    ≡ refused_text f.name (g ns) (get_or ts i 0) (get_or cs i None) ++ refused_lines (drop (i + 1) fs) (drop (i + 1) (map g lines)) (drop (i + 1) ts) (drop (i + 1) cs)
refused_from g fs lines ts cs i f ns l a b k d e =
    let within : i < length lines = omega (arith, l, a) in
    refused_of (drop i fs) (drop (i + 1) fs) (drop i (map g lines)) (drop (i + 1) (map g lines)) (drop i ts) (drop (i + 1) ts) (drop i cs) (drop (i + 1) cs) f (g ns) (get_or ts i 0) (get_or cs i None)
    (drop_more fs i f l ∙ ap (λ x. x ∷ drop (i + 1) fs) (sym d))
    (drop_more (map g lines) i (g ns) (omega (arith, within, length-map lines g)) ∙ ap (λ x. x ∷ drop (i + 1) (map g lines)) (get_or-map g lines i ns (g ns) within ∙ ap g (sym e)))
    (drop_more ts i 0 (omega (arith, l, b)))
    (drop_more cs i None (omega (arith, l, k)))

-- the text grows by one line
pub grows_by : (out grown text all rest whole : List ℕ) → grown ≡ out ++ text → all ≡ text ++ rest → out ++ all ≡ whole → grown ++ rest ≡ whole
grows_by out grown text all rest whole e f g = ap (λ o. o ++ rest) e ∙ (append_assoc out text rest ∙ (ap (λ r. out ++ r) (sym f) ∙ g))
