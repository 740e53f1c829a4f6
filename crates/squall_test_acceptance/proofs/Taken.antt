-- Reports that a router took one by one, and a board that it absorbed then, as the headline's ways.
use Rattle.std.specs.Prelude.{◌≡◌, ℕ, List, [], ◌∷◌, ◌++◌, map, refl}
use Rattle.std.proofs.Common.{sym, ap, subst, ◌∙◌}
use Rattle.std.proofs.lemmas.List.{append-nil}
use Rattle.squall_course.specs.Change.{Change}
use Rattle.squall_report.specs.Facts.{reports_say}
use Rattle.squall_board.specs.Boards.{BoardValue}
use Rattle.squall_board.specs.CourseRoute.{course_of_reports}
use Rattle.squall_headline.specs.Ways.{Reports, Packed, Way, ByTake, ByMerge, Leads, LeadOn, reports_of, IsSent}

-- what comes report by report is the list of the reports
taken_each : (rs : Reports) → reports_of (map ByTake rs) ≡ rs
taken_each [] = refl
taken_each (r ∷ rs) = ap (λ (qs : Reports). r ∷ qs) (taken_each rs)

-- and a board after them brings what it has taken
taken_both : (rs : Reports) (p : Packed) → reports_of (map ByTake rs ++ ByMerge p ∷ []) ≡ rs ++ p.reports
taken_both [] p = append-nil p.reports
taken_both (r ∷ rs) p = ap (λ (qs : Reports). r ∷ qs) (taken_both rs p)

-- one way more
pub leads_on : (ws : List Way) (w : Way) (a b c : BoardValue) → LeadOn ws a b → Leads w b c → LeadOn (ws ++ w ∷ []) a c
leads_on [] w a b c same leads = (c, subst (λ (x : BoardValue). Leads w x c) (sym same) leads, refl)
leads_on (v ∷ ws) w a b c (middle, first, on) leads = (middle, first, leads_on ws w middle b c on leads)

-- where reports send a key, that are the same as others, by a course that is the same as another
sent_by : (c d : Change) (rs qs : Reports) (k part : ℕ) → c ≡ d → rs ≡ qs → IsSent (course_of_reports c rs) (reports_say rs) k part → IsSent (course_of_reports d qs) (reports_say qs) k part
sent_by c d rs qs k part same are sent =
    subst (λ (x : Change). IsSent (course_of_reports x qs) (reports_say qs) k part) same
    (subst (λ (xs : Reports). IsSent (course_of_reports c xs) (reports_say xs) k part) are sent)

pub sent_by_each : (c d : Change) (rs : Reports) (k part : ℕ) → c ≡ d → IsSent (course_of_reports c (reports_of (map ByTake rs))) (reports_say (reports_of (map ByTake rs))) k part → IsSent (course_of_reports d rs) (reports_say rs) k part
sent_by_each c d rs k part same sent = sent_by c d (reports_of (map ByTake rs)) rs k part same (taken_each rs) sent

abbrev pub by_both : Reports → Packed → List Way
by_both rs p = map ByTake rs ++ ByMerge p ∷ []

pub sent_by_both : (c d : Change) (rs : Reports) (p : Packed) (k part : ℕ) → c ≡ d → IsSent (course_of_reports c (reports_of (by_both rs p))) (reports_say (reports_of (by_both rs p))) k part → IsSent (course_of_reports d (rs ++ p.reports)) (reports_say (rs ++ p.reports)) k part
sent_by_both c d rs p k part same sent = sent_by c d (reports_of (by_both rs p)) (rs ++ p.reports) k part same (taken_both rs p) sent
