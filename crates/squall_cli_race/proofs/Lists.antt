-- Lists of reports, of which one grows by a report.
use Rattle.std.proofs.Common.{◌≡◌, ℕ, zero, suc, ◌<◌, List, [], ◌∷◌, ◌++◌, map, length, ap, arith}
use Rattle.std.specs.List.{slice_set, slice_index_or}
use Rattle.squall_report.specs.declared.report.ReportKind.{ReportKind}
use Rattle.squall_report.specs.Issues.{PlanPair}
use Rattle.squall_cluster.specs.Race.{Reports}
use Rattle.squall_cli_race.specs.RaceFiles.{with_report}

-- the list of one number grows by a report, and the others stay
pub one_grows : {A : Type 0} (f : A → Reports) (xs : List A) (p : ℕ) (v d : A) (r : ReportKind PlanPair) → p < length xs → f v ≡ f (slice_index_or xs p d) ++ r ∷ [] → map f (slice_set xs p v) ≡ with_report p r (map f xs)
one_grows f [] p v d r h e = absurd (omega arith)
one_grows f (x ∷ xs) zero v d r h e = ap (λ l. l ∷ map f xs) e
one_grows f (x ∷ xs) (suc p) v d r h e = ap (λ l. f x ∷ l) (one_grows f xs p v d r (omega arith) e)
