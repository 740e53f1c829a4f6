use Rattle.std.proofs.Common.{◌≡◌, ℕ, [], Some, None, get_or, subst, sym, ap, ◌∙◌, refl, rules}
use Rattle.std.proofs.lemmas.Bool.{false≢true}
use Rattle.squall_span.specs.Spans.{IsSet, has, first_span}
use Rattle.squall_course.specs.Moves.{is_incoming}
use Rattle.squall_part.specs.Loading.{is_missing, comes_in, IsOpen, done_report}
use Rattle.squall_part.proofs.Steps.{missing_keys, incoming_keys, missing_run, none_missing, some_key, finished_part, finish_after}
use Rattle.squall_part.proofs.part.Part.finish.Goals as goal

pub returns-in-Some : goal.returns-in-Some
returns-in-Some c =
    let p = c.args.self.now in
    let course : c.course-course.result.now ≡ (get_or c.args.self.now.logs c.newest_place.result c.index-log.result.now).course = search rules in
    let loaded : c.log.inside.loaded ≡ (get_or c.args.self.now.logs c.newest_place.result c.index-log.result.now).loaded = search rules in
    let comes : (k : ℕ) → has c.in_ok-incoming.incoming k ≡ is_incoming c.course-course.result.now.old c.course-course.result.now.new c.args.sub c.args.self.now.id k =
    λ k. (c.in_ok-incoming.ensures k ∙ ap (λ p. is_incoming c.course-course.result.now.old c.course-course.result.now.new c.args.sub p.id k) c.self.view_is) in
    let keys = missing_keys p c.args.sub c.newest_place.result c.index-log.result.now c.in_ok-incoming.incoming c.in_ok-missing.missing c.log.inside.loaded c.course-course.result.now c.known.ensures c.newest_place.ensures course loaded comes c.in_ok-missing.ensures.keys in
    let opened : IsOpen p c.args.sub = search rules in
    let first : first_span c.in_ok-missing.missing ≡ Some c.in-Some.first = sym c.first.ensures.value ∙ c.in-Some.is in
    record { answer = (opened, missing_run (is_missing p c.args.sub) c.in_ok-missing.missing c.in-Some.first c.first.ensures.set first keys, refl) }

pub invariant_of-self-2 : goal.invariant_of-self-2
invariant_of-self-2 c =
    finished_part _ c.take.new.self c.done_report-report.result c.number-2.result c.args.sub c.self.inside.id c.self.invariant c.known-2.ensures.board c.in_ok-take.ensures.takes.tells c.done_report-report.ensures

pub returns : goal.returns
returns c =
    let p = c.args.self.now in
    let course : c.course-course.result.now ≡ (get_or c.args.self.now.logs c.newest_place.result c.index-log.result.now).course = search rules in
    let loaded : c.log.inside.loaded ≡ (get_or c.args.self.now.logs c.newest_place.result c.index-log.result.now).loaded = search rules in
    let comes : (k : ℕ) → has c.in_ok-incoming.incoming k ≡ is_incoming c.course-course.result.now.old c.course-course.result.now.new c.args.sub c.args.self.now.id k =
    λ k. (c.in_ok-incoming.ensures k ∙ ap (λ p. is_incoming c.course-course.result.now.old c.course-course.result.now.new c.args.sub p.id k) c.self.view_is) in
    let keys = missing_keys p c.args.sub c.newest_place.result c.index-log.result.now c.in_ok-incoming.incoming c.in_ok-missing.missing c.log.inside.loaded c.course-course.result.now c.known.ensures c.newest_place.ensures course loaded comes c.in_ok-missing.ensures.keys in
    let opened : IsOpen p c.args.sub = search rules in
    let empty : first_span c.in_ok-missing.missing ≡ None = sym c.first.ensures.value ∙ c.in_default.is in
    let some : c.in_ok-incoming.incoming ≡ [] → ⊥ = λ e. false≢true (sym c.if-is_empty.false ∙ c.is_empty.ensures.value.1 e) in
    let set = subst IsSet c.incoming-2.view_is c.incoming-2.invariant in
    let due = some_key (comes_in p c.args.sub) c.in_ok-incoming.incoming set some (incoming_keys p c.args.sub c.newest_place.result c.index-log.result.now c.in_ok-incoming.incoming c.course-course.result.now c.newest_place.ensures course comes) in
    let report : c.done_report-report.result ≡ done_report p c.args.sub = search rules in
    let after = finish_after _ c.args.self.now c.take.new.self c.done_report-report.result c.args.sub c.self.view_is c.in_ok-take.ensures.takes.joined report in
    record { answer = (opened, none_missing (is_missing p c.args.sub) c.in_ok-missing.missing empty keys, due, report, after) }
