use Rattle.std.proofs.Common.{◌≡◌, ℕ, ◌≤◌, ◌<◌, false, Some, option_copied, sym, subst, rules}
use Rattle.squall_span.specs.Spans.{has}
use Rattle.squall_plan.specs.Ranges.{owner_of}
use Rattle.squall_part.specs.Logs.{number_in}
use Rattle.squall_errand.specs.declared.errand.Reply.TheVariants.{Moved}
use Rattle.squall_part.specs.Serving.{IsLastComing, IsReply}
use Rattle.squall_part.proofs.Served.{pending, moved, behind}
use Rattle.squall_part.proofs.part.Part.serve.Goals as goal

pub returns-in-Some : goal.returns-in-Some
returns-in-Some c =
    let p = c.args.self.now in
    let held : has c.args.self.now.held c.args.key ≡ false = search rules in
    let lt : number_in (option_copied c.last_given-given.result) < c.in-Some.log.now.course.number = search rules in
    let owner : c.old_owner.result ≡ owner_of c.in-Some.log.now.course.old c.args.key = search rules in
    pending p c.args.key c.args.after c.old_owner.result (option_copied c.last_given-given.result) c.in-Some.log.now c.known.ensures held c.last_given-given.ensures c.in-Some.ensures.course c.in-Some.ensures.some.0 lt owner

pub returns-in-Some-above : goal.returns-in-Some-above
returns-in-Some-above c =
    let p = c.args.self.now in
    let given = option_copied c.last_given-given.result in
    let held : has c.args.self.now.held c.args.key ≡ false = search rules in
    let number-given : c.number_of.result ≡ number_in (option_copied c.last_given-given.result) = search rules in
    let coming = subst (λ n. (x : ℕ) × IsLastComing p c.args.key x × (x ≤ n)) number-given c.in_default.ensures.none in
    let some : option_copied c.last_given-given.result ≡ Some c.in-Some-above.log.now = search rules in
    let lt : c.args.after < c.in-Some-above.log.now.course.number = search rules in
    let owner : c.new_owner.result ≡ owner_of c.in-Some-above.log.now.course.new c.args.key = search rules in
    let number : c.number.result ≡ c.in-Some-above.log.now.course.number = search rules in
    subst (λ n. IsReply p c.args.key c.args.after (Moved c.new_owner.result n)) (sym number)
    (moved p c.args.key c.args.after c.new_owner.result given c.in-Some-above.log.now c.known.ensures held c.last_given-given.ensures coming some lt owner)

pub returns-then-newest_number-after : goal.returns-then-newest_number-after
returns-then-newest_number-after c =
    let p = c.args.self.now in
    let given = option_copied c.last_given-given.result in
    let held : has c.args.self.now.held c.args.key ≡ false = search rules in
    let number-given : c.number_of.result ≡ number_in (option_copied c.last_given-given.result) = search rules in
    let coming = subst (λ n. (x : ℕ) × IsLastComing p c.args.key x × (x ≤ n)) number-given c.in_default.ensures.none in
    let upto : number_in (option_copied c.last_given-given.result) ≤ c.args.after = search rules in
    (held, behind p c.args.key c.args.after given c.known.ensures c.last_given-given.ensures coming upto, search rules)

pub returns : goal.returns
returns c =
    let p = c.args.self.now in
    let given = option_copied c.last_given-given.result in
    let held : has c.args.self.now.held c.args.key ≡ false = search rules in
    let number-given : c.number_of.result ≡ number_in (option_copied c.last_given-given.result) = search rules in
    let coming = subst (λ n. (x : ℕ) × IsLastComing p c.args.key x × (x ≤ n)) number-given c.in_default.ensures.none in
    let upto : number_in (option_copied c.last_given-given.result) ≤ c.args.after = search rules in
    (held, behind p c.args.key c.args.after given c.known.ensures c.last_given-given.ensures coming upto, search rules, search rules)
