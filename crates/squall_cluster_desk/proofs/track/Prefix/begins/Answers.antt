use Rattle.std.proofs.Common.{◌≤◌, ap, subst, arith, length, List}
use Rattle.std.proofs.lemmas.Bool.Decides.{nat_tests}
use mathlib.Core.List.{IsPrefix}
use Rattle.squall_board.specs.Boards.{BoardValue}
use Rattle.squall_cluster_desk.specs.Track.{Run}
use Rattle.squall_cluster_desk.proofs.Tracks.{prefix_shorter, prefix_length}
use Rattle.squall_cluster_desk.proofs.track.Prefix.begins.Goals as goal

pub returns-clause-begins : goal.returns-clause-begins
returns-clause-begins c t =
    let both = c.learn.new.self.log in
    let this : IsPrefix c.self.inside.seen.log both = subst (λ (l : List BoardValue). IsPrefix l both) (ap (λ s. s.log) c.again-both.ensures) c.learn.ensures.2 in
    let le : c.self.inside.count ≤ c.other.inside.count = grind (arith, nat_tests) in
    let less : length c.self.inside.seen.log ≤ length c.other.inside.seen.log = omega (arith, c.self.invariant, c.other.invariant) in
    rw (← ap (λ (r : Run). r.log) c.self.view_is, ← ap (λ (r : Run). r.log) c.other.view_is) (prefix_shorter c.self.inside.seen.log c.other.inside.seen.log both this c.learn.ensures.3 less)

pub returns-clause-longer : goal.returns-clause-longer
returns-clause-longer c t =
    let both = c.learn.new.self.log in
    let this : IsPrefix c.self.inside.seen.log both = subst (λ (l : List BoardValue). IsPrefix l both) (ap (λ s. s.log) c.again-both.ensures) c.learn.ensures.2 in
    let le : c.other.inside.count ≤ c.self.inside.count = grind (arith, nat_tests) in
    let less : length c.other.inside.seen.log ≤ length c.self.inside.seen.log = omega (arith, c.self.invariant, c.other.invariant) in
    rw (← ap (λ (r : Run). r.log) c.self.view_is, ← ap (λ (r : Run). r.log) c.other.view_is) (prefix_shorter c.other.inside.seen.log c.self.inside.seen.log both c.learn.ensures.3 this less)

pub returns-clause-exact : goal.returns-clause-exact
returns-clause-exact c p =
    let begins : IsPrefix c.self.inside.seen.log c.other.inside.seen.log = rw (ap (λ (r : Run). r.log) c.self.view_is, ap (λ (r : Run). r.log) c.other.view_is) p in
    let le = prefix_length c.self.inside.seen.log c.other.inside.seen.log begins in
    let less : c.self.inside.count ≤ c.other.inside.count = omega (arith, c.self.invariant, c.other.invariant) in
    grind (arith, nat_tests)
