use Rattle.std.proofs.Common.{◌≡◌, ap, sym, ◌∙◌, subst, take, List, ℕ, length, ◌∷◌, [], ◌++◌, ◌<◌, ◌+◌}
use Rattle.std.proofs.lemmas.List.{take_more, take_all}
use Rattle.squall_course.specs.Change.{Change}
use Rattle.squall_board.specs.Boards.{BoardValue}
use Rattle.squall_cluster_inbox.specs.Letters.{Allowance}
use Rattle.squall_cluster.specs.Race.{GrownTo, Read}
use Rattle.squall_cluster.proofs.Races.{grown_more, read_end}
use Rattle.squall_cluster.proofs.reading.route_all.Goals as goal

pub loop-key-preserved : goal.loop-key-preserved
loop-key-preserved g c =
    let a = c.in-Some.ensures in
    let allowed : Allowance = g.K.Constants.allowed in
    let first : Change = g.K.Constants.first in
    let opening : BoardValue = g.K.Constants.opening in
    let keys : List ℕ = c.args.keys.now in
    let n : ℕ = c.loop-key.key-index in
    let k : ℕ = c.key-item.result in
    let start : List BoardValue = c.args.seat.known in
    let old : List ℕ = c.loop-key.routes.items in
    let was : List BoardValue = c.loop-key.seat.known in
    let now : List BoardValue = c.route-route.new.self.seen in
    let below : n < length keys = c.loop-key-test.true in
    let grown : GrownTo allowed first opening start (take n keys ++ k ∷ []) (old ++ c.in-Some.route ∷ []) now = grown_more allowed first opening start (take n keys) old was now k c.in-Some.route c.loop-key.invariant a.seen_begins_with_known a.letters a.route_of_seen in
    let more : take (n + 1) keys ≡ take n keys ++ k ∷ [] = take_more keys n k below ∙ ap (λ j. take n keys ++ j ∷ []) (sym c.key-item.is) in
    let F : (List ℕ × List ℕ) × List BoardValue → Type 0 = λ x. GrownTo allowed first opening start x.0.0 x.0.1 x.1 in
    let items : c.push_reserved.new.self.items ≡ old ++ c.in-Some.route ∷ [] = c.push_reserved.ensures.items ∙ ap (λ (l : List ℕ). l ++ c.in-Some.route ∷ []) c.reserve.ensures.items in
    subst F (λ i. ((sym more i, sym items i), sym a.known i)) grown

pub returns : goal.returns
returns g c =
    let keys : List ℕ = c.args.keys.now in
    let n : ℕ = c.loop-key.key-index in
    let whole : take n keys ≡ keys = take_all n keys c.loop-key-test.false in
    subst (λ (l : List ℕ). Read g.K.Constants.allowed g.K.Constants.first g.K.Constants.opening l c.loop-key.routes.items) whole (read_end g.K.Constants.allowed g.K.Constants.first g.K.Constants.opening c.args.seat.known (take n keys) c.loop-key.routes.items c.loop-key.seat.known c.loop-key.invariant)
