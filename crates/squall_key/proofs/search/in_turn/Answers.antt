use Rattle.std.proofs.Common.{◌≡◌, ◌<◌, length, arith}
use Rattle.std.proofs.lemmas.Bool.Decides.{nat_tests}
use Rattle.squall_key.specs.Search.{end_at}
use Rattle.squall_key.specs.SearchLaws.{turn_first, turn_next, turn_last}
use Rattle.squall_key.proofs.Searching.{ends_rise, end_read, sought_is_ended}
use Rattle.squall_key.proofs.search.in_turn.Goals as goal

pub loop-at-init : goal.loop-at-init
loop-at-init g c = turn_first _ _ _ _ _ c.requires.sought

pub loop-at-preserved : goal.loop-at-preserved
loop-at-preserved g c =
    let xs = c.args.items.now in
    let end = g.T.Ends.end in
    let fits : c.loop-at.at < length xs = omega (arith, c.loop-at-test.true, c.requires.sought.within) in
    let same : c.end.result ≡ end_at end xs c.loop-at.at = end_read end xs c.loop-at.at c.index-items-at.result c.end.result fits c.index-items-at.is c.end.ensures in
    turn_next (end_at end xs) (length xs) c.args.bound c.loop-at.place c.loop-at.at c.from-place.result (ends_rise end xs c.requires.rises) fits c.loop-at.invariant (λ far. grind (arith, nat_tests, far, same, c.from-place.ensures, c.le.ensures)) (λ past. grind (arith, nat_tests, past, same, c.from-place.ensures, c.le.ensures))

pub returns : goal.returns
returns g c = sought_is_ended _ _ _ _ (turn_last _ _ _ _ _ _ _ c.requires.sought (omega (arith, c.loop-at.auto.at-end, c.loop-at-test.false)) c.loop-at.invariant)
