use Rattle.std.proofs.Common.{◌≡◌, ◌≤◌, map, length, sym, subst, arith}
use Rattle.std.proofs.lemmas.Bool.Decides.{nat_tests}
use Rattle.squall_delta.specs.Items.{loaded}
use Rattle.squall_delta.specs.Cutting.{cut_with}
use Rattle.squall_delta.specs.PieceStepLaws.{feeding_starts, feeding_ends}
use Rattle.squall_delta.proofs.Slices.{feeding_then, none_left}
use Rattle.squall_delta.proofs.cut.cutter.Cutter.put_runs.Goals as goal

pub loop-rest-init : goal.loop-rest-init
loop-rest-init c = record { measured = c.requires.measured; feeding = feeding_starts (cut_with c.args.self.now.most c.args.self.now.finished.items c.args.self.now.piece) (map (loaded c.args.place) c.args.spans.now) c.requires.next }

pub put_some-requires-clause-measured : goal.put_some-requires-clause-measured
put_some-requires-clause-measured c = c.loop-rest.invariant.measured

pub put_some-requires-clause-next : goal.put_some-requires-clause-next
put_some-requires-clause-next c = c.loop-rest.invariant.feeding.next

pub put_some-requires-clause-wide : goal.put_some-requires-clause-wide
put_some-requires-clause-wide c = subst (λ k. 41 ≤ k) (sym c.loop-rest.invariant.feeding.most) c.requires.wide

pub loop-rest-preserved : goal.loop-rest-preserved
loop-rest-preserved c = record {
  measured = c.in_ok-rest.ensures.measured;
  feeding = feeding_then (cut_with c.args.self.now.most c.args.self.now.finished.items c.args.self.now.piece) (cut_with c.loop-rest.self.most c.loop-rest.self.finished.items c.loop-rest.self.piece) (cut_with c.put_some.new.self.most c.put_some.new.self.finished.items c.put_some.new.self.piece) (map (loaded c.args.place) c.args.spans.now) (map (loaded c.args.place) c.loop-rest.rest.now) (map (loaded c.args.place) c.in_ok-rest.rest.now) c.loop-rest.invariant.feeding c.in_ok-rest.ensures.feeding;
}

pub returns-clause-measured : goal.returns-clause-measured
returns-clause-measured c = c.loop-rest.invariant.measured

pub returns-clause-fed : goal.returns-clause-fed
returns-clause-fed c =
    let gone : length c.loop-rest.rest.now ≡ 0 = first_of (omega arith, grind (arith, nat_tests)) in
    let none = none_left c.args.place c.loop-rest.rest.now gone in
    feeding_ends (cut_with c.args.self.now.most c.args.self.now.finished.items c.args.self.now.piece) (cut_with c.loop-rest.self.most c.loop-rest.self.finished.items c.loop-rest.self.piece) (map (loaded c.args.place) c.args.spans.now) (map (loaded c.args.place) c.loop-rest.rest.now) none c.loop-rest.invariant.feeding
