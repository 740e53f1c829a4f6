use Rattle.std.proofs.Common.{◌≡◌, ap, Vec, Global}
use Rattle.std.proofs.lemmas.Result.{IfOk-weaker}
use Rattle.squall_key.specs.declared.part.PartId.{PartId}
use Rattle.squall_course.specs.Change.{Change}
use Rattle.squall_course.specs.Moves.{receivers_of, moves_of}
use Rattle.squall_course.specs.Steps.{AreReceivers, arriving_place}
use Rattle.squall_course.proofs.Filed.{by_place, filed_receivers}
use Rattle.squall_course.proofs.course.Course.receivers.Goals as goal

pub receivers-requires : goal.receivers-requires
receivers-requires c = by_place arriving_place c.self.inside.old c.self.inside.new c.self.inside.arriving.items _ c.self.invariant.plans c.self.invariant.arrived c.deref.ensures.value

pub returns : goal.returns
returns c =
    let parts : (v : Vec PartId Global) → AreReceivers c.deref.result.now c.args.sub v.items → v.items ≡ receivers_of (moves_of c.args.self.now.old c.args.self.now.new) c.args.sub
    = λ v are. filed_receivers c.args.self.now c.self.inside.old c.self.inside.new c.self.inside.arriving.items c.deref.result.now c.args.sub v.items
    (ap (λ (w : Change). w.old) c.self.view_is) (ap (λ (w : Change). w.new) c.self.view_is) c.self.invariant.plans c.self.invariant.arrived c.deref.ensures.value are in
    IfOk-weaker _ _ _ parts c.receivers.ensures
