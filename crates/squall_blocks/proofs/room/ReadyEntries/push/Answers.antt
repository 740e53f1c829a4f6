use Rattle.std.proofs.Common.{ap}
use Rattle.squall_blocks.proofs.Zips.{zip-push}
use Rattle.squall_blocks.specs.Room.{ReadyValue}
use Rattle.squall_blocks.proofs.room.ReadyEntries.push.Goals as goal

pub returns-clause-entries : goal.returns-clause-entries
returns-clause-entries g c =
    zip-push c.self.inside.ends.items c.push_reserved.new.self.items c.self.inside.values.items c.push_reserved-2.new.self.items c.args.end c.args.value c.args.self.now.entries c.self.invariant
    (ap (λ (s : ReadyValue _). s.entries) c.self.view_is) c.push_reserved.ensures.items c.push_reserved-2.ensures.items
