use Rattle.std.proofs.Common.{ap, sym}
use Rattle.std.specs.Arc.{arc_value}
use Rattle.squall_join.specs.declared.flat.Flat.TheVariants.{One, Clash}
use Rattle.squall_join.specs.Flats.{flat_map}
use Rattle.squall_board.proofs.Merged.{nothing_takes, took_issue}
use Rattle.squall_board.proofs.board.Board.put_issue.Goals as goal

pub returns-in-Unknown-clause-takes : goal.returns-in-Unknown-clause-takes
returns-in-Unknown-clause-takes c = nothing_takes c.args.self.now c.args.number (flat_map arc_value c.args.issue.now) (ap (flat_map arc_value) c.in-Unknown.is)

pub returns-in-One-clause-takes : goal.returns-in-One-clause-takes
returns-in-One-clause-takes c = took_issue c.update_issue.result c.args.self.now c.update_issue.new.self c.args.number (One (arc_value c.in-One.issue)) (flat_map arc_value c.args.issue.now) (sym (ap (flat_map arc_value) c.in-One.is)) c.update_issue.ensures.takes

pub returns-in-Clash-clause-takes : goal.returns-in-Clash-clause-takes
returns-in-Clash-clause-takes c = took_issue c.update_issue-in-Clash.result c.args.self.now c.update_issue-in-Clash.new.self c.args.number Clash (flat_map arc_value c.args.issue.now) (sym (ap (flat_map arc_value) c.in-Clash.is)) c.update_issue-in-Clash.ensures.takes
