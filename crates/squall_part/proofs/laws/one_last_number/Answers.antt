use Rattle.squall_part.specs.Serving.{GaveUnder, ComesUnder}
use Rattle.squall_protocol.specs.FirstsLaws.{same_greatest}
use Rattle.squall_part.proofs.laws.one_last_number.Goals as goal

pub returns-clause-given : goal.returns-clause-given
returns-clause-given c = λ k g h. same_greatest (GaveUnder c.args.part.now k) g h

pub returns-clause-coming : goal.returns-clause-coming
returns-clause-coming c = λ k g h. same_greatest (ComesUnder c.args.part.now k) g h
