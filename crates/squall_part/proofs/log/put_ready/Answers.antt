use Rattle.std.proofs.Common.{◌≡◌, position, None, Some, ◌∙◌, rules}
use Rattle.squall_part.specs.Fresh.{is_above}
use Rattle.squall_part.proofs.Put.{put_some, put_none}
use Rattle.squall_part.proofs.log.put_ready.Goals as goal

pub returns-in-Some-clause-value : goal.returns-in-Some-clause-value
returns-in-Some-clause-value c =
    let found : Some c.in-Some.at ≡ position (is_above c.args.log.course.number) c.args.logs.now.items = search rules in
    c.put.ensures.value ∙ put_some c.args.log c.args.logs.now.items c.in-Some.at found

pub returns-in-None-clause-value : goal.returns-in-None-clause-value
returns-in-None-clause-value c =
    let none : None ≡ position (is_above c.args.log.course.number) c.args.logs.now.items = search rules in
    c.push_reserved.ensures.items ∙ put_none c.args.log c.args.logs.now.items none
