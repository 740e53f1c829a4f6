use Rattle.std.proofs.Common.{arith}
use Rattle.squall_join.proofs.Drafting.{put_at, put_gap, missing_at, missing_gap}
use Rattle.squall_join.proofs.draft.put.Goals as goal

pub put_ready-requires-clause-room : goal.put_ready-requires-clause-room
put_ready-requires-clause-room g c = omega (arith, c.requires.room, missing_gap g.met.K.Ord.total c.args.entries.now.items c.deref.result.now c.deref.ensures.value c.args.key c.in-Err.at c.in-Err.ensures.absent)

pub returns-in-Ok-clause-value : goal.returns-in-Ok-clause-value
returns-in-Ok-clause-value g c = put_at g.met.K.Ord.total c.args.entries.now.items c.deref.result.now c.deref.ensures.value c.args.key c.args.value c.in-Ok.at c.index_mut.result.now c.in-Ok.ensures.found c.index_mut.ensures.value

pub returns-in-Ok-clause-len : goal.returns-in-Ok-clause-len
returns-in-Ok-clause-len g c = omega (arith, missing_at g.met.K.Ord.total c.args.entries.now.items c.deref.result.now c.deref.ensures.value c.args.key c.in-Ok.at c.index_mut.result.now c.in-Ok.ensures.found)

pub returns-in-Err-clause-value : goal.returns-in-Err-clause-value
returns-in-Err-clause-value g c = put_gap g.met.K.Ord.total c.args.entries.now.items c.deref.result.now c.deref.ensures.value c.args.key c.args.value c.in-Err.at c.put_ready.new.entries.items c.in-Err.ensures.absent c.put_ready.ensures.value

pub returns-in-Err-clause-len : goal.returns-in-Err-clause-len
returns-in-Err-clause-len g c = omega (arith, c.put_ready.ensures.len, missing_gap g.met.K.Ord.total c.args.entries.now.items c.deref.result.now c.deref.ensures.value c.args.key c.in-Err.at c.in-Err.ensures.absent)
