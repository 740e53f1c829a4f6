use Rattle.squall_world_rows.proofs.Slots.{loaded_set}
use Rattle.squall_world_rows.proofs.sent.note_loaded.Goals as goal

pub returns : goal.returns
returns c = loaded_set c.args.index c.args.sent.now c.index-sent-index.result c.requires
