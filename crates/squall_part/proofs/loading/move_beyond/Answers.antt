use Rattle.std.proofs.Common.{option_copied, arith}
use Rattle.std.proofs.lemmas.Grind.{common_steps}
use Rattle.std.proofs.lemmas.Option.{gets}
use Rattle.squall_part.proofs.Carrying.{beyond_at}
use Rattle.squall_part.proofs.loading.move_beyond.Goals as goal

pub returns : goal.returns
returns c = beyond_at c.args.moves.now c.args.bound c.ended.result (option_copied c.get.result) c.ended.ensures (grind (arith, common_steps, gets))
