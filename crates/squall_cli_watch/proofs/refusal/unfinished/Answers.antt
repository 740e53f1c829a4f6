use Rattle.std.proofs.Common.{refl}
use Rattle.serde_json.proofs.OnLiterals.{serde_json_on_literals}
use Rattle.squall_cli_watch.proofs.refusal.unfinished.Goals as goal

pub returns-in-Json : goal.returns-in-Json
unfolding serde_json_on_literals
returns-in-Json c = rw c.in-Json.is refl
