use Rattle.std.proofs.Common.{ap}
use Rattle.squall_cli_ask.specs.Files.{is_input}
use Rattle.squall_cli_ask.proofs.Gathering.{takes_some}
use Rattle.squall_cli_ask.proofs.reading.read_next.Goals as goal

pub returns-clause-some : goal.returns-clause-some
returns-clause-some g c =
    let read = c.read_named.ensures in
    takes_some (is_input c.args.name.now) _ _ read.bytes.0 _ read.bytes.1 (λ e. ap (λ s. (g.S.Source.state s).remaining) (read.kept e))
