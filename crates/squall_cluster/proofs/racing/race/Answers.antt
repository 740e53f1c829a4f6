use Rattle.squall_cluster.proofs.Races.{ok_weaker}
use Rattle.squall_cluster.proofs.Unions.{all_joined, all_told, all_taken}
use Rattle.squall_cluster.proofs.racing.race.Goals as goal

pub returns-clause-board : goal.returns-clause-board
returns-clause-board g c =
    ok_weaker c.race_in.result _ _ c.race_in.ensures.board
    (λ r ran. record {
      joined = all_joined _ _ r.board c.known.ensures ran;
      told = all_told _ _ r.board c.known.ensures ran;
      taken = all_taken _ _ r.board c.known.ensures ran;
      letters = ran;
    })
