use Rattle.squall_cluster_desk.proofs.Tracks.{one_of_two}
use Rattle.squall_cluster_desk.proofs.track.Prefix.beside.Goals as goal

pub returns : goal.returns
returns c = one_of_two c.begins-goes_as_far.result _ _ c.begins-goes_as_far.ensures.begins c.begins-goes_as_far.ensures.longer
