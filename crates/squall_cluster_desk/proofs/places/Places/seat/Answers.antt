use Rattle.squall_cluster_desk.specs.declared.shown.Shown.{Shown}
use Rattle.squall_cluster_desk.proofs.Desks.{admits}
use Rattle.squall_cluster_desk.proofs.places.Places.seat.Goals as goal

pub reader-requires : goal.reader-requires
reader-requires g c = admits g.K.Constants.allowed g.K.Constants.book g.K.Constants.first g.K.Constants.opening (λ (s : Shown). s.router) (λ (s : Shown). s.prefix)
