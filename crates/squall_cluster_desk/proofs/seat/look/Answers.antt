use Rattle.squall_cluster_desk.specs.declared.shown.Shown.{Shown}
use Rattle.squall_cluster_desk.proofs.Desks.{rises, prefix_self}
use Rattle.squall_cluster_desk.proofs.seat.look.Goals as goal

pub enter_as-requires : goal.enter_as-requires
enter_as-requires g c x = rises g.K.Constants.allowed g.K.Constants.book g.K.Constants.first g.K.Constants.opening (λ (s : Shown). s.router) (λ (s : Shown). s.prefix) _ _ x x (prefix_self x.prefix.log) (λ h. h) (λ h. h) (λ h. h)
