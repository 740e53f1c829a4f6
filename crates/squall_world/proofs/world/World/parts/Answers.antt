use Rattle.std.proofs.Common.{length, ap, ◌∙◌}
use Rattle.squall_world.specs.Nets.{NetValue}
use Rattle.squall_world.specs.Views.{ids_in}
use Rattle.squall_world.proofs.world.World.parts.Goals as goal

pub returns : goal.returns
returns c = c.parts.ensures ∙ ap (λ (n : NetValue). length (ids_in n)) c.self.view_is
