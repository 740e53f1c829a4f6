-- A world in which entries are taken. Only contracts of private functions use these definitions.
use Rattle.std.specs.Prelude.{◌≡◌}
use Rattle.squall_world.specs.Views.{view}
use Rattle.squall_judge.specs.declared.stage.Stage.{Stage}

-- the chunks of the list are those that were given in the world
abbrev pub KnowsChunks : Stage → Type 0
KnowsChunks s = s.chunks ≡ (view s.world).chunks
