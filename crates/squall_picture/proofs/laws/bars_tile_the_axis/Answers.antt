use Rattle.squall_picture.proofs.Columns.{tiled_axis}
use Rattle.squall_picture.proofs.laws.bars_tile_the_axis.Goals as goal

pub returns : goal.returns
returns c = tiled_axis
