use Rattle.squall_nodes.proofs.Made.{new_parts_are_parts, first_systems_are_systems}
use Rattle.squall_nodes.proofs.laws.new_nodes_are_nodes.Goals as goal

pub returns-clause-parts : goal.returns-clause-parts
returns-clause-parts c = new_parts_are_parts

pub returns-clause-systems : goal.returns-clause-systems
returns-clause-systems c = first_systems_are_systems
