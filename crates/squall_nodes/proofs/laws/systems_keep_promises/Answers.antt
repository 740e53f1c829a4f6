use Rattle.squall_nodes.proofs.Kept.{keys_are_somewhere, reports_are_true, routed_keys_are_loaded, sources_feed_one, chunks_have_parts, routers_are_right, moves_are_right, awaited_keys_come, keys_are_where_due, first_routers_are_home, moves_are_due}
use Rattle.squall_nodes.proofs.laws.systems_keep_promises.Goals as goal

pub returns-clause-one_carrier : goal.returns-clause-one_carrier
returns-clause-one_carrier c = keys_are_somewhere c.promises.ensures.one_carrier

pub returns-clause-true_reports : goal.returns-clause-true_reports
returns-clause-true_reports c = reports_are_true c.promises.ensures.true_reports

pub returns-clause-routed_is_loaded : goal.returns-clause-routed_is_loaded
returns-clause-routed_is_loaded c = routed_keys_are_loaded c.promises.ensures.routed_is_loaded

pub returns-clause-one_destination : goal.returns-clause-one_destination
returns-clause-one_destination c = sources_feed_one c.promises.ensures.one_destination

pub returns-clause-chunks_have_nodes : goal.returns-clause-chunks_have_nodes
returns-clause-chunks_have_nodes c = chunks_have_parts c.promises.ensures.chunks_have_nodes

pub returns-clause-routes_are_served : goal.returns-clause-routes_are_served
returns-clause-routes_are_served c = routers_are_right c.promises.ensures.routes_are_served

pub returns-clause-moves_are_served : goal.returns-clause-moves_are_served
returns-clause-moves_are_served c = moves_are_right c.promises.ensures.moves_are_served

pub returns-clause-awaited_comes : goal.returns-clause-awaited_comes
returns-clause-awaited_comes c = awaited_keys_come c.promises.ensures.awaited_comes

pub returns-clause-over_is_there : goal.returns-clause-over_is_there
returns-clause-over_is_there c = keys_are_where_due c.promises.ensures.over_is_there

pub returns-clause-first_routes_are_home : goal.returns-clause-first_routes_are_home
returns-clause-first_routes_are_home c = first_routers_are_home c.promises.ensures.first_routes_are_home

pub returns-clause-first_moves_are_due : goal.returns-clause-first_moves_are_due
returns-clause-first_moves_are_due c = moves_are_due c.promises.ensures.first_moves_are_due
