use Rattle.std.proofs.lemmas.List.Elements.{All-from_recursion}
use Rattle.squall_status.proofs.Moved.{complete_all}
use Rattle.squall_status.proofs.laws.complete_where_routed.Goals as goal

pub returns : goal.returns
returns c = λ d says ss plans are. All-from_recursion _ ss (complete_all d says ss plans are)
