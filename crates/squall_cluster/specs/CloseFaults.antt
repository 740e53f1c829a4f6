-- What comes back of a cluster that is not closed (this project).
use Rattle.std.specs.Prelude.{List}
use Rattle.squall_cluster_inbox.specs.Ends.{Posting}
use Rattle.squall_cluster.specs.Owners.{Owning}
use Rattle.squall_cluster.specs.declared.closing.CloseFault.{CloseFault}
use Rattle.squall_cluster.specs.declared.closing.CloseFault.TheVariants.{NoMemory}

module _ {K R : Type 0} where
  -- the senders that are not joined to the owner yet
  abbrev pub spent_of : CloseFault K R → List Posting
  spent_of (NoMemory spent owner) = spent.items

  -- the owner
  abbrev pub owner_of : CloseFault K R → Owning
  owner_of (NoMemory spent owner) = owner
