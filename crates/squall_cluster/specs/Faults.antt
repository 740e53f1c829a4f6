-- What a fault tells of the sizes that were asked for (this project).
use Rattle.std.specs.Prelude.{◌≡◌, ◌⊎◌, ◌<◌, ◌≤◌}
use Rattle.squall_cluster.specs.declared.cluster.Sizes.{Sizes}
use Rattle.squall_cluster.specs.declared.cluster.ClusterFault.{ClusterFault}
use Rattle.squall_cluster.specs.declared.cluster.ClusterFault.TheVariants.{BadSenders, BadReaders, BadCapacity, NoMemory}

-- a cluster may have these sizes
abbrev pub InLimits : Sizes → Type 0
InLimits sizes = (1 ≤ sizes.senders) × (sizes.senders ≤ 64) × (sizes.readers ≤ 64) × (1 ≤ sizes.capacity) × (sizes.capacity ≤ 65536)

-- each fault comes only of its cause, and want of memory only within the limits
abbrev pub FaultOf : Sizes → ClusterFault → Type 0
FaultOf sizes BadSenders = (sizes.senders ≡ 0) ⊎ (64 < sizes.senders)
FaultOf sizes BadReaders = (1 ≤ sizes.senders) × (sizes.senders ≤ 64) × (64 < sizes.readers)
FaultOf sizes BadCapacity = (1 ≤ sizes.senders) × (sizes.senders ≤ 64) × (sizes.readers ≤ 64) × ((sizes.capacity ≡ 0) ⊎ (65536 < sizes.capacity))
FaultOf sizes NoMemory = InLimits sizes
