-- What a fault of a race tells of the sizes that were asked for (this project).
use Rattle.squall_cluster.specs.declared.cluster.Sizes.{Sizes}
use Rattle.squall_cluster.specs.declared.cluster.ClusterFault.{ClusterFault}
use Rattle.squall_cluster.specs.declared.cluster.ClusterFault.TheVariants as Cluster
use Rattle.squall_cluster_desk.specs.declared.places.SeatFault.{SeatFault}
use Rattle.squall_cluster_desk.specs.declared.places.SeatFault.TheVariants as Seat
use Rattle.squall_cluster.specs.declared.halt.Stop.{Stop}
use Rattle.squall_cluster.specs.declared.halt.Stop.TheVariants as Stopped
use Rattle.squall_cluster.specs.declared.halt.RaceFault.{RaceFault}
use Rattle.squall_cluster.specs.declared.halt.RaceFault.TheVariants.{BadSenders, BadReaders, BadCapacity, NoPlace, NoThread, NoMemory}
use Rattle.squall_cluster.specs.Faults.{InLimits, FaultOf}

-- a size out of its limits has the fault that a cluster has of it, and any other fault comes only within the limits
abbrev pub RaceFaultOf : Sizes → RaceFault → Type 0
RaceFaultOf sizes BadSenders = FaultOf sizes Cluster.BadSenders
RaceFaultOf sizes BadReaders = FaultOf sizes Cluster.BadReaders
RaceFaultOf sizes BadCapacity = FaultOf sizes Cluster.BadCapacity
RaceFaultOf sizes NoPlace = InLimits sizes
RaceFaultOf sizes NoThread = InLimits sizes
RaceFaultOf sizes NoMemory = InLimits sizes

-- the fault of the same name
abbrev pub fault_of_cluster : ClusterFault → RaceFault
fault_of_cluster Cluster.BadSenders = BadSenders
fault_of_cluster Cluster.BadReaders = BadReaders
fault_of_cluster Cluster.BadCapacity = BadCapacity
fault_of_cluster Cluster.NoMemory = NoMemory

abbrev pub fault_of_stop : Stop → RaceFault
fault_of_stop Stopped.NoPlace = NoPlace
fault_of_stop Stopped.NoThread = NoThread
fault_of_stop Stopped.NoMemory = NoMemory

-- a refused seat stops a race for the same cause
abbrev pub stop_of_seat : SeatFault → Stop
stop_of_seat Seat.NoPlace = Stopped.NoPlace
stop_of_seat Seat.NoMemory = Stopped.NoMemory
