-- The names of faults, as they are printed (this project).
use Rattle.std.specs.Prelude.{ℕ, List, codes}
use Rattle.squall_wire.specs.declared.fault.WireFault.{WireFault}
use Rattle.squall_wire.specs.declared.fault.WireFault.TheVariants.{Magic, Version, Kind, TooLong, Short, Count, Range, Order, Spare, NoMemory}
use Rattle.squall_wire.specs.declared.encoding.EncodeFault.{EncodeFault}
use Rattle.squall_wire.specs.declared.encoding.EncodeFault.TheVariants.{TooLong as Encode_too_long, NoMemory as Encode_no_memory}
use Rattle.squall_wire.specs.declared.digest.DigestFault.{DigestFault}
use Rattle.squall_wire.specs.declared.digest.DigestFault.TheVariants.{BadDigest, NoMemory as Digest_no_memory}
use Rattle.squall_wire.specs.declared.feed.FeedFault.{FeedFault}
use Rattle.squall_wire.specs.declared.feed.FeedFault.TheVariants.{Failed, NoMemory as Feed_no_memory}

abbrev pub text_of_fault : WireFault → List ℕ
text_of_fault Magic = codes "Magic"
text_of_fault Version = codes "Version"
text_of_fault Kind = codes "Kind"
text_of_fault TooLong = codes "TooLong"
text_of_fault Short = codes "Short"
text_of_fault Count = codes "Count"
text_of_fault Range = codes "Range"
text_of_fault Order = codes "Order"
text_of_fault Spare = codes "Spare"
text_of_fault NoMemory = codes "NoMemory"

abbrev pub text_of_encode_fault : EncodeFault → List ℕ
text_of_encode_fault Encode_too_long = codes "TooLong"
text_of_encode_fault Encode_no_memory = codes "NoMemory"

abbrev pub text_of_digest_fault : DigestFault → List ℕ
text_of_digest_fault BadDigest = codes "BadDigest"
text_of_digest_fault Digest_no_memory = codes "NoMemory"

abbrev pub text_of_feed_fault : FeedFault → List ℕ
text_of_feed_fault Failed = codes "Failed"
text_of_feed_fault Feed_no_memory = codes "NoMemory"
