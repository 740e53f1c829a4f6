-- What is done for a stream.
use Rattle.std.proofs.Common.{◌≡◌, ◌≤◌, inr, ℕ, List, [], Bool, Option, refl, arith}
use Rattle.std.proofs.KnownBytes.{Appends-nil, Consumes-nil}
use Rattle.std.specs.List.{list_any}
use Rattle.squall_cli_device.specs.States.{SinkState}
use Rattle.squall_cli_command.specs.declared.stream.Stream.{Stream}
use Rattle.squall_cli_ask.specs.Files.{KnownFile, is_input}
use Rattle.squall_cli_ask.specs.Reads.{Bytes, bytes_of}
use Rattle.squall_cli_ask.specs.Told.{IsUnread}
use Rattle.squall_cli_ask.specs.Followed.{IsFollowed, DrawsStream}
use Rattle.squall_cli_ask.proofs.Matched.{matched_both}
use Rattle.squall_cli_ask.proofs.Inquired.{memory_unread, unread_high}

-- an allocation failed before anything was read
pub nothing_followed : (stream : Stream) (f : List ℕ → KnownFile) (i o : Option (List ℕ)) (names : List (List ℕ)) (status : ℕ) → status ≡ 4
    → IsFollowed stream (bytes_of f i o) (bytes_of f i o) names status
nothing_followed stream f i o names status e = matched_both (list_any is_input names) _ _ (inr e, Appends-nil o, Consumes-nil i)
    (inr (memory_unread status e, Appends-nil o, ([], Consumes-nil i)))

-- nothing is drawn without the files
pub nothing_drawn : (stream : Stream) (terminal : Bool) (before after : Bytes) (names : List (List ℕ)) (status : ℕ) (err : SinkState) → 2 ≤ status → DrawsStream stream terminal before after names status err err
nothing_drawn stream terminal before after names status err high = inr (high, refl)

pub unread_undrawn : (stream : Stream) (terminal : Bool) (before after : Bytes) (names : List (List ℕ)) (status : ℕ) (err : SinkState) → IsUnread status
    → DrawsStream stream terminal before after names status err err
unread_undrawn stream terminal before after names status err u = nothing_drawn stream terminal before after names status err (let high = unread_high status u in omega arith)
