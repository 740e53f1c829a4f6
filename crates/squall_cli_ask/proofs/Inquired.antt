-- What is done for the words of an inquiry.
use Rattle.std.proofs.Common.{◌≡◌, ◌≢◌, ◌⊎◌, inl, inr, ℕ, ◌≤◌, List, [], Bool, true, false, Option, Err, sym, ◌∙◌, arith}
use Rattle.std.proofs.KnownBytes.{Appends-nil, Consumes-nil}
use Rattle.std.proofs.lemmas.Bool.{false≢true}
use Rattle.std.specs.Prelude.{◌↔◌}
use Rattle.squall_cli_lines.specs.declared.RunFault.{RunFault}
use Rattle.squall_cli_lines.specs.declared.RunFault.TheVariants.{Read, Write, NoMemory}
use Rattle.squall_cli_command.specs.declared.inquiry.Inquiry.{Inquiry}
use Rattle.squall_cli_ask.specs.Files.{KnownFile}
use Rattle.squall_cli_ask.specs.Reads.{bytes_of}
use Rattle.squall_cli_ask.specs.Told.{status_of, IsUnread}
use Rattle.squall_cli_ask.specs.Asked.{can_be, IsInquired}
use Rattle.squall_cli_ask.proofs.Matched.{matched_both, matched_false}

-- ---- statuses

memory_is_no_write : NoMemory ≢ Write
memory_is_no_write same = cc

-- an allocation failed before the files were read
pub memory_unread : (status : ℕ) → status ≡ 4 → IsUnread status
memory_unread status e = (NoMemory, memory_is_no_write, e)

-- a fault that comes before anything is written has a status above those of answers, and above that of bad words
high_fault : (fault : RunFault) (status : ℕ) → status ≡ status_of (Err fault) → 3 ≤ status
high_fault Read status e = omega arith
high_fault Write status e = omega arith
high_fault NoMemory status e = omega arith

pub unread_high : (status : ℕ) → IsUnread status → 3 ≤ status
unread_high status u = high_fault u.0 status u.2

-- ---- the words

-- an allocation failed before anything was read
pub nothing_inquired : (asked : Inquiry) (words : List (List ℕ)) (f : List ℕ → KnownFile) (i o : Option (List ℕ)) (names : List (List ℕ)) (status : ℕ) → status ≡ 4
    → IsInquired asked words (bytes_of f i o) (bytes_of f i o) names status
nothing_inquired asked words f i o names status e = matched_both (can_be asked words) _ _
    (inr (memory_unread status e, Appends-nil o, ([], Consumes-nil i))) (inr e, Appends-nil o, Consumes-nil i)

-- the words are no report
pub no_report : (asked : Inquiry) (words : List (List ℕ)) (f : List ℕ → KnownFile) (i o : Option (List ℕ)) (names : List (List ℕ)) (status : ℕ) → can_be asked words ≡ false → status ≡ 2
    → IsInquired asked words (bytes_of f i o) (bytes_of f i o) names status
no_report asked words f i o names status is e = matched_false (can_be asked words) _ _ is (inl e, Appends-nil o, Consumes-nil i)

-- they are one, so that the status is not that of bad words
pub can_be_done : (t : Bool) (status : ℕ) → t ≡ true → status ≢ 2 → (status ≡ 2) ↔ (t ≡ false)
can_be_done t status is fine = (λ e. absurd (fine e), λ f. absurd (false≢true (sym f ∙ is)))

-- a device that failed while files were read
pub read_failed : {P Q R : Type 0} → P ⊎ R → P ⊎ (Q ⊎ R)
read_failed (inl p) = inl p
read_failed (inr r) = inr (inr r)
