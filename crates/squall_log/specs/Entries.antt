-- Entries of a log on disk (this project's form; the checksum is FNV-1a of 32 bits, as its authors give it).
use Rattle.std.specs.Prelude.{◌≡◌, ◌≢◌, ◌⊎◌, ℕ, ◌+◌, ◌*◌, ◌%◌, ◌^◌, ◌<◌, ◌≤◌, List, [], ◌∷◌, ◌++◌, length, bit_xor}
use Rattle.std.specs.List.{fold, AllByRecursion}
use Rattle.std.specs.Int.{w32, to_be_bytes}
use Rattle.squall_log.specs.declared.entry.End.{End}
use Rattle.squall_log.specs.declared.entry.End.TheVariants.{Whole, Torn, Damaged}

-- no payload is longer
abbrev pub payload_limit : ℕ
payload_limit = 1073741824

-- ---- the spelling

-- FNV-1a of 32 bits
abbrev pub fnv : List ℕ → ℕ
fnv bytes = fold (λ h b. bit_xor h b * 16777619 % 2 ^ 32) 2166136261 bytes

-- the four bytes of the checksum of bytes
unfoldable pub sum_of : List ℕ → List ℕ
sum_of bytes = to_be_bytes w32 (fnv bytes)

-- the head of an entry whose payload has n bytes: the length, and the checksum of its four bytes
unfoldable pub head : ℕ → List ℕ
head n = to_be_bytes w32 n ++ sum_of (to_be_bytes w32 n)

-- an entry: its head, the checksum of its payload, and the payload
abbrev pub entry : List ℕ → List ℕ
entry payload = head (length payload) ++ (sum_of payload ++ payload)

-- entries, one after the other
abbrev pub entries : List (List ℕ) → List ℕ
entries [] = []
entries (p ∷ ps) = entry p ++ entries ps

-- ---- what bytes are

-- the bytes begin with an entry
abbrev pub BeginsWithEntry : List ℕ → Type 0
BeginsWithEntry bytes = (payload : List ℕ) × (rest : List ℕ) × (length payload ≤ payload_limit) × (bytes ≡ entry payload ++ rest)

-- some bytes, fewer than a head has; or a head, and fewer bytes than it says
abbrev pub IsTorn : List ℕ → Type 0
IsTorn bytes =
    ((0 < length bytes) × (length bytes < 8))
    ⊎ ((n : ℕ) × (rest : List ℕ) × (n ≤ payload_limit) × (bytes ≡ head n ++ rest) × (length rest < 4 + n))

-- neither nothing, nor torn, nor an entry
pub record IsDamaged (bytes : List ℕ) : Type 0 where
  pub some : bytes ≢ []
  pub torn : IsTorn bytes → ⊥
  pub whole : BeginsWithEntry bytes → ⊥

-- how bytes end that begin with no entry
abbrev pub EndsIn : End → List ℕ → Type 0
EndsIn Whole bytes = bytes ≡ []
EndsIn Torn bytes = IsTorn bytes
EndsIn Damaged bytes = IsDamaged bytes

-- the bytes are the entries of these payloads, and what follows them ends so
pub record IsRead (bytes : List ℕ) (payloads : List (List ℕ)) (end : End) (rest : List ℕ) : Type 0 where
  pub short : AllByRecursion (λ p. length p ≤ payload_limit) payloads
  pub whole : bytes ≡ entries payloads ++ rest
  pub ends : EndsIn end rest

-- the first n bytes of the entries of all payloads are those of the first ones, whole, and what is left begins the next entry
pub record IsCut (all done : List (List ℕ)) (n : ℕ) (end : End) (rest : List ℕ) : Type 0 where
  pub later : List (List ℕ)
  pub parts : all ≡ done ++ later
  pub within : length (entries done) ≤ n
  pub next : (p : List ℕ) (ps : List (List ℕ)) → later ≡ p ∷ ps → n < length (entries done) + length (entry p)
  pub undamaged : end ≢ Damaged
