-- Names of files and words as messages show them (this project's command line).
use Rattle.std.specs.Prelude.{ℕ, ◌+◌, ◌-◌, ◌/◌, ◌%◌, List, [], ◌∷◌, Bool, not, nat_lt, ◌==◌, ◌&&◌, if◌then◌else◌}
use Rattle.std.specs.List.{flat_map}

-- the byte is no control character of ASCII, and no backslash
abbrev pub is_plain : ℕ → Bool
is_plain byte = not (nat_lt byte 32) && (not (byte == 127) && not (byte == 92))

-- the hex digit of a number below 16
abbrev pub hex_digit : ℕ → ℕ
hex_digit n = if nat_lt n 10 then 48 + n else 97 + (n - 10)

-- a control character or a backslash is shown as \x and two hex digits, and any other byte as it is
abbrev pub shown_byte : ℕ → List ℕ
shown_byte byte = if is_plain byte then byte ∷ [] else 92 ∷ 120 ∷ hex_digit (byte / 16) ∷ hex_digit (byte % 16) ∷ []

-- a text as messages show it
abbrev pub shown : List ℕ → List ℕ
shown text = flat_map shown_byte text
