-- Numbers as they are written in a line (this project's text form).
use Rattle.std.specs.Prelude.{ℕ, ◌^◌, Bool, ◌&&◌, List, length, Option, None, Some, nat_lt, nat_le, if◌then◌else◌}
use Rattle.std.specs.Str.{all_ascii_digits}
use Rattle.std.specs.Str.Parse.{digits_value}

-- the text is 1 to 10 decimal digits, of a number below 2 ^ 32
abbrev pub is_number : List ℕ → Bool
is_number text = nat_le 1 (length text) && nat_le (length text) 10 && all_ascii_digits text && nat_lt (digits_value 10 text) (2 ^ 32)

-- the number that the text writes
abbrev pub number_of : List ℕ → Option ℕ
number_of text = if is_number text then Some (digits_value 10 text) else None
