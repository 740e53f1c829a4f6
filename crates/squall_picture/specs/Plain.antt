-- Letters that SVG reads as text alone (this project's picture).
use Rattle.std.specs.Prelude.{ℕ, ◌≢◌}

-- a code that begins or ends no tag, no attribute and no entity: none of `<`, `>`, `&`, `'` and `"`
abbrev pub IsPlain : ℕ → Type 0
IsPlain c = (c ≢ 60) × (c ≢ 62) × (c ≢ 38) × (c ≢ 39) × (c ≢ 34)
