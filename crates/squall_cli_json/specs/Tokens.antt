-- The tokens of a value, as a writer puts them one after another (this project).
use Rattle.std.specs.Prelude.{List}
use Rattle.std.specs.List.{flat_map}
use Rattle.json.specs.Token.{Token}
use Rattle.json.specs.Tree.{json_tokens}
use Rattle.serde_json.specs.Data.{Data}
use Rattle.serde_json.specs.Written.{outline}

-- the tokens of a value; printed, they are its text without spaces
abbrev pub tokens_of : Data → List Token
tokens_of d = json_tokens (outline d)

-- those of values one after another
abbrev pub tokens_of_each : List Data → List Token
tokens_of_each ds = flat_map tokens_of ds
