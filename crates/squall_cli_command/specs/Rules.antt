-- The arguments of a command, as `clap` defines them.
use Rattle.std.specs.Prelude.{true, Some}
use Rattle.clap.specs.Words.{Rule, Text, new_rule}
use Rattle.clap.specs.declared.builder.ArgAction.TheVariants.{Set, SetTrue, Append}

-- a word, such as a file's name, that has to be there
abbrev pub file_rule : Text → Rule
file_rule id = record (new_rule id) { required = true; action = Some Set }

-- one word or more
abbrev pub words_rule : Text → Rule
words_rule id = record (new_rule id) { required = true; action = Some Append }

-- any number of files' names
abbrev pub files_rule : Text → Rule
files_rule id = record (new_rule id) { action = Some Append }

-- `--id FILE`, any number of times
abbrev pub option_rule : Text → Rule
option_rule id = record (new_rule id) { long = Some id; action = Some Append; value_names = 1 }

-- `--id`, which may be there
abbrev pub flag_rule : Text → Rule
flag_rule id = record (new_rule id) { long = Some id; action = Some SetTrue }
