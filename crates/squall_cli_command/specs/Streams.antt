-- What is asked of standard input as it comes, as `clap` defines simple commands.
use Rattle.std.specs.Prelude.{Bool, true, false, not, List, [], ◌∷◌, Option, Some, None, codes, ◌&&◌, if◌then◌else◌}
use Rattle.std.specs.Str.{bytes_eq}
use Rattle.clap.specs.Words.{Row, Text}
use Rattle.squall_cli_command.specs.declared.form.Form.{Form}
use Rattle.squall_cli_command.specs.declared.stream.WatchAsk.{WatchAsk}
use Rattle.squall_cli_command.specs.declared.stream.Stream.{Stream}
use Rattle.squall_cli_command.specs.declared.stream.Stream.TheVariants.{Keys, Frames}
use Rattle.squall_cli_command.specs.Asking.{is_set, form_in, values_in}

-- there is no word, or the only one is that of standard input
abbrev pub is_input_alone : List Text → Bool
is_input_alone [] = true
is_input_alone (word ∷ []) = bytes_eq word (codes "-")
is_input_alone (word ∷ other ∷ words) = false

-- keys are read from standard input if no word is a key, or `-` alone is one, and words are no names
abbrev pub reads_keys : List Row → Bool
reads_keys rows = not (is_set (codes "name") rows) && is_input_alone (values_in (codes "KEY") rows)

-- a watch in that form, and whether it ends once the course is complete
abbrev pub watch_asked : Form → Bool → WatchAsk
watch_asked form until = record { form = form; is_until_complete = until }

-- how the entries ask to watch a course
abbrev pub watch_in : List Row → WatchAsk
watch_in rows = watch_asked (form_in rows) (is_set (codes "until-complete") rows)

-- what a command's name and entries ask of standard input as it comes: nothing if it is another command
abbrev pub stream_in : Text → List Row → Option Stream
stream_in name rows = if bytes_eq name (codes "route") && reads_keys rows then Some Keys else (if bytes_eq name (codes "watch") then Some (Frames (watch_in rows)) else None)

-- the arguments of a stream that are files, in the order in which they are read
abbrev pub stream_files : Stream → List Text
stream_files Keys = codes "OLD" ∷ codes "NEW" ∷ codes "board" ∷ []
stream_files (Frames how) = codes "OLD" ∷ codes "NEW" ∷ []
