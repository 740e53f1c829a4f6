-- How the program gets its commands.
use Rattle.std.specs.Prelude.{◌≡◌, Result, Ok}
use Rattle.std.specs.declared.alloc.AllocError.{AllocError}
use Rattle.clap.specs.Words.{app_of, shape_of, with_subcommand}
use Rattle.clap.specs.declared.builder.command.Command.{Command}

-- both could be made, and the program has the command as its last one
pub record Adds (program command : Result Command AllocError) (c : Command) : Type 0 where
  pub before : Command
  pub sub : Command
  pub made : program ≡ Ok before
  pub sub_made : command ≡ Ok sub
  pub app : app_of c ≡ with_subcommand (app_of before) (shape_of sub)
