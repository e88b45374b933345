-- The names of the commands.
use Rattle.std.specs.Prelude.{◌≡◌, ◌≢◌, Option, Some, None, codes}
use Rattle.std.specs.List.{All as Each}
use Rattle.clap.specs.Words.{Shape, Text}
use Rattle.tomex_command_line.specs.Grammar.{tomex_app}
use Rattle.tomex_command_line.specs.declared.line.command_name.CommandName.{CommandName}
use Rattle.tomex_command_line.specs.declared.line.command_name.CommandName.TheVariants.{Run, Parts, Cut, Times, Stalls}
use Rattle.tomex_command_line.specs.declared.line.command_name.CommandName.TheVariants.{Path, Loops, Pipeline, Tables}
use Rattle.tomex_command_line.specs.declared.line.command_name.CommandName.TheVariants.{Animate, All, Explore, Front}
use Rattle.tomex_command_line.specs.declared.line.command_name.CommandName.TheVariants.{Plot, Rows, Worth, Choices}
use Rattle.tomex_command_line.specs.declared.line.command_name.CommandName.TheVariants.{Prices, Weights, Compare}
use Rattle.tomex_command_line.specs.declared.line.command_name.CommandName.TheVariants.{Functions, Page, Find, Explain}

-- the command's name, as it is written
abbrev pub name_of : CommandName → Text
name_of Run = codes "run"
name_of Parts = codes "parts"
name_of Cut = codes "cut"
name_of Times = codes "times"
name_of Stalls = codes "stalls"
name_of Path = codes "path"
name_of Loops = codes "loops"
name_of Pipeline = codes "pipeline"
name_of Tables = codes "tables"
name_of Animate = codes "animate"
name_of All = codes "all"
name_of Explore = codes "explore"
name_of Front = codes "front"
name_of Plot = codes "plot"
name_of Rows = codes "rows"
name_of Worth = codes "worth"
name_of Choices = codes "choices"
name_of Prices = codes "prices"
name_of Weights = codes "weights"
name_of Compare = codes "compare"
name_of Functions = codes "functions"
name_of Page = codes "page"
name_of Find = codes "find"
name_of Explain = codes "explain"

-- the command that a word names; none if it isn't the name of any
abbrev pub IsNamed : Text → Option CommandName → Type 0
IsNamed word (Some command) = word ≡ name_of command
IsNamed word None = Each (λ (command : Shape). word ≢ command.name) tomex_app.subs
