-- What a command line asks for, by the values that `clap` is specified to find in its words.
use Rattle.std.specs.Prelude.{◌≡◌, ◌≢◌, ◌⊎◌, List, map, option_map, Option, Some, None, string_bytes}
use Rattle.std.specs.List.{All as Each}
use Rattle.clap.specs.Words.{IsAmong, Row, Shape, Text, fault_of, subcommand_of}
use Rattle.clap.specs.declared.error.kind.ErrorKind.{ErrorKind}
use Rattle.clap.specs.declared.error.kind.ErrorKind.TheVariants.{DisplayHelp, DisplayVersion}
use Rattle.tomex_command_line.specs.declared.line.Line.{Line}
use Rattle.tomex_command_line.specs.declared.line.Line.TheVariants as lines
use Rattle.tomex_command_line.specs.declared.line.command_name.CommandName.{CommandName}
use Rattle.tomex_command_line.specs.declared.line.command_name.CommandName.TheVariants.{Run, Parts, Cut, Times, Stalls}
use Rattle.tomex_command_line.specs.declared.line.command_name.CommandName.TheVariants.{Path, Loops, Pipeline, Tables}
use Rattle.tomex_command_line.specs.declared.line.command_name.CommandName.TheVariants.{Animate, All, Explore, Front}
use Rattle.tomex_command_line.specs.declared.line.command_name.CommandName.TheVariants.{Plot, Rows, Worth, Choices}
use Rattle.tomex_command_line.specs.declared.line.command_name.CommandName.TheVariants.{Prices, Weights, Compare}
use Rattle.tomex_command_line.specs.declared.line.command_name.CommandName.TheVariants.{Functions, Page, Find, Explain}
use Rattle.tomex_arguments.specs.declared.fault.LineFault.{LineFault}
use Rattle.tomex_arguments.specs.declared.fault.LineFault.TheVariants.{Help, Usage, Memory}
use Rattle.tomex_command_line.specs.Grammar.{tomex_app}
use Rattle.tomex_command_line.specs.Names.{name_of}
use Rattle.tomex_command_line.specs.Values.{IsRunAsked, IsPartsAsked, IsCutAsked, IsOneRunAsked, IsStallsAsked}
use Rattle.tomex_command_line.specs.Values.{IsPathAsked, IsPipelineAsked, IsTablesAsked, IsAnimateAsked, IsAllAsked}
use Rattle.tomex_command_line.specs.Values.{IsExploreAsked, IsFrontAsked, IsPlotAsked, IsWorthAsked, IsCompareAsked}
use Rattle.tomex_command_line.specs.Values.{IsFunctionsAsked, IsPageAsked, IsFindAsked, IsTableAsked, IsExplainAsked}

-- the line is one of this command, and its values are among the rows
abbrev pub IsLineOf : CommandName → List Row → Line → Type 0
IsLineOf Run rows (lines.Run line) =
    IsRunAsked rows line.image.file.now line.image.base line.image.size line.limit
IsLineOf Parts rows (lines.Parts line) =
    IsPartsAsked rows line.image.file.now line.image.base line.image.size line.steps
IsLineOf Cut rows (lines.Cut line) =
    IsCutAsked rows line.image.file.now line.image.base line.image.size line.from line.steps line.symbols
IsLineOf Times rows (lines.Times line) = IsOneRunAsked rows line.study.now line.config line.program.now
IsLineOf Stalls rows (lines.Stalls line) =
    IsStallsAsked rows line.run.study.now line.run.config line.run.program.now line.by_pc line.by_function
IsLineOf Path rows (lines.Path line) =
    IsPathAsked rows line.run.study.now line.run.config line.run.program.now line.links line.by_pc line.by_function
IsLineOf Loops rows (lines.Loops line) = IsOneRunAsked rows line.study.now line.config line.program.now
IsLineOf Pipeline rows (lines.Pipeline line) =
    IsPipelineAsked rows line.run.study.now line.run.config line.run.program.now line.from line.steps line.konata
IsLineOf Tables rows (lines.Tables line) =
    IsTablesAsked rows line.run.study.now line.run.config line.run.program.now line.cycle
IsLineOf Animate rows (lines.Animate line) =
    IsAnimateAsked rows line.run.study.now line.run.config line.run.program.now line.from line.cycles line.blank
IsLineOf All rows (lines.All line) = IsAllAsked rows line.study.now
IsLineOf Explore rows (lines.Explore line) = IsExploreAsked rows line.study.now line.workers
IsLineOf Front rows (lines.Front line) = IsFrontAsked rows line.explore.study.now line.explore.workers line.hull
IsLineOf Plot rows (lines.Plot line) = IsPlotAsked rows line.explore.study.now line.explore.workers line.all
IsLineOf Rows rows (lines.Rows line) = IsExploreAsked rows line.study.now line.workers
IsLineOf Worth rows (lines.Worth line) =
    IsWorthAsked rows line.explore.study.now line.config line.explore.workers line.csv
IsLineOf Choices rows (lines.Choices line) = IsTableAsked rows line.explore.study.now line.explore.workers line.csv
IsLineOf Prices rows (lines.Prices line) = IsTableAsked rows line.explore.study.now line.explore.workers line.csv
IsLineOf Weights rows (lines.Weights line) = IsTableAsked rows line.explore.study.now line.explore.workers line.csv
IsLineOf Compare rows (lines.Compare line) =
    IsCompareAsked rows line.explore.study.now line.builds.old.now line.builds.new.now line.explore.workers line.csv
IsLineOf Functions rows (lines.Functions line) =
    IsFunctionsAsked rows line.study.now line.config line.builds.old.now line.builds.new.now
IsLineOf Page rows (lines.Page line) = IsPageAsked rows line.explore.study.now line.explore.workers line.choices
IsLineOf Find rows (lines.Find line) = IsFindAsked rows line.study.now (map string_bytes line.choices.items)
IsLineOf Explain rows (lines.Explain line) = IsExplainAsked rows (option_map string_bytes line.refusal)
IsLineOf command rows line = ⊥

-- no line of this command has its values there
abbrev pub HasNoLine : CommandName → List Row → Type 0
HasNoLine command rows = (line : Line) → IsLineOf command rows line → ⊥

-- the line is one of the command that was found
abbrev pub IsCommand : Option (Text × List Row) → Line → Type 0
IsCommand found line =
    (command : CommandName) × (rows : List Row) × (found ≡ Some (name_of command, rows)) × IsLineOf command rows line

-- the words ask for this
abbrev pub IsAsked : List Text → Line → Type 0
IsAsked words line = IsCommand (subcommand_of tomex_app words) line

-- the words ask for help or the version
abbrev pub IsHelpAsked : List Text → Type 0
IsHelpAsked words = IsAmong DisplayHelp (fault_of tomex_app words) ⊎ IsAmong DisplayVersion (fault_of tomex_app words)

-- the parser's rules refuse the words: for another kind of error than help and the version
abbrev pub AreRefused : List Text → Type 0
AreRefused words = (kind : ErrorKind) × IsAmong kind (fault_of tomex_app words)
    × (kind ≢ DisplayHelp) × (kind ≢ DisplayVersion)

-- what was found is no line: a command's values aren't there or are out of bounds, or it is no command
pub data IsNoLineAsked (found : Option (Text × List Row)) : Type 0 where
  no_line : (command : CommandName) (rows : List Row) → found ≡ Some (name_of command, rows)
      → HasNoLine command rows → IsNoLineAsked found
  no_command : (name : Text) (rows : List Row) → found ≡ Some (name, rows)
      → Each (λ (command : Shape). name ≢ command.name) tomex_app.subs → IsNoLineAsked found
  nothing : found ≡ None → IsNoLineAsked found

-- why a line is no command: help is asked for, the parser's rules refuse it, or it asks for nothing within bounds
abbrev pub IsNoCommand : List Text → LineFault → Type 0
IsNoCommand words (Help text) = IsHelpAsked words
IsNoCommand words (Usage text) = AreRefused words ⊎ IsNoLineAsked (subcommand_of tomex_app words)
IsNoCommand words Memory = Unit {0}
