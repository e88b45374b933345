-- If no values of a command are among the rows, no line of it is.
use Rattle.std.proofs.Common.{◌≡◌, List, subst, sym}
use Rattle.clap.specs.Words.{Row}
use Rattle.tomex_command_line.specs.Asked.{HasNoLine}
use Rattle.tomex_command_line.specs.Values.{IsNoRun, IsNoParts, IsNoCut, IsNoOneRun, IsNoStalls, IsNoPath}
use Rattle.tomex_command_line.specs.Values.{IsNoPipeline, IsNoTables, IsNoAll, IsNoAnimate, IsNoExplore, IsNoFront}
use Rattle.tomex_command_line.specs.Values.{IsNoPlot, IsNoWorth, IsNoCompare, IsNoFunctions}
use Rattle.tomex_command_line.specs.Values.{IsNoPage, IsNoFind, IsNoTable}
use Rattle.tomex_command_line.specs.declared.line.Line.TheVariants as lines
use Rattle.tomex_command_line.specs.declared.line.command_name.CommandName.{CommandName}
use Rattle.tomex_command_line.specs.declared.line.command_name.CommandName.TheVariants.{Run, Parts, Cut, Times, Stalls}
use Rattle.tomex_command_line.specs.declared.line.command_name.CommandName.TheVariants.{Path, Loops, Pipeline, Tables}
use Rattle.tomex_command_line.specs.declared.line.command_name.CommandName.TheVariants.{Animate, All, Explore, Front}
use Rattle.tomex_command_line.specs.declared.line.command_name.CommandName.TheVariants.{Plot, Rows, Worth, Choices}
use Rattle.tomex_command_line.specs.declared.line.command_name.CommandName.TheVariants.{Prices, Weights}
use Rattle.tomex_command_line.specs.declared.line.command_name.CommandName.TheVariants.{Compare, Functions}
use Rattle.tomex_command_line.specs.declared.line.command_name.CommandName.TheVariants.{Page, Find}

-- the same, by another name of the command
pub refused_as : {command known : CommandName} (rows : List Row) → command ≡ known → HasNoLine known rows
    → HasNoLine command rows
refused_as rows is none = subst (λ (c : CommandName). HasNoLine c rows) (sym is) none

module _ (rows : List Row) where
  pub no_run : IsNoRun rows → HasNoLine Run rows
  no_run none (lines.Run line) asked = none _ _ _ _ asked
  no_run none line asked = absurd asked

  pub no_parts : IsNoParts rows → HasNoLine Parts rows
  no_parts none (lines.Parts line) asked = none _ _ _ _ asked
  no_parts none line asked = absurd asked

  pub no_cut : IsNoCut rows → HasNoLine Cut rows
  no_cut none (lines.Cut line) asked = none _ _ _ _ _ _ asked
  no_cut none line asked = absurd asked

  pub no_times : IsNoOneRun rows → HasNoLine Times rows
  no_times none (lines.Times line) asked = none _ _ _ asked
  no_times none line asked = absurd asked

  pub no_stalls : IsNoStalls rows → HasNoLine Stalls rows
  no_stalls none (lines.Stalls line) asked = none _ _ _ _ _ asked
  no_stalls none line asked = absurd asked

  pub no_path : IsNoPath rows → HasNoLine Path rows
  no_path none (lines.Path line) asked = none _ _ _ _ _ _ asked
  no_path none line asked = absurd asked

  pub no_loops : IsNoOneRun rows → HasNoLine Loops rows
  no_loops none (lines.Loops line) asked = none _ _ _ asked
  no_loops none line asked = absurd asked

  pub no_pipeline : IsNoPipeline rows → HasNoLine Pipeline rows
  no_pipeline none (lines.Pipeline line) asked = none _ _ _ _ _ _ asked
  no_pipeline none line asked = absurd asked

  pub no_tables : IsNoTables rows → HasNoLine Tables rows
  no_tables none (lines.Tables line) asked = none _ _ _ _ asked
  no_tables none line asked = absurd asked

  pub no_animate : IsNoAnimate rows → HasNoLine Animate rows
  no_animate none (lines.Animate line) asked = none _ _ _ _ _ _ asked
  no_animate none line asked = absurd asked

  pub no_all : IsNoAll rows → HasNoLine All rows
  no_all none (lines.All line) asked = none _ asked
  no_all none line asked = absurd asked

  pub no_explore : IsNoExplore rows → HasNoLine Explore rows
  no_explore none (lines.Explore line) asked = none _ _ asked
  no_explore none line asked = absurd asked

  pub no_front : IsNoFront rows → HasNoLine Front rows
  no_front none (lines.Front line) asked = none _ _ _ asked
  no_front none line asked = absurd asked

  pub no_plot : IsNoPlot rows → HasNoLine Plot rows
  no_plot none (lines.Plot line) asked = none _ _ _ asked
  no_plot none line asked = absurd asked

  pub no_rows : IsNoExplore rows → HasNoLine Rows rows
  no_rows none (lines.Rows line) asked = none _ _ asked
  no_rows none line asked = absurd asked

  pub no_worth : IsNoWorth rows → HasNoLine Worth rows
  no_worth none (lines.Worth line) asked = none _ _ _ _ asked
  no_worth none line asked = absurd asked

  pub no_choices : IsNoTable rows → HasNoLine Choices rows
  no_choices none (lines.Choices line) asked = none _ _ _ asked
  no_choices none line asked = absurd asked

  pub no_prices : IsNoTable rows → HasNoLine Prices rows
  no_prices none (lines.Prices line) asked = none _ _ _ asked
  no_prices none line asked = absurd asked

  pub no_weights : IsNoTable rows → HasNoLine Weights rows
  no_weights none (lines.Weights line) asked = none _ _ _ asked
  no_weights none line asked = absurd asked

  pub no_compare : IsNoCompare rows → HasNoLine Compare rows
  no_compare none (lines.Compare line) asked = none _ _ _ _ _ asked
  no_compare none line asked = absurd asked

  pub no_functions : IsNoFunctions rows → HasNoLine Functions rows
  no_functions none (lines.Functions line) asked = none _ _ _ _ asked
  no_functions none line asked = absurd asked

  pub no_page : IsNoPage rows → HasNoLine Page rows
  no_page none (lines.Page line) asked = none _ _ _ asked
  no_page none line asked = absurd asked

  pub no_find : IsNoFind rows → HasNoLine Find rows
  no_find none (lines.Find line) asked = none _ _ asked
  no_find none line asked = absurd asked
