-- A line has its command's values, and a command whose values are refused asks for no line.
use Rattle.clap.specs.Walk.{rows_of}
use Rattle.clap.specs.Words.{found_of}
use Rattle.tomex_command_line.proofs.Lines.{no_all, no_animate, no_choices, no_compare, no_cut, no_explore, no_find}
use Rattle.tomex_command_line.proofs.Lines.{no_front, no_functions, no_loops, no_page, no_parts, no_path, no_pipeline}
use Rattle.tomex_command_line.proofs.Lines.{no_plot, no_prices, no_rows}
use Rattle.tomex_command_line.proofs.Lines.{no_run, no_stalls, no_tables, no_times, no_weights, no_worth, refused_as}
use Rattle.tomex_command_line.proofs.PassedOn.{made, mapped}
use Rattle.tomex_command_line.specs.declared.line.Line.TheVariants as lines
use Rattle.tomex_command_line.proofs.line.line_with.Goals as goal

pub returns-in-Run-clause-refused : goal.returns-in-Run-clause-refused
returns-in-Run-clause-refused c =
    mapped _ _ _ c.map.result _ c.map.ensures.cases c.line_of.ensures.refused
    (λ none. refused_as _ c.in-Run.is (no_run _ none))

pub returns-in-Run-clause-command : goal.returns-in-Run-clause-command
returns-in-Run-clause-command c =
    made lines.Run _ _ _ c.map.result c.map.ensures.cases c.line_of.ensures.line
    (λ line is. rw (c.in-Run.is) is)

pub returns-in-Parts-clause-refused : goal.returns-in-Parts-clause-refused
returns-in-Parts-clause-refused c =
    mapped _ _ _ c.map-in-Parts.result _ c.map-in-Parts.ensures.cases c.line_of-in-Parts.ensures.refused
    (λ none. refused_as _ c.in-Parts.is (no_parts _ none))

pub returns-in-Parts-clause-command : goal.returns-in-Parts-clause-command
returns-in-Parts-clause-command c =
    made lines.Parts _ _ _ c.map-in-Parts.result c.map-in-Parts.ensures.cases c.line_of-in-Parts.ensures.line
    (λ line is. rw (c.in-Parts.is) is)

pub returns-in-Cut-clause-refused : goal.returns-in-Cut-clause-refused
returns-in-Cut-clause-refused c =
    mapped _ _ _ c.map-in-Cut.result _ c.map-in-Cut.ensures.cases c.line_of-in-Cut.ensures.refused
    (λ none. refused_as _ c.in-Cut.is (no_cut _ none))

pub returns-in-Cut-clause-command : goal.returns-in-Cut-clause-command
returns-in-Cut-clause-command c =
    made lines.Cut _ _ _ c.map-in-Cut.result c.map-in-Cut.ensures.cases c.line_of-in-Cut.ensures.line
    (λ line is. rw (c.in-Cut.is) is)

pub returns-in-Times-clause-refused : goal.returns-in-Times-clause-refused
returns-in-Times-clause-refused c =
    mapped _ _ _ c.map-in-Times.result _ c.map-in-Times.ensures.cases c.one_run_of.ensures.refused
    (λ none. refused_as _ c.in-Times.is (no_times _ none))

pub returns-in-Times-clause-command : goal.returns-in-Times-clause-command
returns-in-Times-clause-command c =
    made lines.Times _ _ _ c.map-in-Times.result c.map-in-Times.ensures.cases c.one_run_of.ensures.run
    (λ line is. rw (c.in-Times.is) is)

pub returns-in-Stalls-clause-refused : goal.returns-in-Stalls-clause-refused
returns-in-Stalls-clause-refused c =
    mapped _ _ _ c.map-in-Stalls.result _ c.map-in-Stalls.ensures.cases c.line_of-in-Stalls.ensures.refused
    (λ none. refused_as _ c.in-Stalls.is (no_stalls _ none))

pub returns-in-Stalls-clause-command : goal.returns-in-Stalls-clause-command
returns-in-Stalls-clause-command c =
    made lines.Stalls _ _ _ c.map-in-Stalls.result c.map-in-Stalls.ensures.cases c.line_of-in-Stalls.ensures.line
    (λ line is. rw (c.in-Stalls.is) is)

pub returns-in-Path-clause-refused : goal.returns-in-Path-clause-refused
returns-in-Path-clause-refused c =
    mapped _ _ _ c.map-in-Path.result _ c.map-in-Path.ensures.cases c.line_of-in-Path.ensures.refused
    (λ none. refused_as _ c.in-Path.is (no_path _ none))

pub returns-in-Path-clause-command : goal.returns-in-Path-clause-command
returns-in-Path-clause-command c =
    made lines.Path _ _ _ c.map-in-Path.result c.map-in-Path.ensures.cases c.line_of-in-Path.ensures.line
    (λ line is. rw (c.in-Path.is) is)

pub returns-in-Loops-clause-refused : goal.returns-in-Loops-clause-refused
returns-in-Loops-clause-refused c =
    mapped _ _ _ c.map-in-Loops.result _ c.map-in-Loops.ensures.cases c.one_run_of-in-Loops.ensures.refused
    (λ none. refused_as _ c.in-Loops.is (no_loops _ none))

pub returns-in-Loops-clause-command : goal.returns-in-Loops-clause-command
returns-in-Loops-clause-command c =
    made lines.Loops _ _ _ c.map-in-Loops.result c.map-in-Loops.ensures.cases c.one_run_of-in-Loops.ensures.run
    (λ line is. rw (c.in-Loops.is) is)

pub returns-in-Pipeline-clause-refused : goal.returns-in-Pipeline-clause-refused
returns-in-Pipeline-clause-refused c =
    mapped _ _ _ c.map-in-Pipeline.result _ c.map-in-Pipeline.ensures.cases c.line_of-in-Pipeline.ensures.refused
    (λ none. refused_as _ c.in-Pipeline.is (no_pipeline _ none))

pub returns-in-Pipeline-clause-command : goal.returns-in-Pipeline-clause-command
returns-in-Pipeline-clause-command c =
    made lines.Pipeline _ _ _ c.map-in-Pipeline.result c.map-in-Pipeline.ensures.cases
    c.line_of-in-Pipeline.ensures.line
    (λ line is. rw (c.in-Pipeline.is) is)

pub returns-in-Tables-clause-refused : goal.returns-in-Tables-clause-refused
returns-in-Tables-clause-refused c =
    mapped _ _ _ c.map-in-Tables.result _ c.map-in-Tables.ensures.cases c.line_of-in-Tables.ensures.refused
    (λ none. refused_as _ c.in-Tables.is (no_tables _ none))

pub returns-in-Tables-clause-command : goal.returns-in-Tables-clause-command
returns-in-Tables-clause-command c =
    made lines.Tables _ _ _ c.map-in-Tables.result c.map-in-Tables.ensures.cases c.line_of-in-Tables.ensures.line
    (λ line is. rw (c.in-Tables.is) is)

pub returns-in-Animate-clause-refused : goal.returns-in-Animate-clause-refused
returns-in-Animate-clause-refused c =
    mapped _ _ _ c.map-in-Animate.result _ c.map-in-Animate.ensures.cases c.line_of-in-Animate.ensures.refused
    (λ none. refused_as _ c.in-Animate.is (no_animate _ none))

pub returns-in-Animate-clause-command : goal.returns-in-Animate-clause-command
returns-in-Animate-clause-command c =
    made lines.Animate _ _ _ c.map-in-Animate.result c.map-in-Animate.ensures.cases c.line_of-in-Animate.ensures.line
    (λ line is. rw (c.in-Animate.is) is)

pub returns-in-All-clause-refused : goal.returns-in-All-clause-refused
returns-in-All-clause-refused c =
    mapped _ _ _ c.map-in-All.result _ c.map-in-All.ensures.cases c.line_of-in-All.ensures.refused
    (λ none. refused_as _ c.in-All.is (no_all (rows_of (found_of c.args.args.now)) none))

pub returns-in-All-clause-command : goal.returns-in-All-clause-command
returns-in-All-clause-command c =
    made lines.All _ _ _ c.map-in-All.result c.map-in-All.ensures.cases c.line_of-in-All.ensures.line
    (λ line is. rw (c.in-All.is) is)

pub returns-in-Explore-clause-refused : goal.returns-in-Explore-clause-refused
returns-in-Explore-clause-refused c =
    mapped _ _ _ c.map-in-Explore.result _ c.map-in-Explore.ensures.cases c.line_of-in-Explore.ensures.refused
    (λ none. refused_as _ c.in-Explore.is (no_explore _ none))

pub returns-in-Explore-clause-command : goal.returns-in-Explore-clause-command
returns-in-Explore-clause-command c =
    made lines.Explore _ _ _ c.map-in-Explore.result c.map-in-Explore.ensures.cases c.line_of-in-Explore.ensures.line
    (λ line is. rw (c.in-Explore.is) is)

pub returns-in-Front-clause-refused : goal.returns-in-Front-clause-refused
returns-in-Front-clause-refused c =
    mapped _ _ _ c.map-in-Front.result _ c.map-in-Front.ensures.cases c.line_of-in-Front.ensures.refused
    (λ none. refused_as _ c.in-Front.is (no_front _ none))

pub returns-in-Front-clause-command : goal.returns-in-Front-clause-command
returns-in-Front-clause-command c =
    made lines.Front _ _ _ c.map-in-Front.result c.map-in-Front.ensures.cases c.line_of-in-Front.ensures.line
    (λ line is. rw (c.in-Front.is) is)

pub returns-in-Plot-clause-refused : goal.returns-in-Plot-clause-refused
returns-in-Plot-clause-refused c =
    mapped _ _ _ c.map-in-Plot.result _ c.map-in-Plot.ensures.cases c.line_of-in-Plot.ensures.refused
    (λ none. refused_as _ c.in-Plot.is (no_plot _ none))

pub returns-in-Plot-clause-command : goal.returns-in-Plot-clause-command
returns-in-Plot-clause-command c =
    made lines.Plot _ _ _ c.map-in-Plot.result c.map-in-Plot.ensures.cases c.line_of-in-Plot.ensures.line
    (λ line is. rw (c.in-Plot.is) is)

pub returns-in-Rows-clause-refused : goal.returns-in-Rows-clause-refused
returns-in-Rows-clause-refused c =
    mapped _ _ _ c.map-in-Rows.result _ c.map-in-Rows.ensures.cases c.line_of-in-Rows.ensures.refused
    (λ none. refused_as _ c.in-Rows.is (no_rows _ none))

pub returns-in-Rows-clause-command : goal.returns-in-Rows-clause-command
returns-in-Rows-clause-command c =
    made lines.Rows _ _ _ c.map-in-Rows.result c.map-in-Rows.ensures.cases c.line_of-in-Rows.ensures.line
    (λ line is. rw (c.in-Rows.is) is)

pub returns-in-Worth-clause-refused : goal.returns-in-Worth-clause-refused
returns-in-Worth-clause-refused c =
    mapped _ _ _ c.map-in-Worth.result _ c.map-in-Worth.ensures.cases c.line_of-in-Worth.ensures.refused
    (λ none. refused_as _ c.in-Worth.is (no_worth _ none))

pub returns-in-Worth-clause-command : goal.returns-in-Worth-clause-command
returns-in-Worth-clause-command c =
    made lines.Worth _ _ _ c.map-in-Worth.result c.map-in-Worth.ensures.cases c.line_of-in-Worth.ensures.line
    (λ line is. rw (c.in-Worth.is) is)

pub returns-in-Choices-clause-refused : goal.returns-in-Choices-clause-refused
returns-in-Choices-clause-refused c =
    mapped _ _ _ c.map-in-Choices.result _ c.map-in-Choices.ensures.cases c.line_of-in-Choices.ensures.refused
    (λ none. refused_as _ c.in-Choices.is (no_choices _ none))

pub returns-in-Choices-clause-command : goal.returns-in-Choices-clause-command
returns-in-Choices-clause-command c =
    made lines.Choices _ _ _ c.map-in-Choices.result c.map-in-Choices.ensures.cases c.line_of-in-Choices.ensures.line
    (λ line is. rw (c.in-Choices.is) is)

pub returns-in-Prices-clause-refused : goal.returns-in-Prices-clause-refused
returns-in-Prices-clause-refused c =
    mapped _ _ _ c.map-in-Prices.result _ c.map-in-Prices.ensures.cases c.line_of-in-Prices.ensures.refused
    (λ none. refused_as _ c.in-Prices.is (no_prices _ none))

pub returns-in-Prices-clause-command : goal.returns-in-Prices-clause-command
returns-in-Prices-clause-command c =
    made lines.Prices _ _ _ c.map-in-Prices.result c.map-in-Prices.ensures.cases c.line_of-in-Prices.ensures.line
    (λ line is. rw (c.in-Prices.is) is)

pub returns-in-Weights-clause-refused : goal.returns-in-Weights-clause-refused
returns-in-Weights-clause-refused c =
    mapped _ _ _ c.map-in-Weights.result _ c.map-in-Weights.ensures.cases c.line_of-in-Weights.ensures.refused
    (λ none. refused_as _ c.in-Weights.is (no_weights _ none))

pub returns-in-Weights-clause-command : goal.returns-in-Weights-clause-command
returns-in-Weights-clause-command c =
    made lines.Weights _ _ _ c.map-in-Weights.result c.map-in-Weights.ensures.cases c.line_of-in-Weights.ensures.line
    (λ line is. rw (c.in-Weights.is) is)

pub returns-in-Compare-clause-refused : goal.returns-in-Compare-clause-refused
returns-in-Compare-clause-refused c =
    mapped _ _ _ c.map-in-Compare.result _ c.map-in-Compare.ensures.cases c.line_of-in-Compare.ensures.refused
    (λ none. refused_as _ c.in-Compare.is (no_compare _ none))

pub returns-in-Compare-clause-command : goal.returns-in-Compare-clause-command
returns-in-Compare-clause-command c =
    made lines.Compare _ _ _ c.map-in-Compare.result c.map-in-Compare.ensures.cases c.line_of-in-Compare.ensures.line
    (λ line is. rw (c.in-Compare.is) is)

pub returns-in-Functions-clause-refused : goal.returns-in-Functions-clause-refused
returns-in-Functions-clause-refused c =
    mapped _ _ _ c.map-in-Functions.result _ c.map-in-Functions.ensures.cases c.line_of-in-Functions.ensures.refused
    (λ none. refused_as _ c.in-Functions.is (no_functions _ none))

pub returns-in-Functions-clause-command : goal.returns-in-Functions-clause-command
returns-in-Functions-clause-command c =
    made lines.Functions _ _ _ c.map-in-Functions.result c.map-in-Functions.ensures.cases
    c.line_of-in-Functions.ensures.line
    (λ line is. rw (c.in-Functions.is) is)

pub returns-in-Page-clause-refused : goal.returns-in-Page-clause-refused
returns-in-Page-clause-refused c =
    mapped _ _ _ c.map-in-Page.result _ c.map-in-Page.ensures.cases c.line_of-in-Page.ensures.refused
    (λ none. refused_as _ c.in-Page.is (no_page _ none))

pub returns-in-Page-clause-command : goal.returns-in-Page-clause-command
returns-in-Page-clause-command c =
    made lines.Page _ _ _ c.map-in-Page.result c.map-in-Page.ensures.cases c.line_of-in-Page.ensures.line
    (λ line is. rw (c.in-Page.is) is)

pub returns-in-Find-clause-refused : goal.returns-in-Find-clause-refused
returns-in-Find-clause-refused c =
    mapped _ _ _ c.map-in-Find.result _ c.map-in-Find.ensures.cases c.line_of-in-Find.ensures.refused
    (λ none. refused_as _ c.in-Find.is (no_find _ none))

pub returns-in-Find-clause-command : goal.returns-in-Find-clause-command
returns-in-Find-clause-command c =
    made lines.Find _ _ _ c.map-in-Find.result c.map-in-Find.ensures.cases c.line_of-in-Find.ensures.line
    (λ line is. rw (c.in-Find.is) is)
