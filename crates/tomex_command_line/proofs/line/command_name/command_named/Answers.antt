-- Each arm names its own command.
use Rattle.tomex_command_line.proofs.line.command_name.command_named.Goals as goal

pub returns-in-run : goal.returns-in-run
returns-in-run c = c.in-run.is

pub returns-in-parts : goal.returns-in-parts
returns-in-parts c = c.in-parts.is

pub returns-in-cut : goal.returns-in-cut
returns-in-cut c = c.in-cut.is

pub returns-in-times : goal.returns-in-times
returns-in-times c = c.in-times.is

pub returns-in-stalls : goal.returns-in-stalls
returns-in-stalls c = c.in-stalls.is

pub returns-in-path : goal.returns-in-path
returns-in-path c = c.in-path.is

pub returns-in-loops : goal.returns-in-loops
returns-in-loops c = c.in-loops.is

pub returns-in-pipeline : goal.returns-in-pipeline
returns-in-pipeline c = c.in-pipeline.is

pub returns-in-tables : goal.returns-in-tables
returns-in-tables c = c.in-tables.is

pub returns-in-animate : goal.returns-in-animate
returns-in-animate c = c.in-animate.is

pub returns-in-all : goal.returns-in-all
returns-in-all c = c.in-all.is

pub returns-in-explore : goal.returns-in-explore
returns-in-explore c = c.in-explore.is

pub returns-in-front : goal.returns-in-front
returns-in-front c = c.in-front.is

pub returns-in-plot : goal.returns-in-plot
returns-in-plot c = c.in-plot.is

pub returns-in-rows : goal.returns-in-rows
returns-in-rows c = c.in-rows.is

pub returns-in-worth : goal.returns-in-worth
returns-in-worth c = c.in-worth.is

pub returns-in-choices : goal.returns-in-choices
returns-in-choices c = c.in-choices.is

pub returns-in-prices : goal.returns-in-prices
returns-in-prices c = c.in-prices.is

pub returns-in-weights : goal.returns-in-weights
returns-in-weights c = c.in-weights.is

pub returns-in-compare : goal.returns-in-compare
returns-in-compare c = c.in-compare.is

pub returns-in-functions : goal.returns-in-functions
returns-in-functions c = c.in-functions.is

pub returns-in-page : goal.returns-in-page
returns-in-page c = c.in-page.is

pub returns-in-find : goal.returns-in-find
returns-in-find c = c.in-find.is

pub returns-in-explain : goal.returns-in-explain
returns-in-explain c = c.in-explain.is
