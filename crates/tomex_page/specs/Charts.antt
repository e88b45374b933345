-- The chart of a run's first instructions, cycle by cycle.
use Rattle.std.specs.Prelude.{ℕ, nat_le, if◌then◌else◌, List, ◌++◌, codes}
use Rattle.tomex_rvexec.specs.declared.step.Step.{Step}
use Rattle.tomex_run_views.specs.Chart.{picture_of, signs_of}
use Rattle.tomex_run_views.specs.Excerpt.{TimedSteps, excerpt_with}
use Rattle.tomex_timing.specs.declared.times.Times.{Times}

-- the most instructions that a chart shows
abbrev pub chart_steps : ℕ
chart_steps = 32

-- a chart of more signs than this isn't drawn
abbrev pub chart_signs : ℕ
chart_signs = 16384

unfoldable pub too_wide : List ℕ
too_wide = codes "<p>Too wide: <code>tomex pipeline</code> draws it.</p>\n"

unfoldable pub chart_block : TimedSteps → List ℕ
chart_block e = codes "<pre>" ++ (picture_of e.number e.steps e.times ++ codes "</pre>")

unfoldable pub picture_text : TimedSteps → List ℕ
picture_text e = if nat_le (signs_of e.times) chart_signs then chart_block e else too_wide

unfoldable pub chart_start : List ℕ → List ℕ
chart_start name =
    codes "<details><summary>" ++ (name ++ codes ": its first instructions, cycle by cycle</summary>\n")

-- a program's name, and the chart of an excerpt of its run
unfoldable pub chart_of : List ℕ → TimedSteps → List ℕ
chart_of name e = chart_start name ++ (picture_text e ++ codes "</details>\n")

-- the first steps of a run with these times
abbrev pub first_steps : List Step → List Times → TimedSteps
first_steps steps times = excerpt_with steps times 1 chart_steps
