-- What is found out of a part's list in a study, whoever finds it. A choice is a configuration that has it.
use Rattle.std.specs.Prelude.{ℕ, List, Option}
use Rattle.tomex_config.specs.Configuration.{Configuration}
use Rattle.tomex_config.specs.declared.part.Part.{Part}
use Rattle.tomex_study.specs.declared.list_report.Saving.{Saving}

pub record ListFindings : Type 0 where
  pub part : Part
  -- the choices that some row of the front has, and the others
  pub front : List Configuration
  pub unused : List Configuration
  -- the choices that the list lacks and that are worth adding, and what they save at most, at the least cost
  pub additions : List Configuration
  pub saving : Option Saving
  -- from this number of the part on nothing changes
  pub enough : ℕ
