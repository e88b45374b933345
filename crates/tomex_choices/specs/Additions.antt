-- What the new machines of a study's list are good for: the choices that are worth adding, and the saving.
use Rattle.std.specs.Prelude.{◌==◌, ◌&&◌, Bool, List, Option}
use Rattle.std.specs.List.{filter, list_any}
use Rattle.tomex_config.specs.Configuration.{Configuration}
use Rattle.tomex_study.specs.Study.{DesignSpace}
use Rattle.tomex_study.specs.StudyFront.{all_rows}
use Rattle.tomex_config.specs.Parts.{count_of}
use Rattle.tomex_config.specs.declared.part.Part.{Part}
use Rattle.tomex_config.specs.Parts.{latency_in}
use Rattle.tomex_choices.specs.NewMachines.{lacking, new_machines}
use Rattle.tomex_choices.specs.Savings.{is_of_use, saving_among}
use Rattle.tomex_choices.specs.declared.new_machine.NewMachine.{NewMachine}
use Rattle.tomex_study.specs.declared.list_report.Saving.{Saving}

-- the new machines of a list that are of use
unfoldable pub useful : DesignSpace → Part → List NewMachine
useful s part = filter (is_of_use (all_rows s) (new_machines s part)) (new_machines s part)

-- a machine has a configuration's entry in a list
abbrev pub has_entry : Part → Configuration → NewMachine → Bool
has_entry part c x = x.number == count_of c part && x.latency == latency_in part c

-- the choices that a list lacks and that are of use: some new machine with it is
unfoldable pub additions : DesignSpace → Part → List Configuration
additions s part = filter (λ c. list_any (has_entry part c) (useful s part)) (lacking s part)

-- the greatest saving of a complete list, at the least cost
unfoldable pub saving_of : DesignSpace → Part → Option Saving
saving_of s part = saving_among (all_rows s) (new_machines s part)
