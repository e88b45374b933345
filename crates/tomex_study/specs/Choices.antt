-- The choices of a study's lists: the entries that its rows have, and which of them are on its front. A list is that of
-- a part: stations of a pool, options for a kind of unit, buses, or widths.
use Rattle.std.specs.Prelude.{◌==◌, ℕ, Bool, true, false, not, List, [], ◌∷◌}
use Rattle.std.specs.List.{filter, list_any}
use Rattle.tomex_config.specs.Configuration.{Configuration, most_units}
use Rattle.tomex_config.specs.Configuration.{latency_of}
use Rattle.tomex_study.specs.Study.{DesignSpace, config_at}
use Rattle.tomex_study.specs.StudyFront.{front_of_study}
use Rattle.tomex_config.specs.declared.part.Part.{Part}
use Rattle.tomex_config.specs.declared.part.Part.TheVariants.{Stations, Units, Buses, Width}
use Rattle.tomex_config.specs.Parts.{same_entry}
use Rattle.tomex_config.specs.Parts.{firsts}

-- the choices of a list, in the order of the first rows that have them; for each of them its first configuration
abbrev pub choices : DesignSpace → Part → List Configuration
choices s part = firsts (λ c d. same_entry c d part) s.rows

-- some row of the front has a configuration's entry
abbrev pub is_used : DesignSpace → Part → Configuration → Bool
is_used s part c = list_any (λ r. same_entry (config_at s r.row) c part) (front_of_study s)

-- some row of the front has it, or none does, as is asked for
abbrev pub has_use : DesignSpace → Part → Bool → Configuration → Bool
has_use s part true c = is_used s part c
has_use s part false c = not (is_used s part c)

-- the choices that some row of the front has, and the others
unfoldable pub front_choices : DesignSpace → Part → List Configuration
front_choices s part = filter (is_used s part) (choices s part)

unfoldable pub unused : DesignSpace → Part → List Configuration
unused s part = filter (λ c. not (is_used s part c)) (choices s part)
