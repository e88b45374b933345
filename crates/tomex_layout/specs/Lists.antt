-- Names of a study's lists and of a configuration's settings, and the entries of lists, as texts.
use Rattle.std.specs.Prelude.{ℕ, List, ◌++◌, codes}
use Rattle.std.specs.Fmt.{decimal}
use Rattle.tomex_rvdec.specs.Places.{name_of_pool, name_of_unit}
use Rattle.tomex_config.specs.Configuration.{Configuration, option_of}
use Rattle.tomex_config.specs.Parts.{count_of}
use Rattle.tomex_config.specs.declared.part.Part.{Part}
use Rattle.tomex_config.specs.declared.part.Part.TheVariants.{Stations, Units, Buses, Width}
use Rattle.tomex_config.specs.declared.setting.Setting.{Setting}
use Rattle.tomex_config.specs.declared.setting.Setting.TheVariants.{Count, Latency}

-- a list's name, as studies write it
abbrev pub name_of_list : Part → List ℕ
name_of_list (Stations pool) = name_of_pool pool
name_of_list (Units unit) = codes "unit." ++ name_of_unit unit
name_of_list Buses = codes "buses"
name_of_list Width = codes "width"

-- a configuration's entry in a part's list: a number, or units and latency, as in `1@8`
abbrev pub entry_text : Configuration → Part → List ℕ
entry_text config (Units unit) =
    decimal (option_of config unit).units ++ (codes "@" ++ decimal (option_of config unit).latency)
entry_text config part = decimal (count_of config part)

-- a setting's name, as the front report writes it over its column
abbrev pub name_of_setting : Setting → List ℕ
name_of_setting (Count (Stations pool)) = name_of_pool pool
name_of_setting (Count (Units unit)) = name_of_unit unit ++ codes "_units"
name_of_setting (Count Buses) = codes "buses"
name_of_setting (Count Width) = codes "width"
name_of_setting (Latency unit) = name_of_unit unit ++ codes "_latency"
