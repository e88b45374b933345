-- The values that each command asks for, by the rows of what `clap` is specified to find in a line's words; and that
-- the rows ask for none.
use Rattle.std.specs.Prelude.{◌≡◌, ◌≤◌, ◌==◌, ℕ, Bool, true, false, List, codes, Ok, Option}
use Rattle.std.specs.List.{list_any}
use Rattle.std.specs.Str.Parse.{ParsesUnsigned}
use Rattle.std.specs.declared.num.ParseIntError.{ParseIntError}
use Rattle.clap.specs.Words.{Row}
use Rattle.tomex_arguments.specs.Values.{AreEach, AreWords, IsFlag, IsNumber, IsWord}
use Rattle.tomex_command_line.specs.Limits.{last_cycle, last_from, last_row, most_part, most_steps}
use Rattle.tomex_command_line.specs.declared.line.config.ConfigName.{ConfigName}
use Rattle.tomex_command_line.specs.declared.line.config.ConfigName.TheVariants.{Number, Choices}

-- the image of a command on one, and its memory
pub record IsImageAsked (rows : List Row) (image : List ℕ) (base size : ℕ) : Type 0 where
  pub is_image : IsWord rows (codes "IMAGE") image
  pub is_base : IsNumber rows (codes "base") 0 4294967292 base
  pub is_size : IsNumber rows (codes "size") 4 1048576 size

abbrev pub IsNoImage : List Row → Type 0
IsNoImage rows = (image : List ℕ) (base size : ℕ) → IsImageAsked rows image base size → ⊥

-- the values of `run`
pub record IsRunAsked (rows : List Row) (image : List ℕ) (base size limit : ℕ) : Type 0 where
  pub of_image : IsImageAsked rows image base size
  pub is_limit : IsNumber rows (codes "limit") 1 most_steps limit

abbrev pub IsNoRun : List Row → Type 0
IsNoRun rows = (image : List ℕ) (base size limit : ℕ) → IsRunAsked rows image base size limit → ⊥

-- the values of `parts`
pub record IsPartsAsked (rows : List Row) (image : List ℕ) (base size steps : ℕ) : Type 0 where
  pub of_image : IsImageAsked rows image base size
  pub is_steps : IsNumber rows (codes "STEPS") 1 most_part steps

abbrev pub IsNoParts : List Row → Type 0
IsNoParts rows = (image : List ℕ) (base size steps : ℕ) → IsPartsAsked rows image base size steps → ⊥

-- the values of `cut`
pub record IsCutAsked (rows : List Row) (image : List ℕ) (base size from steps : ℕ) (symbols : Bool) : Type 0 where
  pub of_image : IsImageAsked rows image base size
  pub is_from : IsNumber rows (codes "FROM") 1 last_from from
  pub is_steps : IsNumber rows (codes "STEPS") 1 most_part steps
  pub is_symbols : IsFlag rows (codes "symbols") symbols

abbrev pub IsNoCut : List Row → Type 0
IsNoCut rows = (image : List ℕ) (base size from steps : ℕ) (symbols : Bool)
    → IsCutAsked rows image base size from steps symbols → ⊥

-- the word of CONFIG is a number in decimal
pub record IsConfigNumber (rows : List Row) (number : ℕ) : Type 0 where
  pub word : List ℕ
  pub is_word : IsWord rows (codes "CONFIG") word
  pub no_choices : list_any (λ b. b == 61) word ≡ false
  pub parsed : ParsesUnsigned {E = ParseIntError} 32 10 word (Ok number)
  pub within : number ≤ last_row

-- or it is choices: there is a `=` in it
pub record AreConfigChoices (rows : List Row) (word : List ℕ) : Type 0 where
  pub is_word : IsWord rows (codes "CONFIG") word
  pub choices : list_any (λ b. b == 61) word ≡ true

-- the configuration that CONFIG names
abbrev pub IsConfigAsked : List Row → ConfigName → Type 0
IsConfigAsked rows (Number number) = IsConfigNumber rows number
IsConfigAsked rows (Choices word) = AreConfigChoices rows word.now

abbrev pub IsNoConfig : List Row → Type 0
IsNoConfig rows = (config : ConfigName) → IsConfigAsked rows config → ⊥

-- the values of a command on one run of a study
pub record IsOneRunAsked (rows : List Row) (study : List ℕ) (config : ConfigName) (program : List ℕ) : Type 0 where
  pub is_study : IsWord rows (codes "STUDY") study
  pub is_config : IsConfigAsked rows config
  pub is_program : IsWord rows (codes "PROGRAM") program

abbrev pub IsNoOneRun : List Row → Type 0
IsNoOneRun rows = (study : List ℕ) (config : ConfigName) (program : List ℕ)
    → IsOneRunAsked rows study config program → ⊥

-- the values of `stalls`
pub record IsStallsAsked (rows : List Row) (study : List ℕ) (config : ConfigName) (program : List ℕ)
    (by_pc by_function : Bool) : Type 0 where
  pub of_run : IsOneRunAsked rows study config program
  pub is_by_pc : IsFlag rows (codes "by-pc") by_pc
  pub is_by_function : IsFlag rows (codes "by-function") by_function

abbrev pub IsNoStalls : List Row → Type 0
IsNoStalls rows = (study : List ℕ) (config : ConfigName) (program : List ℕ) (by_pc by_function : Bool)
    → IsStallsAsked rows study config program by_pc by_function → ⊥

-- the values of `path`
pub record IsPathAsked (rows : List Row) (study : List ℕ) (config : ConfigName) (program : List ℕ)
    (links by_pc by_function : Bool) : Type 0 where
  pub of_run : IsOneRunAsked rows study config program
  pub is_links : IsFlag rows (codes "links") links
  pub is_by_pc : IsFlag rows (codes "by-pc") by_pc
  pub is_by_function : IsFlag rows (codes "by-function") by_function

abbrev pub IsNoPath : List Row → Type 0
IsNoPath rows = (study : List ℕ) (config : ConfigName) (program : List ℕ) (links by_pc by_function : Bool)
    → IsPathAsked rows study config program links by_pc by_function → ⊥

-- the values of `pipeline`
pub record IsPipelineAsked (rows : List Row) (study : List ℕ) (config : ConfigName) (program : List ℕ)
    (from steps : ℕ)
    (konata : Bool) : Type 0 where
  pub of_run : IsOneRunAsked rows study config program
  pub is_from : IsNumber rows (codes "from") 1 most_steps from
  pub is_steps : IsNumber rows (codes "steps") 1 most_steps steps
  pub is_konata : IsFlag rows (codes "konata") konata

abbrev pub IsNoPipeline : List Row → Type 0
IsNoPipeline rows = (study : List ℕ) (config : ConfigName) (program : List ℕ) (from steps : ℕ) (konata : Bool)
    → IsPipelineAsked rows study config program from steps konata → ⊥

-- the values of `tables`
pub record IsTablesAsked (rows : List Row) (study : List ℕ) (config : ConfigName) (program : List ℕ)
    (cycle : ℕ) : Type 0 where
  pub of_run : IsOneRunAsked rows study config program
  pub is_cycle : IsNumber rows (codes "CYCLE") 0 last_cycle cycle

abbrev pub IsNoTables : List Row → Type 0
IsNoTables rows = (study : List ℕ) (config : ConfigName) (program : List ℕ) (cycle : ℕ)
    → IsTablesAsked rows study config program cycle → ⊥

-- the values of `animate`
pub record IsAnimateAsked (rows : List Row) (study : List ℕ) (config : ConfigName) (program : List ℕ)
    (from cycles : ℕ) (blank : Bool) : Type 0 where
  pub of_run : IsOneRunAsked rows study config program
  pub is_from : IsNumber rows (codes "from") 1 last_cycle from
  pub is_cycles : IsNumber rows (codes "cycles") 1 256 cycles
  pub is_blank : IsFlag rows (codes "blank") blank

abbrev pub IsNoAnimate : List Row → Type 0
IsNoAnimate rows = (study : List ℕ) (config : ConfigName) (program : List ℕ) (from cycles : ℕ) (blank : Bool)
    → IsAnimateAsked rows study config program from cycles blank → ⊥

-- the value of `all`
abbrev pub IsAllAsked : List Row → List ℕ → Type 0
IsAllAsked rows study = IsWord rows (codes "STUDY") study

abbrev pub IsNoAll : List Row → Type 0
IsNoAll rows = (study : List ℕ) → IsAllAsked rows study → ⊥

-- the values of `explore`, and of other commands on all rows of a study
pub record IsExploreAsked (rows : List Row) (study : List ℕ) (workers : ℕ) : Type 0 where
  pub is_study : IsWord rows (codes "STUDY") study
  pub is_workers : IsNumber rows (codes "workers") 1 32 workers

abbrev pub IsNoExplore : List Row → Type 0
IsNoExplore rows = (study : List ℕ) (workers : ℕ) → IsExploreAsked rows study workers → ⊥

-- the values of `front`
pub record IsFrontAsked (rows : List Row) (study : List ℕ) (workers : ℕ) (hull : Bool) : Type 0 where
  pub of_study : IsExploreAsked rows study workers
  pub is_hull : IsFlag rows (codes "hull") hull

abbrev pub IsNoFront : List Row → Type 0
IsNoFront rows = (study : List ℕ) (workers : ℕ) (hull : Bool) → IsFrontAsked rows study workers hull → ⊥

-- the values of `page`
pub record IsPageAsked (rows : List Row) (study : List ℕ) (workers : ℕ) (choices : Bool) : Type 0 where
  pub of_study : IsExploreAsked rows study workers
  pub is_choices : IsFlag rows (codes "choices") choices

abbrev pub IsNoPage : List Row → Type 0
IsNoPage rows = (study : List ℕ) (workers : ℕ) (choices : Bool) → IsPageAsked rows study workers choices → ⊥

-- the values of `plot`
pub record IsPlotAsked (rows : List Row) (study : List ℕ) (workers : ℕ) (all : Bool) : Type 0 where
  pub of_study : IsExploreAsked rows study workers
  pub is_all : IsFlag rows (codes "rows") all

abbrev pub IsNoPlot : List Row → Type 0
IsNoPlot rows = (study : List ℕ) (workers : ℕ) (all : Bool) → IsPlotAsked rows study workers all → ⊥

-- the values of a command that prints a table, or the same as CSV
pub record IsTableAsked (rows : List Row) (study : List ℕ) (workers : ℕ) (csv : Bool) : Type 0 where
  pub of_study : IsExploreAsked rows study workers
  pub is_csv : IsFlag rows (codes "csv") csv

abbrev pub IsNoTable : List Row → Type 0
IsNoTable rows = (study : List ℕ) (workers : ℕ) (csv : Bool) → IsTableAsked rows study workers csv → ⊥

-- the values of `worth`
pub record IsWorthAsked (rows : List Row) (study : List ℕ) (config : ConfigName) (workers : ℕ) (csv : Bool)
    : Type 0 where
  pub of_study : IsExploreAsked rows study workers
  pub is_config : IsConfigAsked rows config
  pub is_csv : IsFlag rows (codes "csv") csv

abbrev pub IsNoWorth : List Row → Type 0
IsNoWorth rows = (study : List ℕ) (config : ConfigName) (workers : ℕ) (csv : Bool)
    → IsWorthAsked rows study config workers csv → ⊥

-- the two builds of a program
pub record AreBuildsAsked (rows : List Row) (old new : List ℕ) : Type 0 where
  pub is_old : IsWord rows (codes "OLD") old
  pub is_new : IsWord rows (codes "NEW") new

abbrev pub AreNoBuilds : List Row → Type 0
AreNoBuilds rows = (old new : List ℕ) → AreBuildsAsked rows old new → ⊥

-- the values of `compare`
pub record IsCompareAsked (rows : List Row) (study old new : List ℕ) (workers : ℕ) (csv : Bool) : Type 0 where
  pub of_study : IsExploreAsked rows study workers
  pub are_builds : AreBuildsAsked rows old new
  pub is_csv : IsFlag rows (codes "csv") csv

abbrev pub IsNoCompare : List Row → Type 0
IsNoCompare rows = (study old new : List ℕ) (workers : ℕ) (csv : Bool)
    → IsCompareAsked rows study old new workers csv → ⊥

-- the values of `functions`
pub record IsFunctionsAsked (rows : List Row) (study : List ℕ) (config : ConfigName) (old new : List ℕ) : Type 0 where
  pub is_study : IsWord rows (codes "STUDY") study
  pub is_config : IsConfigAsked rows config
  pub are_builds : AreBuildsAsked rows old new

abbrev pub IsNoFunctions : List Row → Type 0
IsNoFunctions rows = (study : List ℕ) (config : ConfigName) (old new : List ℕ)
    → IsFunctionsAsked rows study config old new → ⊥

-- the values of `find`
pub record IsFindAsked (rows : List Row) (study : List ℕ) (choices : List (List ℕ)) : Type 0 where
  pub is_study : IsWord rows (codes "STUDY") study
  pub are_choices : AreEach rows (codes "CHOICE") choices

abbrev pub IsNoFind : List Row → Type 0
IsNoFind rows = (study : List ℕ) (choices : List (List ℕ)) → IsFindAsked rows study choices → ⊥

-- the value of `explain`
abbrev pub IsExplainAsked : List Row → Option (List ℕ) → Type 0
IsExplainAsked rows refusal = AreWords rows (codes "REFUSAL") refusal
