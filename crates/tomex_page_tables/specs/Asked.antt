-- What was asked: the programs, and the entries of lists of parts with their prices. A study's value has rows and no
-- lists, so a list's entries are those of the rows, in the order of the first rows that have them.
use Rattle.std.specs.Prelude.{ℕ, ◌-◌, ◌*◌, not, List, [], ◌∷◌, ◌++◌, codes, length, slice_get, Option, Some, None}
use Rattle.std.specs.Fmt.{decimal}
use Rattle.std.specs.List.{filter, flat_map}
use Rattle.tomex_rvdec.specs.Text.{instr_text}
use Rattle.tomex_config.specs.Configuration.{Configuration, option_of}
use Rattle.tomex_config.specs.Cost.{PriceList, price_of}
use Rattle.tomex_config.specs.PartPrices.{cost_of_part, price_of_part}
use Rattle.tomex_config.specs.Parts.{entries_in}
use Rattle.tomex_html.specs.Html.{table_end, td}
use Rattle.tomex_rvexec.specs.declared.step.Step.{Step}
use Rattle.tomex_study.specs.Program.{Workload, steps_of}
use Rattle.tomex_study.specs.Study.{DesignSpace}
use Rattle.tomex_config.specs.Parts.{count_of}
use Rattle.tomex_config.specs.declared.part.Part.{Part}
use Rattle.tomex_config.specs.declared.part.Part.TheVariants.{Stations, Units, Buses, Width}
use Rattle.tomex_config.specs.Parts.{same_entry}
use Rattle.tomex_layout.specs.Lists.{entry_text}
use Rattle.tomex_html.specs.Tables.{number_cell, table_head, table_row}
use Rattle.tomex_page_tables.specs.Pieces.{some}
use Rattle.tomex_page_tables.specs.declared.choices.Facet.{Facet}
use Rattle.tomex_page_tables.specs.declared.choices.Facet.TheVariants.{Choice, Cost}

abbrev pub instruction_text : Option Step → List ℕ
instruction_text None = []
instruction_text (Some step) = instr_text step.instr

-- the last step's instruction, which ends the run: ebreak or ecall
abbrev pub end_text : List Step → List ℕ
end_text steps = instruction_text (slice_get steps (length steps - 1))

-- a program: the number of instructions of its run, the one that ends it, and how often its cycles count
abbrev pub program_cells : Workload → List ℕ
program_cells p = number_cell (length (steps_of p)) ++ (td (end_text (steps_of p)) ++ number_cell p.weight)

unfoldable pub program_row : Workload → List ℕ
program_row p = table_row p.name (program_cells p)

abbrev pub program_names : List (List ℕ)
program_names = codes "Name" ∷ codes "Instructions" ∷ codes "End" ∷ codes "Weight" ∷ []

unfoldable pub programs_table : DesignSpace → List ℕ
programs_table s =
    table_head (codes " class=\"a\"") (codes "Programs") program_names ++ (flat_map program_row s.programs ++ table_end)

-- the text of a configuration's entry in a part's list
abbrev pub facet_text : PriceList → Facet → Part → Configuration → List ℕ
facet_text prices Choice part config = entry_text config part
facet_text prices Cost part config = decimal (cost_of_part prices config part)

-- the texts of the entries of a list that some row has
unfoldable pub entries_text : DesignSpace → Facet → Part → List ℕ
entries_text s facet part = some (facet_text s.prices facet part) (entries_in part s.rows)

-- the prices of a list's entries: each option has its price, any other list one for all
abbrev pub prices_text : DesignSpace → Part → List ℕ
prices_text s (Units unit) = entries_text s Cost (Units unit)
prices_text s part = decimal (price_of_part s.prices part)
