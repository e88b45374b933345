-- The lengths of columns.
use Rattle.std.proofs.Common.{◌≡◌, ◌∙◌, ◌<◌, ◌≤◌, ap, cond, refl, sym, suc, List, [], ◌∷◌, ◌++◌}
use Rattle.std.proofs.Common.{length, map, Option, Some, None}
use Rattle.std.specs.Prelude.{All, Bool, true, false, if◌then◌else◌, nat_lt}
use Rattle.std.specs.List.{flat_map}
use Rattle.std.proofs.lemmas.Bool.{le-ltb, lt-ltb}
use Rattle.std.proofs.lemmas.List.{length-map}
use Rattle.std.proofs.lemmas.List.Elements.{All-append, All-cons, All-nil}
use Rattle.tomex_study.specs.Program.{Workload}
use Rattle.tomex_study.specs.Study.{DesignSpace}
use Rattle.tomex_pareto.specs.declared.front_row.FrontRow.{FrontRow}
use Rattle.tomex_front_views.specs.FrontTable.{heading_column, own_columns}
use Rattle.tomex_config.specs.Settings.{all_settings, differs}
use Rattle.tomex_front_views.specs.FrontTable.{program_column}
use Rattle.tomex_front_views.specs.FrontTable.{program_columns, rate_column, rates_after, setting_columns}
use Rattle.tomex_front_views.specs.declared.table.heading.Heading.{Heading}
use Rattle.tomex_front_views.specs.declared.table.heading.Heading.TheVariants.{Setting as OfSetting, Row, Cost}
use Rattle.tomex_front_views.specs.declared.table.heading.Heading.TheVariants.{Cycles}
use Rattle.tomex_config.specs.declared.setting.Setting.{Setting}
use Rattle.tomex_layout.specs.Table.{TableColumn}
use Rattle.tomex_layout.proofs.Each.{all_flat_map, all_if, all_map}

-- an entry for each of the rows
abbrev pub HasEntries : List FrontRow → TableColumn → Type 0
HasEntries front c = length c.entries ≡ length front

heading_long : (s : DesignSpace) (front : List FrontRow) (heading : Heading)
    → HasEntries front (heading_column s front heading)
unfolding heading_column
heading_long s front heading = length-map front _

rates_long : (before : Option FrontRow) (rows : List FrontRow) → length (rates_after before rows) ≡ length rows
rates_long before [] = refl
rates_long before (r ∷ rows) = ap suc (rates_long (Some r) rows)

rate_long : (front : List FrontRow) → HasEntries front (rate_column front)
unfolding rate_column
rate_long front = rates_long None front

program_long : (s : DesignSpace) (front : List FrontRow) (p : Workload) → HasEntries front (program_column s front p)
unfolding program_column
program_long s front p = length-map front _

setting_long : (s : DesignSpace) (front : List FrontRow) (setting : Setting)
    → All (HasEntries front) (setting_columns s front setting)
unfolding setting_columns
setting_long s front setting =
    let one = All-cons (HasEntries front) _ [] (heading_long s front (OfSetting setting)) (All-nil (HasEntries front))
    in
    all_if (HasEntries front) _ (differs s.rows setting) one

-- all columns of the front's table
pub columns_long : (s : DesignSpace) (front : List FrontRow)
    → All (λ c. length c.entries ≡ length front) (own_columns s front ++ program_columns s front)
columns_long s front =
    let P = HasEntries front in
    let first = all_map P (heading_column s front) (Row ∷ Cost ∷ Cycles ∷ []) (heading_long s front) in
    let headings = map (heading_column s front) (Row ∷ Cost ∷ Cycles ∷ []) in
    let settings = flat_map (setting_columns s front) all_settings in
    let own = All-append P headings (rate_column front ∷ settings) first (All-cons P _ settings (rate_long front)
    (all_flat_map P (setting_columns s front) all_settings (setting_long s front))) in
    let programs = all_if P (map (program_column s front) s.programs) (nat_lt 1 (length s.programs))
    (all_map P (program_column s front) s.programs (program_long s front)) in
    All-append P (own_columns s front) (program_columns s front) own programs

-- columns are pushed one after another
pub all_columns : (s : DesignSpace) (front : List FrontRow) (none own all : List TableColumn) → none ≡ []
    → own ≡ none ++ own_columns s front → all ≡ own ++ program_columns s front → all ≡ own_columns s front
    ++ program_columns s front
all_columns s front none own all empty first last = rw (last, first, empty) refl

-- if there are several programs, each has a column
pub several_columns : (s : DesignSpace) (front : List FrontRow) → 1 < length s.programs
    → map (program_column s front) s.programs ≡ program_columns s front
several_columns s front several =
    ap (λ (t : Bool). cond t (map (program_column s front) s.programs) []) (sym (lt-ltb 1 (length s.programs) several))

-- if there is only one, it has none
pub no_column : (s : DesignSpace) (front : List FrontRow) → length s.programs ≤ 1 → [] ≡ program_columns s front
no_column s front one =
    ap (λ (t : Bool). cond t (map (program_column s front) s.programs) []) (sym (le-ltb 1 (length s.programs) one))
