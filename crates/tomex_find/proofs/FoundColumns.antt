-- The lengths of columns.
use Rattle.std.proofs.Common.{◌≡◌, ℕ, List, [], ◌∷◌, length}
use Rattle.std.specs.Prelude.{All}
use Rattle.std.specs.List.{flat_map}
use Rattle.std.proofs.lemmas.List.{length-map}
use Rattle.std.proofs.lemmas.List.Elements.{All-cons, All-nil}
use Rattle.tomex_study.specs.Study.{DesignSpace}
use Rattle.tomex_config.specs.Settings.{all_settings, differs}
use Rattle.tomex_config.specs.declared.setting.Setting.{Setting}
use Rattle.tomex_layout.specs.Table.{TableColumn}
use Rattle.tomex_layout.proofs.Each.{all_flat_map, all_if}
use Rattle.tomex_find.specs.Find.{column_of, columns_of, setting_columns}
use Rattle.tomex_find.specs.declared.property.Property.{Property}
use Rattle.tomex_find.specs.declared.property.Property.TheVariants.{Row, Cost, Setting as OfSetting}

-- an entry for each of the rows
abbrev pub HasEntries : List ℕ → TableColumn → Type 0
HasEntries rows c = length c.entries ≡ length rows

column_long : (s : DesignSpace) (rows : List ℕ) (p : Property) → HasEntries rows (column_of s rows p)
unfolding column_of
column_long s rows p = length-map rows _

setting_long : (s : DesignSpace) (rows : List ℕ) (setting : Setting)
    → All (HasEntries rows) (setting_columns s rows setting)
unfolding setting_columns
setting_long s rows setting =
    let P = HasEntries rows in
    all_if P _ (differs s.rows setting) (All-cons P _ [] (column_long s rows (OfSetting setting)) (All-nil P))

pub columns_long : (s : DesignSpace) (rows : List ℕ) → All (λ c. length c.entries ≡ length rows) (columns_of s rows)
columns_long s rows =
    let P = HasEntries rows in
    let settings = flat_map (setting_columns s rows) all_settings in
    All-cons P (column_of s rows Row) (column_of s rows Cost ∷ settings) (column_long s rows Row)
    (All-cons P (column_of s rows Cost) settings (column_long s rows Cost)
    (all_flat_map P (setting_columns s rows) all_settings (setting_long s rows)))
