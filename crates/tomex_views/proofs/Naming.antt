-- Choices with a row's number name it, and each line of the table of rows has such choices.
use Rattle.std.proofs.Common.{◌≡◌, ◌≢◌, ◌∙◌, ap, arith, refl, sym, subst, ℕ, ◌<◌, ◌^◌, All, Contains, List, [], ◌∷◌}
use Rattle.std.proofs.Common.{◌++◌, Bool, true, false, ◌||◌, bytes_eq, codes, decimal, if◌then◌else◌, length, map}
use Rattle.std.proofs.Common.{slice_index, slice_index_or}
use Rattle.std.specs.List.{flat_map, list_all, list_any}
use Rattle.std.proofs.lemmas.Bool.{false_from_ne_true, or_left, or_right}
use Rattle.std.proofs.lemmas.Fmt.{decimal_injective}
use Rattle.std.proofs.lemmas.List.{append_cancel_left, get_or-map}
use Rattle.std.proofs.lemmas.List.Elements.{All-cons, All-filter, All-map, All-nil, filter_agree}
use Rattle.std.proofs.lemmas.List.Sums.{list_all-from_AllPass}
use Rattle.std.proofs.lemmas.Slice.Eq.{bytes_eq-Decides}
use Rattle.tomex_rvdec.specs.declared.pool.PoolId.TheVariants as pools
use Rattle.tomex_rvdec.specs.declared.pool.UnitId.TheVariants as units
use Rattle.tomex_config.specs.Settings.{all_settings, differs, setting_of}
use Rattle.tomex_config.specs.declared.part.Part.TheVariants.{Stations, Units, Buses, Width}
use Rattle.tomex_config.specs.declared.setting.Setting.{Setting}
use Rattle.tomex_config.specs.declared.setting.Setting.TheVariants.{Count, Latency}
use Rattle.tomex_layout.specs.Lists.{name_of_setting}
use Rattle.tomex_layout.specs.Table.{TableColumn}
use Rattle.tomex_layout.proofs.Each.{all_flat_map, all_if}
use Rattle.tomex_study.specs.Study.{DesignSpace, IsStudy, config_at}
use Rattle.tomex_find.specs.Find.{column_of, columns_of, found_in, has_all, has_choice, row_numbers}
use Rattle.tomex_find.specs.Find.{setting_columns}
use Rattle.tomex_find.specs.RowName.{choices_in, only_one}
use Rattle.tomex_views.specs.FindLaws.{Name, choice_in, choices_of_line, number_choice}
use Rattle.tomex_views.proofs.Commas.{choices_back}
use Rattle.tomex_views.proofs.Members.{all_fails, all_same, any_has, below, only_in}

abbrev choice : List ℕ → ℕ → List ℕ
choice name value = name ++ (codes "=" ++ decimal value)

equal : (text : List ℕ) → bytes_eq text text ≡ true
equal text = (bytes_eq-Decides text text).1 refl

-- what a row has

listed : (setting : Setting) → Contains all_settings setting
listed (Count (Stations pools.Alu)) = (0, omega arith, refl)
listed (Count (Stations pools.Mul)) = (1, omega arith, refl)
listed (Count (Stations pools.Div)) = (2, omega arith, refl)
listed (Count (Stations pools.Load)) = (3, omega arith, refl)
listed (Count (Stations pools.Store)) = (4, omega arith, refl)
listed (Count (Stations pools.Bru)) = (5, omega arith, refl)
listed (Count (Units units.Alu)) = (6, omega arith, refl)
listed (Latency units.Alu) = (7, omega arith, refl)
listed (Count (Units units.Mul)) = (8, omega arith, refl)
listed (Latency units.Mul) = (9, omega arith, refl)
listed (Count (Units units.Div)) = (10, omega arith, refl)
listed (Latency units.Div) = (11, omega arith, refl)
listed (Count (Units units.Mem)) = (12, omega arith, refl)
listed (Latency units.Mem) = (13, omega arith, refl)
listed (Count (Units units.Bru)) = (14, omega arith, refl)
listed (Latency units.Bru) = (15, omega arith, refl)
listed (Count Buses) = (16, omega arith, refl)
listed (Count Width) = (17, omega arith, refl)

module _ (s : DesignSpace) (k : ℕ) where
  abbrev cost : ℕ
  cost = slice_index_or s.costs k 0

  abbrev value : Setting → ℕ
  value setting = setting_of (config_at s k) setting

  abbrev is_of : List ℕ → Setting → Bool
  is_of word t = bytes_eq (choice (name_of_setting t) (value t)) word

  abbrev is_cost : List ℕ → Bool
  is_cost word = bytes_eq (choice (codes "cost") cost) word

  has_number : has_choice s k (number_choice k) ≡ true
  unfolding has_choice
  has_number =
      let word = number_choice k in
      or_left (bytes_eq word word) (is_cost word || list_any (is_of word) all_settings) (equal word)

  has_cost : has_choice s k (choice (codes "cost") cost) ≡ true
  unfolding has_choice
  has_cost =
      let word = choice (codes "cost") cost in
      or_left (is_cost word) (list_any (is_of word) all_settings) (equal word)

  has_setting : (t : Setting) → has_choice s k (choice (name_of_setting t) (value t)) ≡ true
  unfolding has_choice
  has_setting t =
      let word = choice (name_of_setting t) (value t) in
      let some : list_any (is_of word) all_settings ≡ true =
      any_has (is_of word) all_settings t (listed t) (equal word) in
      or_right (bytes_eq (number_choice k) word) (is_cost word || list_any (is_of word) all_settings)
      (or_right (is_cost word) (list_any (is_of word) all_settings) some)

-- the choice of a row's number is only that row's
has_other : (s : DesignSpace) (j k : ℕ) → j < 2 ^ 64 → k < 2 ^ 64 → j ≢ k → has_choice s j (number_choice k) ≡ false
unfolding has_choice
has_other s j k low small apart =
    let fails : bytes_eq (number_choice j) (number_choice k) ≡ false =
    false_from_ne_true (bytes_eq (number_choice j) (number_choice k))
    (λ e. apart (decimal_injective j k low small (append_cancel_left (codes "row=") (decimal j) (decimal k)
    ((bytes_eq-Decides (number_choice j) (number_choice k)).0 e)))) in
    ap (λ b. b || false) fails

-- the only row that has all choices

module _ (s : DesignSpace) (study : IsStudy s) (k : ℕ) (inside : k < length s.rows) where
  only_row : (words : List (List ℕ)) → has_all s words k ≡ true → Contains words (number_choice k)
      → found_in s words ≡ k ∷ []
  unfolding found_in has_all
  only_row words all numbered =
      only_in (λ j. list_all (has_choice s j) words) k (length s.rows) all
      (λ j low apart. all_fails (has_choice s j) words (number_choice k) numbered
      (has_other s j k (omega (arith, study.few_rows, low)) (omega (arith, study.few_rows, inside)) apart))
      0 (length s.rows) (omega arith) (omega (arith, inside)) (omega arith)

  named : (words : List (List ℕ)) → has_all s words k ≡ true → Contains words (number_choice k) → Name s words k
  named [] all (i, low, is) word spelled = absurd (omega (arith, low))
  named (first ∷ rest) all numbered word spelled =
      ap (λ (words : List (List ℕ)). only_one (found_in s words))
      (ap choices_in spelled ∙ choices_back s k first rest all)
      ∙ ap only_one (only_row (first ∷ rest) all numbered)

pub choices_name : (s : DesignSpace) (words : List (List ℕ)) (k : ℕ) → IsStudy s → k < length s.rows
    → has_all s words k ≡ true → Contains words (number_choice k) → Name s words k
choices_name s words k study inside = named s study k inside words

-- a line shows what its row has

module _ (s : DesignSpace) (rows : List ℕ) (i : ℕ) (low : i < length rows) where
  abbrev row : ℕ
  row = slice_index rows i

  abbrev column : List ℕ → (ℕ → ℕ) → TableColumn
  column name of = record { name = name; entries = map (λ k. decimal (of k)) rows }

  abbrev setting_column : Setting → TableColumn
  setting_column t = column (name_of_setting t) (λ k. setting_of (config_at s k) t)

  abbrev settings : List TableColumn
  settings = flat_map (λ t. if differs s.rows t then setting_column t ∷ [] else []) all_settings

  abbrev columns : List TableColumn
  columns = column (codes "row") (λ k. k) ∷ column (codes "cost") (λ k. slice_index_or s.costs k 0) ∷ settings

  columns_are : columns_of s rows ≡ columns
  unfolding column_of setting_columns
  columns_are = refl

  shown : (name : List ℕ) (of : ℕ → ℕ) → choice_in i (column name of) ≡ choice name (of row)
  shown name of =
      ap (λ (text : List ℕ). name ++ (codes "=" ++ text)) (get_or-map (λ k. decimal (of k)) rows i 0 [] low)

  abbrev Has : TableColumn → Type 0
  Has c = has_choice s row (choice_in i c) ≡ true

  has : (name : List ℕ) (of : ℕ → ℕ) → has_choice s row (choice name (of row)) ≡ true → Has (column name of)
  has name of h = ap (has_choice s row) (shown name of) ∙ h

  has_columns : All Has columns
  has_columns =
      All-cons Has (column (codes "row") (λ k. k)) (column (codes "cost") (λ k. slice_index_or s.costs k 0) ∷ settings)
      (has (codes "row") (λ k. k) (has_number s row))
      (All-cons Has (column (codes "cost") (λ k. slice_index_or s.costs k 0)) settings
      (has (codes "cost") (λ k. slice_index_or s.costs k 0) (has_cost s row))
      (all_flat_map Has (λ t. if differs s.rows t then setting_column t ∷ [] else []) all_settings
      (λ t. all_if Has (setting_column t ∷ []) (differs s.rows t)
      (All-cons Has (setting_column t) []
      (has (name_of_setting t) (λ k. setting_of (config_at s k) t) (has_setting s row t)) (All-nil Has)))))

  line_has : has_all s (choices_of_line s rows i) row ≡ true
  unfolding has_all
  line_has =
      list_all-from_AllPass (has_choice s row) (choices_of_line s rows i)
      (All-map (λ w. has_choice s row w ≡ true) (choice_in i) (columns_of s rows)
      (subst (All Has) (sym columns_are) has_columns))

  line_numbered : Contains (choices_of_line s rows i) (number_choice row)
  line_numbered =
      subst (λ (cs : List TableColumn). Contains (map (choice_in i) cs) (number_choice row)) (sym columns_are)
      (0, omega arith, shown (codes "row") (λ k. k))

found_inside : (s : DesignSpace) (words : List (List ℕ)) → All (λ k. k < length s.rows) (found_in s words)
unfolding found_in
found_inside s words =
    All-filter (has_all s words) (λ k. k < length s.rows) (row_numbers s)
    (below 0 (length s.rows) (length s.rows) (omega arith))

pub line_names : (s : DesignSpace) (words : List (List ℕ)) (i : ℕ) → IsStudy s → i < length (found_in s words)
    → Name s (choices_of_line s (found_in s words) i) (slice_index (found_in s words) i)
line_names s words i study low =
    let rows = found_in s words in
    choices_name s (choices_of_line s rows i) (slice_index rows i) study (found_inside s words i 0 low)
    (line_has s rows i low) (line_numbered s rows i low)

-- neither order nor repetition matters

pub counted_once : (s : DesignSpace) (words others : List (List ℕ)) → All (Contains others) words
    → All (Contains words) others → found_in s words ≡ found_in s others
unfolding found_in has_all
counted_once s words others there back =
    filter_agree (λ k. list_all (has_choice s k) words) (λ k. list_all (has_choice s k) others)
    (λ k. all_same (has_choice s k) words others there back) (row_numbers s)
