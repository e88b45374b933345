-- A row's flag and record, and the columns of programs.
use Rattle.std.proofs.Common.{◌≡◌, ℕ, ◌+◌, ◌<◌, arith, ap, sym, refl, ◌∙◌, List, [], ◌∷◌, ◌++◌, Bool, append_assoc}
use Rattle.std.proofs.Common.{false, get_or, length, map, take}
use Rattle.std.specs.List.{range_with_len}
use Rattle.std.specs.Fmt.{decimal}
use Rattle.std.proofs.lemmas.List.FromFn.{get_or-map-range_with_len, length-map-range_with_len}
use Rattle.std.proofs.lemmas.List.{map_more}
use Rattle.tomex_config.specs.Configuration.{Configuration}
use Rattle.tomex_pareto.specs.declared.front_row.FrontRow.{FrontRow}
use Rattle.tomex_layout.specs.Csv.{record_text}
use Rattle.tomex_study.specs.Cycles.{totals_on}
use Rattle.tomex_study.specs.StudyFront.{front_of_study}
use Rattle.tomex_study.specs.Study.{DesignSpace, config_at}
use Rattle.tomex_texts.specs.RowsReport.{numbers_of_row, row_record}
use Rattle.tomex_pareto.specs.Front.{is_on}
use Rattle.tomex_pareto.specs.Hull.{hull_of}

-- the flag of a row
pub flag_there : (front : List FrontRow) (rows : ℕ) (flags : List Bool) (k : ℕ) → k < rows
    → flags ≡ map (is_on front) (range_with_len 0 rows) → get_or flags k false ≡ is_on front k
flag_there front rows flags k low are =
    ap (λ (bs : List Bool). get_or bs k false) are
    ∙ get_or-map-range_with_len (is_on front) 0 rows k k false low (let e : 0 + k ≡ k = omega arith in e)

-- each row has one
pub flag_within : (front : List FrontRow) (rows : ℕ) (flags : List Bool) (k : ℕ) → k < rows
    → flags ≡ map (is_on front) (range_with_len 0 rows) → k < length flags
flag_within front rows flags k low are =
    let many = ap length are ∙ length-map-range_with_len (is_on front) 0 rows in
    omega (arith, low, many)

-- the record of a row
pub record_there : (s : DesignSpace) (r : FrontRow) (wide : Bool) (config : Configuration) (totals : List ℕ)
    (on_front on_hull : Bool) → wide ≡ s.wide → config ≡ config_at s r.row
    → totals ≡ totals_on s.programs (config_at s r.row)
    → on_front ≡ is_on (front_of_study s) r.row → on_hull ≡ is_on (hull_of (front_of_study s)) r.row
    → record_text (map decimal (numbers_of_row wide r config totals on_front on_hull)) ≡ row_record s r
unfolding row_record
record_there s r wide config totals on_front on_hull wide_is config_is totals_are on_front_is on_hull_is =
    rw (wide_is, config_is, totals_are, on_front_is, on_hull_is) refl

-- one more program's column
pub one_column : {X Y : Type 0} (f : X → Y) (xs : List X) (i : ℕ) (x : X) (f0 f1 f2 : List Y) → i < length xs
    → x ≡ get_or xs i x → f1 ≡ f0 ++ map f (take i xs) → f2 ≡ f1 ++ f x ∷ [] → f2 ≡ f0 ++ map f (take (i + 1) xs)
one_column f xs i x f0 f1 f2 low at so_far grown =
    grown
    ∙ (ap (λ (ys : List _). ys ++ f x ∷ []) so_far
    ∙ (append_assoc f0 (map f (take i xs)) (f x ∷ [])
    ∙ ap (λ (ys : List _). f0 ++ ys) (ap (λ (y : _). map f (take i xs) ++ f y ∷ []) at ∙ sym (map_more f xs i x low))))
