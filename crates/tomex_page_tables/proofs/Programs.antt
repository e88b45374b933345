-- The programs whose own cycles are shown, and their totals.
use Rattle.std.proofs.Common.{◌≡◌, ◌∙◌, ap, cond, sym, ℕ, ◌<◌, ◌≤◌, Bool, List, [], ◌∷◌, ◌++◌, length, map, refl}
use Rattle.std.proofs.lemmas.Bool.{le-ltb, lt-ltb}
use Rattle.tomex_study.specs.Cycles.{cycles_of_run, total_at, totals_of, totals_on}
use Rattle.tomex_study.specs.Program.{Workload}
use Rattle.tomex_study.specs.Study.{DesignSpace}
use Rattle.tomex_study.proofs.Rows.{totals_there}
use Rattle.tomex_study.specs.Study.{config_at}
use Rattle.std.proofs.Common.{get_or}
use Rattle.std.specs.List.{flat_map}
use Rattle.tomex_pareto.specs.declared.front_row.FrontRow.{FrontRow}
use Rattle.tomex_page_tables.specs.Front.{own_programs, total_cell}
use Rattle.tomex_html.specs.Tables.{number_cell}
use Rattle.tomex_page_tables.specs.Shown.{row_of}

own_of_several : (s : DesignSpace) → 1 < length s.programs → s.programs ≡ own_programs s
unfolding own_programs
own_of_several s several =
    ap (λ (t : Bool). cond t s.programs []) (sym (lt-ltb 1 (length s.programs) several))

own_of_one : (s : DesignSpace) → length s.programs ≤ 1 → [] ≡ own_programs s
unfolding own_programs
own_of_one s one = ap (λ (t : Bool). cond t s.programs []) (sym (le-ltb 1 (length s.programs) one))

abbrev pub totals_at : DesignSpace → ℕ → List Workload → List ℕ
totals_at s row programs = map (λ p. total_at s p row) programs

-- of several programs each has a total
pub several_totals : (s : DesignSpace) (given : List ℕ) (programs : List Workload) (row : ℕ)
    → programs ≡ s.programs → 1 < length programs → row < length s.rows
    → given ≡ get_or (totals_of s) row [] → given ≡ totals_at s row (own_programs s)
unfolding totals_on
several_totals s given programs row are several within given_is =
    given_is ∙ (totals_there s row within
    ∙ ap (totals_at s row) (own_of_several s (rw are at several)))

-- a single program has no total
pub no_totals : (s : DesignSpace) (programs : List Workload) (row : ℕ) → programs ≡ s.programs → length programs ≤ 1
    → [] ≡ totals_at s row (own_programs s)
no_totals s programs row are one = ap (totals_at s row) (own_of_one s (rw are at one))

-- the cells of totals are those of programs
pub cells_of_totals : (s : DesignSpace) (r : FrontRow) (programs : List Workload)
    → flat_map number_cell (totals_at s r.row programs) ≡ flat_map (total_cell (row_of s r)) programs
unfolding total_cell
cells_of_totals s r [] = refl
cells_of_totals s r (p ∷ programs) =
    ap (λ (z : List ℕ). number_cell (cycles_of_run (config_at s r.row) p) ++ z) (cells_of_totals s r programs)
