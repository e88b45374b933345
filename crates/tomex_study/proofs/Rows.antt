-- A study's rows, with their totals, costs and cycles: how many, and which.
use Rattle.std.proofs.Common.{◌≡◌, ◌∙◌, ap, ap₂, arith, refl, subst, sym, ℕ, zero, suc, ◌+◌, ◌<◌, List, [], ◌∷◌}
use Rattle.std.proofs.Common.{length, map, get_or, take, Some, None, slice_get, All}
use Rattle.std.proofs.lemmas.List.{get_or-map, length-map}
use Rattle.std.proofs.lemmas.List.Elements.{All-cons, All-nil}
use Rattle.std.proofs.lemmas.Option.{get_or_from_slice_get, slice_get-get_or, slice_get_within}
use Rattle.tomex_config.specs.Configuration.{Configuration, plain}
use Rattle.tomex_pareto.specs.Front.{rows_from}
use Rattle.tomex_pareto.specs.declared.front_row.FrontRow.{FrontRow}
use Rattle.tomex_timing.specs.Run.{total}
use Rattle.tomex_study.specs.Cycles.{cycles_of, cycles_on, total_at, totals_of, totals_on}
use Rattle.tomex_study.specs.Program.{Workload}
use Rattle.tomex_study.specs.Study.{DesignSpace, IsStudy, config_at}
use Rattle.tomex_study.specs.StudyFront.{all_rows, row_at}
use Rattle.tomex_study.specs.Surveyed.{AreTotalsOf}

-- there are as many as costs
pub as_many_rows : (s : DesignSpace) → IsStudy s → length s.costs ≡ length s.rows
as_many_rows s is = ap length is.costs ∙ length-map _ _

-- as cycles
pub as_many_cycles : (s : DesignSpace) → length (cycles_of s) ≡ length s.rows
unfolding cycles_of
as_many_cycles s = length-map _ _

-- as lists of totals
pub as_many_totals : (s : DesignSpace) → length (totals_of s) ≡ length s.rows
unfolding totals_of
as_many_totals s = length-map _ _

pub long_rows : (n : ℕ) (costs cycles : List ℕ) → length costs ≡ length cycles
    → length (rows_from n costs cycles) ≡ length costs
long_rows n [] cycles same = refl
long_rows n (c ∷ cs) [] same = absurd (omega arith)
long_rows n (c ∷ cs) (y ∷ ys) same = ap suc (long_rows (suc n) cs ys (omega arith))

-- and as rows with their costs and cycles
pub rows_long : (s : DesignSpace) → IsStudy s → length (all_rows s) ≡ length s.rows
rows_long s is =
    long_rows 0 s.costs (cycles_of s) (as_many_rows s is ∙ sym (as_many_cycles s)) ∙ as_many_rows s is

map_at : (f : Configuration → ℕ) (rows : List Configuration) (k : ℕ) (config : Configuration)
    → slice_get rows k ≡ Some config → get_or (map f rows) k 0 ≡ f config
map_at f [] k config e = absurd (let g : None ≡ Some config = e in cc)
map_at f (r ∷ rs) zero config e = let g : r ≡ config = cc in ap f g
map_at f (r ∷ rs) (suc k) config e = map_at f rs k config e

pub cycles_at : (s : DesignSpace) (k : ℕ) (config : Configuration) → slice_get s.rows k ≡ Some config
    → get_or (cycles_of s) k 0 ≡ cycles_on s.programs config
unfolding cycles_of
cycles_at s k config at = map_at (cycles_on s.programs) s.rows k config at

-- each row has its number, its cost and its cycles

row_from : (n k : ℕ) (cs ys : List ℕ) (d : FrontRow) → k < length cs → k < length ys
    → get_or (rows_from n cs ys) k d ≡ record { row = n + k; cost = get_or cs k 0; cycles = get_or ys k 0 }
row_from n k [] ys d few same = absurd (omega (arith, few))
row_from n k (c ∷ cs) [] d few same = absurd (omega (arith, same))
row_from n zero (c ∷ cs) (y ∷ ys) d few same =
    let e : n ≡ n + 0 = omega arith in
    ap (λ (m : ℕ). record { row = m; cost = c; cycles = y }) e
row_from n (suc k) (c ∷ cs) (y ∷ ys) d few same =
    let e : suc n + k ≡ n + suc k = omega arith in
    row_from (suc n) k cs ys d (omega (arith, few)) (omega (arith, same))
    ∙ ap (λ (m : ℕ). record { row = m; cost = get_or cs k 0; cycles = get_or ys k 0 }) e

pub row_there : (s : DesignSpace) (n : ℕ) (d : FrontRow) → IsStudy s → n < length s.rows
    → get_or (all_rows s) n d ≡ row_at s n
row_there s n d is within =
    let many = as_many_cycles s in
    let same = as_many_rows s is in
    let number : 0 + n ≡ n = omega arith in
    row_from 0 n s.costs (cycles_of s) d (omega (arith, within, same)) (omega (arith, within, many))
    ∙ ap₂ (λ (m y : ℕ). record { row = m; cost = get_or s.costs n 0; cycles = y }) number
    (cycles_at s n (get_or s.rows n plain) (slice_get-get_or s.rows n plain within))

within_from : (n : ℕ) (cs ys : List ℕ) → All (λ (r : FrontRow). r.row < n + length cs) (rows_from n cs ys)
within_from n [] ys = All-nil _
within_from n (c ∷ cs) [] = All-nil _
within_from n (c ∷ cs) (y ∷ ys) =
    let more : suc n + length cs ≡ n + suc (length cs) = omega arith in
    All-cons (λ (r : FrontRow). r.row < n + suc (length cs)) _ _ (omega arith)
    (subst (λ (m : ℕ). All (λ (r : FrontRow). r.row < m) (rows_from (suc n) cs ys)) more (within_from (suc n) cs ys))

-- all rows are rows of the study
pub rows_within : (s : DesignSpace) → IsStudy s → All (λ r. r.row < length s.rows) (all_rows s)
rows_within s is =
    let many = as_many_rows s is in
    let same : 0 + length s.costs ≡ length s.rows = omega (arith, many) in
    subst (λ (m : ℕ). All (λ (r : FrontRow). r.row < m) (rows_from 0 s.costs (cycles_of s))) same
    (within_from 0 s.costs (cycles_of s))

-- the totals of a row are those of its configuration
pub totals_there : (s : DesignSpace) (row : ℕ) → row < length s.rows
    → get_or (totals_of s) row [] ≡ totals_on s.programs (config_at s row)
unfolding totals_of
totals_there s row within = get_or-map (totals_on s.programs) s.rows row plain [] within

-- one for each program
pub as_many_programs : (s : DesignSpace) (row : ℕ) → row < length s.rows
    → length (get_or (totals_of s) row []) ≡ length s.programs
unfolding totals_on
as_many_programs s row within = ap length (totals_there s row within) ∙ length-map s.programs _

pub total_there : (s : DesignSpace) (row place : ℕ) (p : Workload) → row < length s.rows
    → slice_get s.programs place ≡ Some p → get_or (get_or (totals_of s) row []) place 0 ≡ total_at s p row
unfolding totals_on
total_there s row place p within there =
    ap (λ (t : List ℕ). get_or t place 0) (totals_there s row within)
    ∙ (get_or-map (λ (q : Workload). total (config_at s row) q.image) s.programs place p 0
    (slice_get_within s.programs place p there)
    ∙ ap (λ (q : Workload). total (config_at s row) q.image) (get_or_from_slice_get s.programs place p p there))

-- lists that begin with the totals
pub totals_long : (s : DesignSpace) (totals : List (List ℕ)) → AreTotalsOf s totals → length totals ≡ length s.rows
totals_long s totals are = sym (length-map _ _) ∙ (ap length are ∙ as_many_totals s)

pub totals_taken : (s : DesignSpace) (totals : List (List ℕ)) (row : ℕ) {given : List ℕ} → AreTotalsOf s totals
    → row < length s.rows → given ≡ get_or totals row given
    → take (length s.programs) given ≡ get_or (totals_of s) row []
totals_taken s totals row {given} are within is =
    let long = totals_long s totals are in
    ap (take (length s.programs)) is
    ∙ (sym (get_or-map (take (length s.programs)) totals row given [] (omega (arith, within, long)))
    ∙ ap (λ (ts : List (List ℕ)). get_or ts row []) are)
