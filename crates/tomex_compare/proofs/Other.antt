-- What the tables of two builds depend on: the two programs, the configurations and their costs.
use Rattle.std.proofs.Common.{◌≡◌, ◌∙◌, ap, ap₂, refl, sym, arith, ℕ, suc, List, [], ◌∷◌, ◌++◌, codes, length, map}
use Rattle.std.specs.List.{flat_map}
use Rattle.tomex_config.specs.Configuration.{Configuration}
use Rattle.tomex_pareto.specs.Front.{front_of, rows_from}
use Rattle.tomex_pareto.specs.declared.front_row.FrontRow.{FrontRow}
use Rattle.tomex_study.specs.Cycles.{cycles_of, total_at}
use Rattle.tomex_study.specs.Program.{Workload}
use Rattle.tomex_study.specs.Study.{DesignSpace}
use Rattle.tomex_config.specs.Parts.{all_parts}
use Rattle.tomex_compare.specs.Compare.{tables_of}
use Rattle.tomex_compare.specs.GroupCsv.{group_csv_of}
use Rattle.tomex_compare.specs.GroupTable.{group_table_of}
use Rattle.tomex_compare.specs.Groups.{RowGroup, entry_group, front_group, group, groups_from, groups_of}
use Rattle.tomex_compare.specs.Groups.{list_groups, on_front, own_front}
use Rattle.tomex_compare.specs.Laws.{CostsMatterOnFrontsOnly, IsSameProgram, OnlyTheTwoMatter}
use Rattle.tomex_compare.specs.Laws.{OnlyTheTwoMatterInCsv}
use Rattle.tomex_compare.specs.Pairs.{pairs_of}
use Rattle.tomex_compare.specs.ProgramTable.{best_row, profile_of, program_table_of, worst_row}
use Rattle.tomex_study.proofs.Rows.{as_many_cycles}

-- rows whose cycles are replaced, whatever they were
rows_alike : (f : ℕ → ℕ → FrontRow) (n : ℕ) (cs ys zs : List ℕ) → length ys ≡ length zs
    → map (λ r. f r.row r.cost) (rows_from n cs ys) ≡ map (λ r. f r.row r.cost) (rows_from n cs zs)
rows_alike f n [] ys zs e = refl
rows_alike f n (c ∷ cs) [] [] e = refl
rows_alike f n (c ∷ cs) [] (z ∷ zs) e = absurd (omega (arith, e))
rows_alike f n (c ∷ cs) (y ∷ ys) [] e = absurd (omega (arith, e))
rows_alike f n (c ∷ cs) (y ∷ ys) (z ∷ zs) e =
    ap (λ (rs : List FrontRow). f n c ∷ rs) (rows_alike f (suc n) cs ys zs (omega (arith, e)))

-- the study with these configurations and costs
abbrev moved : DesignSpace → List Configuration → List ℕ → DesignSpace
moved t rows costs = record t { rows = rows; costs = costs }

-- a program with another one's weight and ranges
abbrev weighed : Workload → Workload → Workload
weighed p q = record p { watch = q.watch; weight = q.weight }

same_program : (p q : Workload) → IsSameProgram p q → weighed p q ≡ q
same_program p q same = rw (same.name, same.image, same.limit) refl

same_space : (s t : DesignSpace) → s.rows ≡ t.rows → s.costs ≡ t.costs → moved t s.rows s.costs ≡ t
same_space s t rows costs = rw (rows, costs) refl

own_fronts : (s t : DesignSpace) (p q : Workload) → length (cycles_of s) ≡ length (cycles_of (moved t s.rows s.costs))
    → own_front s p ≡ own_front (moved t s.rows s.costs) (weighed p q)
unfolding own_front
own_fronts s t p q many =
    ap front_of (rows_alike (λ n c. record { row = n; cost = c; cycles = total_at s p n }) 0 s.costs (cycles_of s)
    (cycles_of (moved t s.rows s.costs)) many)

-- the two tables, given the fronts
tables_with : DesignSpace → (old new : Workload) → (on_old on_new : List FrontRow) → List ℕ
tables_with s old new on_old on_new =
    let pairs = pairs_of s old new in
    program_table_of (profile_of s old) (profile_of s new)
    ++ (codes "\n" ++ group_table_of (group (codes "all") (codes "-") pairs
    ∷ ((front_group old.name (on_front on_old pairs) ∷ front_group new.name (on_front on_new pairs)
    ∷ front_group (codes "both") (on_front on_new (on_front on_old pairs)) ∷ [])
    ++ flat_map (list_groups s pairs) all_parts)))

with_fronts : (s : DesignSpace) (old new : Workload)
    → tables_of s old new ≡ tables_with s old new (own_front s old) (own_front s new)
unfolding tables_of groups_from tables_with
with_fronts s old new = refl

same_tables : (s t : DesignSpace) (old new first second : Workload) (on_old on_new : List FrontRow)
    → tables_with s old new on_old on_new
    ≡ tables_with (moved t s.rows s.costs) (weighed old first) (weighed new second) on_old on_new
unfolding tables_with pairs_of list_groups entry_group best_row worst_row
same_tables s t old new first second on_old on_new = refl

pub only_the_two_matter : OnlyTheTwoMatter
only_the_two_matter s t old new first second study other rows costs same also =
    let u = moved t s.rows s.costs in
    let many : length (cycles_of s) ≡ length (cycles_of u) = as_many_cycles s ∙ sym (as_many_cycles u) in
    let space = same_space s t rows costs in
    with_fronts s old new
    ∙ (same_tables s t old new first second (own_front s old) (own_front s new)
    ∙ (ap₂ (tables_with u (weighed old first) (weighed new second)) (own_fronts s t old first many)
    (own_fronts s t new second many)
    ∙ (sym (with_fronts u (weighed old first) (weighed new second))
    ∙ (ap₂ (tables_of u) (same_program old first same) (same_program new second also)
    ∙ ap (λ (v : DesignSpace). tables_of v first second) space))))

-- the groups by themselves
groups_with : DesignSpace → (old new : Workload) → (on_old on_new : List FrontRow) → List RowGroup
groups_with s old new on_old on_new =
    let pairs = pairs_of s old new in
    group (codes "all") (codes "-") pairs
    ∷ ((front_group old.name (on_front on_old pairs) ∷ front_group new.name (on_front on_new pairs)
    ∷ front_group (codes "both") (on_front on_new (on_front on_old pairs)) ∷ [])
    ++ flat_map (list_groups s pairs) all_parts)

by_fronts : (s : DesignSpace) (old new : Workload)
    → groups_of s old new ≡ groups_with s old new (own_front s old) (own_front s new)
unfolding groups_from groups_with
by_fronts s old new = refl

same_groups : (s t : DesignSpace) (old new first second : Workload) (on_old on_new : List FrontRow)
    → groups_with s old new on_old on_new
    ≡ groups_with (moved t s.rows s.costs) (weighed old first) (weighed new second) on_old on_new
unfolding groups_with pairs_of list_groups entry_group
same_groups s t old new first second on_old on_new = refl

pub only_the_two_matter_in_csv : OnlyTheTwoMatterInCsv
only_the_two_matter_in_csv s t old new first second study other rows costs same also =
    let u = moved t s.rows s.costs in
    let many : length (cycles_of s) ≡ length (cycles_of u) = as_many_cycles s ∙ sym (as_many_cycles u) in
    let space = same_space s t rows costs in
    ap group_csv_of (by_fronts s old new
    ∙ (same_groups s t old new first second (own_front s old) (own_front s new)
    ∙ (ap₂ (groups_with u (weighed old first) (weighed new second)) (own_fronts s t old first many)
    (own_fronts s t new second many)
    ∙ (sym (by_fronts u (weighed old first) (weighed new second))
    ∙ (ap₂ (groups_of u) (same_program old first same) (same_program new second also)
    ∙ ap (λ (v : DesignSpace). groups_of v first second) space)))))

lists_of : DesignSpace → (old new : Workload) → List RowGroup
lists_of s old new = flat_map (list_groups s (pairs_of s old new)) all_parts

moved_lists : (s t : DesignSpace) (old new : Workload)
    → lists_of s old new ≡ lists_of (record t { rows = s.rows }) old new
unfolding lists_of pairs_of list_groups entry_group
moved_lists s t old new = refl

pub costs_matter_on_fronts : CostsMatterOnFrontsOnly
unfolding lists_of
costs_matter_on_fronts s t old new rows =
    let space : record t { rows = s.rows } ≡ t = rw rows refl in
    moved_lists s t old new ∙ ap (λ (v : DesignSpace). lists_of v old new) space
