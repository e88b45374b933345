-- The weighted floors of programs, summed one after another; the least of those of all rows.
use Rattle.std.proofs.Common.{◌≡◌, ℕ, ◌+◌, ◌<◌, ◌≤◌, arith, ap, sym, refl, ◌∙◌, List, ◌∷◌, length}
use Rattle.std.proofs.Common.{drop, get_or, map, true, Option, Some, None}
use Rattle.std.specs.Prelude.{option_map, sum_by, unwrap_or}
use Rattle.std.proofs.Math.ListN.{set}
use Rattle.std.proofs.lemmas.List.{at_drop_all, at_drop_more, set-get_or}
use Rattle.std.proofs.lemmas.List.Sums.{sum_by-cons}
use Rattle.tomex_config.specs.Configuration.{Configuration}
use Rattle.tomex_study.specs.Program.{Workload}
use Rattle.tomex_study.specs.Study.{DesignSpace}
use Rattle.tomex_survey.specs.Extremes.{least, lesser}
use Rattle.tomex_survey.specs.Floors.{any_width, floor_at, study_floor, weighted_floor}
use Rattle.tomex_survey.specs.declared.floors.WeightedFloors.{WeightedFloors}
use Rattle.tomex_survey.proofs.Leasts.{last_least, least_by, least_of_all}

-- sums

pub sum_more : {X : Type 0} (f : X → ℕ) (xs : List X) (k so_far next whole : ℕ) (x : X) → k < length xs
    → x ≡ get_or xs k x → next ≡ so_far + f x → so_far + sum_by f (drop k xs) ≡ whole
    → next + sum_by f (drop (k + 1) xs) ≡ whole
sum_more f xs k so_far next whole x low at is before =
    let e : sum_by f (drop k xs) ≡ f x + sum_by f (drop (k + 1) xs) =
    at_drop_more (sum_by f) xs k x low
    ∙ (ap (λ (y : _). sum_by f (y ∷ drop (k + 1) xs)) (sym at) ∙ sum_by-cons f x (drop (k + 1) xs)) in
    omega (arith, e, is, before)

pub no_sum : (programs : List Workload) (width : ℕ) (c : Configuration) (so_far : ℕ) → so_far ≡ 0
    → so_far + sum_by (weighted_floor width c) (drop 0 programs) ≡ floor_at programs width c
unfolding floor_at
no_sum programs width c so_far none = omega (arith, none)

pub sum_all : {X : Type 0} (f : X → ℕ) (xs : List X) (k so_far whole : ℕ) → length xs ≤ k
    → so_far + sum_by f (drop k xs) ≡ whole → so_far ≡ whole
sum_all f xs k so_far whole past before =
    let e : sum_by f (drop k xs) ≡ 0 = at_drop_all (sum_by f) xs k past in
    omega (arith, e, before)

-- an item that is replaced by itself
pub same_again : {X : Type 0} (xs all : List X) (k : ℕ) (x y : X) → x ≡ get_or xs k x → y ≡ x → all ≡ set xs k y
    → all ≡ xs
same_again xs all k x y at same is =
    is ∙ (ap (set xs k) (same ∙ at) ∙ set-get_or xs k x)

-- the least of all rows

pub least_more : {X : Type 0} (f : X → ℕ) (o next : Option ℕ) (xs : List X) (k : ℕ) (x : X) (whole : Option ℕ)
    → k < length xs → x ≡ get_or xs k x → next ≡ Some (lesser (f x) o)
    → least_by (λ y. true) f o (drop k xs) ≡ whole → least_by (λ y. true) f next (drop (k + 1) xs) ≡ whole
least_more f o next xs k x whole low at is before =
    ap (λ (n : Option ℕ). least_by (λ y. true) f n (drop (k + 1) xs)) is
    ∙ (sym (at_drop_more (least_by (λ y. true) f o) xs k x low
    ∙ ap (λ (y : _). least_by (λ z. true) f o (y ∷ drop (k + 1) xs)) (sym at))
    ∙ before)

abbrev none : WeightedFloors
none = record { own = 0; any_width = 0 }

pub own_of : (o : Option WeightedFloors) → (unwrap_or o none).own ≡ unwrap_or (option_map (λ f. f.own) o) 0
own_of None = refl
own_of (Some f) = refl

pub any_width_of : (o : Option WeightedFloors)
    → (unwrap_or o none).any_width ≡ unwrap_or (option_map (λ f. f.any_width) o) 0
any_width_of None = refl
any_width_of (Some f) = refl

pub least_own : (s : DesignSpace) (rows : List Configuration) (k : ℕ) (o : Option WeightedFloors) → rows ≡ s.rows
    → length rows ≤ k
    → least_by (λ c. true) (λ c. floor_at s.programs c.width c) (option_map (λ f. f.own) o) (drop k rows)
    ≡ least_by (λ c. true) (λ c. floor_at s.programs c.width c) None rows
    → unwrap_or (option_map (λ f. f.own) o) 0 ≡ study_floor s
unfolding study_floor
least_own s rows k o same past is =
    ap (λ (n : Option ℕ). unwrap_or n 0)
    (last_least (λ c. true) (λ c. floor_at s.programs c.width c) (option_map (λ f. f.own) o) rows k past
    ∙ (is ∙ (least_of_all (λ (c : Configuration). floor_at s.programs c.width c) rows
    ∙ ap (λ (cs : List Configuration). least (map (λ c. floor_at s.programs c.width c) cs)) same)))

pub least_any_width : (s : DesignSpace) (rows : List Configuration) (k : ℕ) (o : Option WeightedFloors) → rows ≡ s.rows
    → length rows ≤ k
    → least_by (λ c. true) (floor_at s.programs 4) (option_map (λ f. f.any_width) o) (drop k rows)
    ≡ least_by (λ c. true) (floor_at s.programs 4) None rows
    → unwrap_or (option_map (λ f. f.any_width) o) 0 ≡ any_width s
unfolding any_width
least_any_width s rows k o same past is =
    ap (λ (n : Option ℕ). unwrap_or n 0)
    (last_least (λ c. true) (floor_at s.programs 4) (option_map (λ f. f.any_width) o) rows k past
    ∙ (is ∙ (least_of_all (floor_at s.programs 4) rows
    ∙ ap (λ (cs : List Configuration). least (map (floor_at s.programs 4) cs)) same)))
