-- What was counted by function is what the functions' rows have.
use Rattle.std.proofs.Common.{◌≡◌, ◌∙◌, append_assoc, ap, sym, subst, ℕ, List, [], ◌∷◌, ◌++◌, Option, Some}
use Rattle.std.proofs.Common.{None, map, ◌==◌}
use Rattle.std.specs.Prelude.{All, IsPermutation}
use Rattle.std.specs.BTreeMap.{IsOrdered, keys, values}
use Rattle.std.specs.Map.{values_of}
use Rattle.std.specs.Option.{option_map_or}
use Rattle.std.specs.Ordering.{nat_cmp}
use Rattle.std.proofs.lemmas.Simd.{map-map}
use Rattle.std.proofs.lemmas.List.Concat.{flat_map_single}
use Rattle.std.proofs.lemmas.List.Elements.{All-cons, All-filter, All-head, All-nil, All-tail}
use Rattle.tomex_rvexec.specs.declared.step.Step.{Step}
use Rattle.tomex_timing.specs.declared.need.Waits.{Waits}
use Rattle.tomex_timing.specs.declared.times.Times.{Times}
use Rattle.tomex_config.specs.Configuration.{Configuration}
use Rattle.tomex_timing.specs.Needs.{waits_in}
use Rattle.tomex_timing.specs.Search.{times_in}
use Rattle.tomex_symbols.specs.declared.symbol.Symbol.{Symbol}
use Rattle.tomex_run_views.specs.ByPlace.{Visit, visits_after, visits_in, visits_of}
use Rattle.tomex_run_views.specs.Tally.{IsTally, group_of}
use Rattle.tomex_run_views.specs.declared.tally.Group.{Group}
use Rattle.tomex_run_views.specs.declared.tally.Tally.{Tally}
use Rattle.tomex_run_views.proofs.Reports.{are_keys, entry_is, shown_are}
use Rattle.tomex_functions.specs.ByFunction.{AreRows, InOrder, rows_at, rows_of_visits}
use Rattle.tomex_functions.specs.Functions.{function_key, function_of, key_of}
use Rattle.tomex_functions.specs.Kept.{HasAddress, row_of_group}
use Rattle.tomex_functions.specs.declared.rows.Row.{Row}
use Rattle.tomex_functions.proofs.Indexes.{all_addresses}

-- what holds of the steps holds of visits
of_visits : (P : Step → Type 0) (issue : ℕ) (ss : List Step) (ts : List Times) (ws : List Waits) → All P ss
    → All (λ v. P v.step) (visits_after issue ss ts ws)
of_visits P issue [] ts ws all = All-nil (λ (v : Visit). P v.step)
of_visits P issue (s ∷ ss) [] ws all = All-nil (λ (v : Visit). P v.step)
of_visits P issue (s ∷ ss) (t ∷ ts) [] all = All-nil (λ (v : Visit). P v.step)
of_visits P issue (s ∷ ss) (t ∷ ts) (w ∷ ws) all =
    All-cons (λ (v : Visit). P v.step) _ (visits_after t.issue ss ts ws) (All-head P s ss all)
    (of_visits P t.issue ss ts ws (All-tail P s ss all))

-- and of the first step of a group
of_group : (P : Step → Type 0) (vs : List Visit) (group : Group) → group_of vs ≡ Some group
    → All (λ v. P v.step) vs → P group.first
of_group P [] group is all = absurd (cc)
of_group P (v ∷ vs) group is all =
    let same : v.step ≡ group.first = ap (λ (o : Option Group). first_or v.step o) is in
    subst P same (All-head (λ (v : Visit). P v.step) v vs all)
  where
    first_or : Step → Option Group → Step
    first_or s None = s
    first_or s (Some group) = group.first

pub of_groups : (P : Step → Type 0) (key : Step → ℕ) (visits : List Visit) (es : List (ℕ × Group))
    → All (λ e. group_of (visits_of key e.0 visits) ≡ Some e.1) es → All (λ v. P v.step) visits
    → All (λ group. P group.first) (values_of es)
of_groups P key visits [] kept all = All-nil (λ (group : Group). P group.first)
of_groups P key visits (e ∷ es) kept all =
    All-cons (λ (group : Group). P group.first) e.1 (values_of es)
    (of_group P (visits_of key e.0 visits) e.1
    (All-head (λ e. group_of (visits_of key e.0 visits) ≡ Some e.1) e es kept)
    (All-filter (λ (v : Visit). key v.step == e.0) (λ v. P v.step) visits all))
    (of_groups P key visits es (All-tail (λ e. group_of (visits_of key e.0 visits) ≡ Some e.1) e es kept) all)

-- so each group has the address of a step
pub addresses_are : {A : Type 0} (key : Step → ℕ) (config : Configuration) (steps : List Step) (tally : Tally A)
    → IsTally key (visits_in config steps) tally → IsOrdered nat_cmp tally.groups
    → All (λ group. HasAddress group.first.pc steps) (values tally.groups)
addresses_are key config steps tally is ordered =
    of_groups (λ s. HasAddress s.pc steps) key (visits_in config steps) tally.groups.entries
    (entry_is key (visits_in config steps) tally is ordered)
    (of_visits (λ s. HasAddress s.pc steps) 0 steps (times_in config steps) (waits_in config steps)
    (all_addresses steps))

row_is : (symbols : List Symbol) (calls : List Step) (vs : List Visit) (group : Group) → group_of vs ≡ Some group
    → row_of_group symbols calls group ∷ [] ≡ rows_of_visits symbols calls vs
row_is symbols calls [] group is = absurd (cc)
row_is symbols calls (v ∷ vs) group is =
    ap (λ (o : Option Group). option_map_or (λ g. row_of_group symbols calls g ∷ []) o []) (sym is)

-- the rows that were counted, in the order of the report
pub rows_are : {A : Type 0} (symbols : List Symbol) (calls : List Step) (visits : List Visit) (tally : Tally A)
    (made sorted : List Row) → IsTally (function_key symbols) visits tally → IsOrdered nat_cmp tally.groups
    → made ≡ map (row_of_group symbols calls) (values tally.groups) → IsPermutation made sorted → InOrder sorted
    → AreRows symbols calls visits sorted
rows_are symbols calls visits tally made sorted is ordered are moved order =
    let rows : made ≡ rows_at symbols calls visits (keys tally.groups) =
    are ∙ (sym (flat_map_single (row_of_group symbols calls) (values tally.groups))
    ∙ shown_are (function_key symbols) visits tally is ordered (λ group. row_of_group symbols calls group ∷ [])
    (rows_of_visits symbols calls) tally.groups.entries
    (entry_is (function_key symbols) visits tally is ordered) (row_is symbols calls)) in (
      keys tally.groups,
      are_keys (function_key symbols) visits tally is ordered,
      subst (λ (rs : List Row). IsPermutation rs sorted) rows moved,
      order,
    )

-- of the groups to come, one row more
pub rows_next : (f : Group → Row) (P : Group → Type 0) {x : Group} {left rest : List Group} (old : List Row)
    {new whole : List Row} {row : Row} → left ≡ x ∷ rest → All P left → old ++ map f left ≡ whole → row ≡ f x
    → new ≡ old ++ row ∷ [] → All P rest × (new ++ map f rest ≡ whole)
rows_next f P {x = x} {left = left} {rest = rest} old {row = row} is all so_far own grown = (
  All-tail P x rest (subst (λ (xs : List Group). All P xs) is all),
  ap (λ (rs : List Row). rs ++ map f rest) grown
      ∙ (append_assoc old (row ∷ []) (map f rest)
      ∙ (ap (λ (r : Row). old ++ r ∷ map f rest) own
      ∙ (ap (λ (xs : List Group). old ++ map f xs) (sym is) ∙ so_far))),
)

-- the keys of a run's functions
pub keys_are : (symbols : List Symbol) (steps : List Step) (functions held : List (Option Symbol)) (keys : List ℕ)
    → functions ≡ map (function_of symbols) steps → held ≡ functions → keys ≡ map key_of held
    → keys ≡ map (function_key symbols) steps
keys_are symbols steps functions held keys are is those =
    those ∙ (ap (map key_of) (is ∙ are) ∙ map-map key_of (function_of symbols) steps)
