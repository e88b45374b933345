-- The report of what was counted is that of the visits along the path.
use Rattle.std.proofs.Common.{◌≡◌, ◌∙◌, Ok, Err, Vec, ap, ap₂, refl, subst, sym, ℕ, List, [], ◌∷◌, ◌++◌}
use Rattle.std.proofs.Common.{Option, Some, map, codes}
use Rattle.std.specs.Prelude.{All, IfOk, IsPermutation, OnOk, Result}
use Rattle.std.specs.BTreeMap.{IsOrdered, keys, values}
use Rattle.std.specs.Option.{option_map_or}
use Rattle.std.specs.Ordering.{nat_cmp}
use Rattle.tomex_rvexec.specs.declared.step.Step.{Step}
use Rattle.tomex_config.specs.Configuration.{Configuration}
use Rattle.tomex_timing.specs.Search.{history, times_in}
use Rattle.tomex_timing.specs.declared.times.Times.{Times}
use Rattle.tomex_layout.specs.Csv.{record_text}
use Rattle.tomex_functions.specs.ByFunction.{InOrder}
use Rattle.tomex_functions.specs.ByPlace.{function_columns, function_fields}
use Rattle.tomex_functions.specs.Functions.{function_key}
use Rattle.tomex_functions.specs.Kept.{HasAddress, IsFunctionField, IsIndexOf, row_of_group}
use Rattle.tomex_functions.specs.declared.index.Index.{Index}
use Rattle.tomex_functions.specs.declared.rows.Row.{Row}
use Rattle.tomex_functions.proofs.Indexes.{all_addresses}
use Rattle.tomex_functions.proofs.Listings.{of_groups, rows_are}
use Rattle.tomex_path.specs.declared.link.Link.{Link}
use Rattle.tomex_path.specs.Path.{path_of}
use Rattle.tomex_path_views.specs.ByFunction.{IsPathByFunction, IsPathByPlace, IsPathLinks, report_of_sums}
use Rattle.tomex_path_views.specs.ByLink.{report_by_link}
use Rattle.tomex_path_views.specs.ByPlace.{IsPlacesWith, place_record, report_at, report_of_tally}
use Rattle.tomex_path_views.specs.Charges.{charge_columns, charge_fields, path_visits, visits_along}
use Rattle.tomex_path_views.proofs.Visits.{visits_have}
use Rattle.tomex_run_views.specs.ByPlace.{Visit, dashes, pc_of}
use Rattle.tomex_run_views.specs.Tally.{IsTally, group_of, place_fields}
use Rattle.tomex_run_views.specs.declared.tally.Group.{Group}
use Rattle.tomex_run_views.specs.declared.tally.Sum.{Sum}
use Rattle.tomex_run_views.specs.declared.tally.Tally.{Tally}
use Rattle.tomex_run_views.proofs.Reports.{are_keys, entry_is, shown_are}
use Rattle.tomex_symbols.specs.Symbols.{symbols_of}
use Rattle.tomex_symbols.specs.declared.symbol.Symbol.{Symbol}

-- a place's record is that of its visits
record_is : (own : Step → List (List ℕ)) (vs : List Visit) (place : Group) → group_of vs ≡ Some place
    → record_text (place_fields own charge_fields place) ≡ place_record own vs
record_is own [] place is = absurd (cc)
record_is own (v ∷ vs) place is =
    ap (λ (o : Option Group). option_map_or (λ p. record_text (place_fields own charge_fields p)) o []) (sym is)

module _ {A : Type 0} (names : List (List ℕ)) (own : Step → List (List ℕ)) (visits : List Visit) (tally : Tally A)
    (is : IsTally pc_of visits tally) (ordered : IsOrdered nat_cmp tally.groups) where
  report_is : report_of_tally names own tally ≡ report_at names own (keys tally.groups) visits
  report_is =
      let places = shown_are pc_of visits tally is ordered (λ place. record_text (place_fields own charge_fields place))
      (place_record own) tally.groups.entries (entry_is pc_of visits tally is ordered) (record_is own) in
      ap₂ (λ (a : List ℕ) (s : Sum). record_text (codes "pc" ∷ codes "instr" ∷ names ++ charge_columns)
      ++ (a ++ record_text (codes "total" ∷ codes "-" ∷ dashes names ++ charge_fields s))) places is.all

-- the text of what was counted by address is the report
pub places_of : {A : Type 0} (names : List (List ℕ)) (own : Step → List (List ℕ)) (config : Configuration)
    (steps : List Step) (tally : Tally A) → IsTally pc_of (path_visits config steps) tally
    → IsOrdered nat_cmp tally.groups → (text : List ℕ) → text ≡ report_of_tally names own tally
    → IsPlacesWith names own config steps text
places_of names own config steps tally is ordered text written = (
  keys tally.groups,
  are_keys pc_of (path_visits config steps) tally is ordered,
  written ∙ report_is names own (path_visits config steps) tally is ordered,
)

-- so is a text that there may be
pub places_if_made : {A B E : Type 0} (names : List (List ℕ)) (own : Step → List (List ℕ)) (config : Configuration)
    (steps : List Step) (tally : Tally A) → IsTally pc_of (path_visits config steps) tally → (r : Result (Vec ℕ B) E)
    → IfOk r (λ text. text.items ≡ report_of_tally names own tally) → OnOk r (IsOrdered nat_cmp tally.groups)
    → IfOk r (λ text. IsPlacesWith names own config steps text.items)
places_if_made names own config steps tally is (Ok text) written ordered =
    places_of names own config steps tally is ordered text.items written
places_if_made names own config steps tally is (Err e) written ordered = tt

-- each group that was counted has the address of a step
pub groups_have : {A : Type 0} (key : Step → ℕ) (steps : List Step) (path : List Link) (tally : Tally A)
    → IsTally key (visits_along steps path) tally → IsOrdered nat_cmp tally.groups
    → All (λ group. HasAddress group.first.pc steps) (values tally.groups)
groups_have key steps path tally is ordered =
    of_groups (λ s. HasAddress s.pc steps) key (visits_along steps path) tally.groups.entries
    (entry_is key (visits_along steps path) tally is ordered) (visits_have steps path)

-- the index of a run's addresses by a file's symbols
pub index_is : {A : Type 0} (symbols read : List Symbol) (steps run : List Step) (index : Index A)
    → read ≡ symbols → run ≡ steps → IsIndexOf read run index → IsIndexOf symbols steps index
index_is symbols read steps run index same_symbols same_steps is =
    subst (λ (ss : List Step). IsIndexOf symbols ss index) same_steps
    (subst (λ (ss : List Symbol). IsIndexOf ss run index) same_symbols is)

-- with the functions of a file's symbols
pub places_with : {A B C E : Type 0} (file : List ℕ) (config : Configuration) (steps : List Step) (index : Index A)
    (tally : Tally B) → IsIndexOf (symbols_of file) steps index → IsTally pc_of (path_visits config steps) tally
    → (r : Result (Vec ℕ C) E) → IfOk r (λ text. (own : Step → List (List ℕ))
    → All (λ place. IsFunctionField file index place.first (own place.first)) (values tally.groups)
    → text.items ≡ report_of_tally function_columns own tally) → OnOk r (IsOrdered nat_cmp tally.groups)
    → IfOk r (λ text. IsPathByPlace file config steps text.items)
places_with file config steps index tally indexed is (Ok text) written ordered =
    let have = groups_have pc_of steps (path_of config (history config steps)) tally is ordered in
    places_of function_columns (function_fields file (symbols_of file)) config steps tally is ordered text.items
    (written (function_fields file (symbols_of file)) (λ k d within. record {
      symbols = symbols_of file;
      steps = steps;
      index_is = indexed;
      has = have k d within;
      own_is = refl;
    }))
places_with file config steps index tally indexed is (Err e) written ordered = tt

-- the report of the rows of a file's functions
pub rows_of_file : {A : Type 0} (file : List ℕ) (config : Configuration) (steps : List Step) (tally : Tally A)
    (made sorted : List Row) (text : List ℕ) → IsTally (function_key (symbols_of file)) (path_visits config steps) tally
    → IsOrdered nat_cmp tally.groups → made ≡ map (row_of_group (symbols_of file) []) (values tally.groups)
    → IsPermutation made sorted → InOrder sorted → text ≡ report_of_sums file sorted tally.all
    → IsPathByFunction file config steps text
rows_of_file file config steps tally made sorted text is ordered are moved order written = (
  sorted,
  rows_are (symbols_of file) [] (path_visits config steps) tally made sorted is ordered are moved order,
  written ∙ ap (λ (s : Sum). report_of_sums file sorted s) is.all,
)

-- the links with the functions of a file's symbols
pub links_with : {A B E : Type 0} (file : List ℕ) (config : Configuration) (steps run : List Step)
    (index : Index A) (times : List Times) (path : List Link) → IsIndexOf (symbols_of file) run index
    → steps ≡ run → times ≡ times_in config run → path ≡ path_of config (history config run)
    → (r : Result (Vec ℕ B) E) → IfOk r (λ text. (own : Step → List (List ℕ))
    → All (λ s. IsFunctionField file index s (own s)) steps
    → text.items ≡ report_by_link function_columns own steps times path)
    → IfOk r (λ text. IsPathLinks file config run text.items)
links_with file config steps run index times path indexed same timed is (Ok text) written =
    written (function_fields file (symbols_of file)) (λ k d within. record {
      symbols = symbols_of file;
      steps = steps;
      index_is = subst (λ (ss : List Step). IsIndexOf (symbols_of file) ss index) (sym same) indexed;
      has = all_addresses steps k d within;
      own_is = refl;
    })
    ∙ rw (timed, is, same) refl
links_with file config steps run index times path indexed same timed is (Err e) written = tt
