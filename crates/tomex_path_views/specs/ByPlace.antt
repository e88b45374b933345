-- A run's path by place in the program: a record for each address that has a link, in ascending order. A report may
-- have more columns that say something of a place, such as its function.
use Rattle.std.specs.Prelude.{◌≡◌, ℕ, List, [], ◌∷◌, ◌++◌, codes}
use Rattle.std.specs.BTreeMap.{values}
use Rattle.std.specs.List.{flat_map}
use Rattle.tomex_rvdec.specs.Text.{hex8, instr_text}
use Rattle.tomex_rvexec.specs.declared.step.Step.{Step}
use Rattle.tomex_config.specs.Configuration.{Configuration}
use Rattle.tomex_layout.specs.Csv.{record_text}
use Rattle.tomex_path_views.specs.Charges.{charge_columns, charge_fields, path_visits}
use Rattle.tomex_run_views.specs.ByPlace.{ArePlaces, Visit, dashes, visits_at}
use Rattle.tomex_run_views.specs.Tally.{place_fields, sum_of}
use Rattle.tomex_run_views.specs.declared.tally.Tally.{Tally}

-- the record of the links at one address, which all have one instruction
abbrev pub place_record : (Step → List (List ℕ)) → List Visit → List ℕ
place_record own [] = []
place_record own (v ∷ visits) =
    record_text (hex8 v.step.pc ∷ instr_text v.step.instr ∷ own v.step ++ charge_fields (sum_of (v ∷ visits)))

-- with more columns of these names
abbrev pub report_at : List (List ℕ) → (Step → List (List ℕ)) → List ℕ → List Visit → List ℕ
report_at names own pcs visits =
    record_text (codes "pc" ∷ codes "instr" ∷ names ++ charge_columns)
    ++ (flat_map (λ pc. place_record own (visits_at pc visits)) pcs
    ++ record_text (codes "total" ∷ codes "-" ∷ dashes names ++ charge_fields (sum_of visits)))

-- the text is the report of a run's path on a configuration, with more columns
abbrev pub IsPlacesWith : List (List ℕ) → (Step → List (List ℕ)) → Configuration → List Step → List ℕ → Type 0
IsPlacesWith names own config steps text =
    let visits = path_visits config steps in
    (pcs : List ℕ) × ArePlaces visits pcs × (text ≡ report_at names own pcs visits)

-- and with none
abbrev pub IsPathByPlace : Configuration → List Step → List ℕ → Type 0
IsPathByPlace config steps text = IsPlacesWith [] (λ step. []) config steps text

-- the report of what was counted by address
abbrev pub report_of_tally : {A : Type 0} → List (List ℕ) → (Step → List (List ℕ)) → Tally A → List ℕ
report_of_tally names own tally =
    record_text (codes "pc" ∷ codes "instr" ∷ names ++ charge_columns)
    ++ (flat_map (λ place. record_text (place_fields own charge_fields place)) (values tally.groups)
    ++ record_text (codes "total" ∷ codes "-" ∷ dashes names ++ charge_fields tally.all))
