-- The report of a run's path: for each part, and for each thing else that a step waits for, how many links begin no
-- earlier for it, how long their steps had waited for it, and how many cycles are theirs; then how many operations the
-- path has from start to finish, by the latency of their kind.
use Rattle.std.specs.Prelude.{ℕ, ◌*◌, ◌≡◌, List, [], ◌∷◌, ◌++◌, codes, filter}
use Rattle.std.specs.List.{flat_map}
use Rattle.std.specs.Fmt.{decimal}
use Rattle.tomex_rvdec.specs.Places.{name_of_unit}
use Rattle.tomex_rvdec.specs.declared.pool.UnitId.{UnitId}
use Rattle.tomex_rvexec.specs.declared.step.Step.{Step}
use Rattle.tomex_config.specs.Configuration.{Configuration}
use Rattle.tomex_config.specs.Cost.{all_units}
use Rattle.tomex_config.specs.Parts.{count_of}
use Rattle.tomex_timing.specs.Search.{history}
use Rattle.tomex_layout.specs.Csv.{record_text}
use Rattle.tomex_config.specs.Configuration.{latency_of}
use Rattle.tomex_path.specs.declared.link.Link.{Link}
use Rattle.tomex_path.specs.declared.reason.Reason.{Reason}
use Rattle.tomex_path.specs.declared.reason.Reason.TheVariants.{For, Branch, Operand, Address, Memory, Order}
use Rattle.tomex_path.specs.Bound.{operations}
use Rattle.tomex_path.specs.Laws.{all_reasons, is_reason}
use Rattle.tomex_path.specs.Path.{path_of}
use Rattle.tomex_path_views.specs.Shares.{share_of}
use Rattle.tomex_path_views.specs.declared.shares.Share.{Share}
use Rattle.tomex_run_views.specs.StallsReport.{name_of_part}

abbrev pub name_of_reason : Reason → List ℕ
name_of_reason (For part) = name_of_part part
name_of_reason Branch = codes "branch"
name_of_reason Operand = codes "operand"
name_of_reason Address = codes "address"
name_of_reason Memory = codes "memory"
name_of_reason Order = codes "order"

abbrev pub links_with : Reason → List Link → List Link
links_with reason path = filter (λ l. is_reason reason l.reason) path

-- how many links there are, how long their steps had waited, and how many cycles are theirs
abbrev pub fields_of_share : Share → List (List ℕ)
fields_of_share share = decimal share.links ∷ decimal share.waits ∷ decimal share.cycles ∷ []

-- how many of a part the machine has
abbrev pub count_field : Configuration → Reason → List ℕ
count_field config (For part) = decimal (count_of config part)
count_field config reason = codes "-"

abbrev pub reason_fields : Configuration → List Link → Reason → List (List ℕ)
reason_fields config path reason =
    name_of_reason reason ∷ count_field config reason ∷ fields_of_share (share_of (links_with reason path))

unfoldable pub reason_record : Configuration → List Link → Reason → List ℕ
reason_record config path reason = record_text (reason_fields config path reason)

-- a latency, how many operations of that kind the path has from start to finish, and their cycles
abbrev pub latency_fields : Configuration → List Link → UnitId → List (List ℕ)
latency_fields config path unit =
    (name_of_unit unit ++ codes "_latency") ∷ decimal (latency_of config unit) ∷ decimal (operations unit path)
    ∷ codes "-" ∷ decimal (latency_of config unit * operations unit path) ∷ []

unfoldable pub latency_record : Configuration → List Link → UnitId → List ℕ
latency_record config path unit = record_text (latency_fields config path unit)

abbrev pub header : List (List ℕ)
header = codes "part" ∷ codes "count" ∷ codes "links" ∷ codes "stalls" ∷ codes "cycles" ∷ []

-- the report of a path
abbrev pub report_by_reason : Configuration → List Link → List ℕ
report_by_reason config path =
    record_text header
    ++ (flat_map (reason_record config path) all_reasons
    ++ (record_text (codes "total" ∷ codes "-" ∷ fields_of_share (share_of path))
    ++ flat_map (latency_record config path) all_units))

-- the text is the report of a run's path on a configuration
abbrev pub IsPathReport : Configuration → List Step → List ℕ → Type 0
IsPathReport config steps text = text ≡ report_by_reason config (path_of config (history config steps))
