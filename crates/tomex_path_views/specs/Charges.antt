-- A path's cycles as its steps have them: each link's are charged to what its step had waited for last.
use Rattle.std.specs.Prelude.{ℕ, ◌+◌, ◌-◌, ◌≤◌, All, List, [], ◌∷◌, codes, Option, Some, None, slice_get}
use Rattle.std.specs.List.{flat_map}
use Rattle.std.specs.Fmt.{decimal}
use Rattle.tomex_rvexec.specs.declared.step.Step.{Step}
use Rattle.tomex_config.specs.Configuration.{Configuration}
use Rattle.tomex_config.specs.declared.part.Part.TheVariants.{Stations, Units, Buses, Width}
use Rattle.tomex_timing.specs.declared.need.Waits.{Waits}
use Rattle.tomex_timing.specs.Search.{history}
use Rattle.tomex_path.specs.declared.link.Link.{Link}
use Rattle.tomex_path.specs.declared.reason.Reason.{Reason}
use Rattle.tomex_path.specs.declared.reason.Reason.TheVariants as reasons
use Rattle.tomex_path.specs.Laws.{cycles_of}
use Rattle.tomex_path.specs.Path.{path_of}
use Rattle.tomex_run_views.specs.ByPlace.{Visit}
use Rattle.tomex_run_views.specs.declared.tally.Sum.{Sum}

abbrev pub nothing : Waits
nothing = record { branch = 0; width = 0; station = 0; operand = 0; address = 0; memory = 0; unit = 0; bus = 0 }

-- cycles by what they are charged to; those that begin in turn are charged to nothing
abbrev pub charged : ℕ → Reason → Waits
charged n (reasons.For (Stations pool)) = record nothing { station = n }
charged n (reasons.For (Units unit)) = record nothing { unit = n }
charged n (reasons.For Buses) = record nothing { bus = n }
charged n (reasons.For Width) = record nothing { width = n }
charged n reasons.Branch = record nothing { branch = n }
charged n reasons.Operand = record nothing { operand = n }
charged n reasons.Address = record nothing { address = n }
charged n reasons.Memory = record nothing { memory = n }
charged n reasons.Order = nothing

-- a link's step with the link's cycles
abbrev pub visit_of : Link → Step → Visit
visit_of l step = record { step = step; cycles = cycles_of l; waits = charged (cycles_of l) l.reason }

abbrev pub visit_at : Link → Option Step → List Visit
visit_at l None = []
visit_at l (Some step) = visit_of l step ∷ []

abbrev pub visits_along : List Step → List Link → List Visit
visits_along steps path = flat_map (λ l. visit_at l (slice_get steps (l.step - 1))) path

-- those of a run's path
abbrev pub path_visits : Configuration → List Step → List Visit
path_visits config steps = visits_along steps (path_of config (history config steps))

-- each link's step is one of this many
abbrev pub AreOfSteps : ℕ → List Link → Type 0
AreOfSteps count path = All (λ l. l.step ≤ count) path

-- the cycles that are charged to nothing
abbrev pub order_of : Sum → ℕ
order_of sum =
    let w = sum.waits in
    sum.cycles - (w.branch + w.width + w.station + w.operand + w.address + w.memory + w.unit + w.bus)

-- the names of the columns of sums
abbrev pub charge_columns : List (List ℕ)
charge_columns =
    codes "links" ∷ codes "cycles" ∷ codes "order" ∷ codes "branch" ∷ codes "width" ∷ codes "station"
    ∷ codes "operand" ∷ codes "address" ∷ codes "memory" ∷ codes "unit" ∷ codes "bus" ∷ []

-- how many links there are, how many cycles are theirs, and to what these are charged
abbrev pub charge_fields : Sum → List (List ℕ)
charge_fields sum =
    let w = sum.waits in
    decimal sum.steps ∷ decimal sum.cycles ∷ decimal (order_of sum) ∷ decimal w.branch ∷ decimal w.width
    ∷ decimal w.station ∷ decimal w.operand ∷ decimal w.address ∷ decimal w.memory ∷ decimal w.unit ∷ decimal w.bus
    ∷ []
