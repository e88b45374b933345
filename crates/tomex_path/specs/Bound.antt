-- What a path bounds: the cycles that another machine saves, whatever parts it has. Operands, branches, addresses and
-- accesses are waited for on every machine; what may be saved of the rest is counted along the path.
use Rattle.std.specs.Prelude.{ℕ, ◌+◌, ◌*◌, ◌<◌, ◌≤◌, ◌≡◌, ◌==◌, nat_lt, Bool, true, false, if◌then◌else◌}
use Rattle.std.specs.Prelude.{All, List, map, Option, Some, None, count_by, sum_by}
use Rattle.std.specs.List.{list_all}
use Rattle.tomex_rvdec.specs.declared.pool.UnitId.{UnitId}
use Rattle.tomex_rvexec.specs.declared.step.Step.{Step}
use Rattle.tomex_config.specs.Configuration.{Configuration, IsWithinLimits, stations_of, with_option}
use Rattle.tomex_config.specs.Cost.{all_units}
use Rattle.tomex_config.specs.declared.config.UnitOption.{UnitOption}
use Rattle.tomex_config.specs.declared.part.Part.TheVariants.{Stations, Units, Buses, Width}
use Rattle.tomex_timing.specs.declared.times.Done.{Done}
use Rattle.tomex_timing.specs.History.{greatest_end, is_of}
use Rattle.tomex_timing.specs.Recurrence.{AreTimed}
use Rattle.tomex_timing.specs.Search.{history, times_in, total_of}
use Rattle.tomex_floor.specs.Floor.{floor_of}
use Rattle.tomex_config.specs.Configuration.{latency_of}
use Rattle.tomex_path.specs.declared.link.Link.{Link}
use Rattle.tomex_path.specs.declared.reason.Reason.{Reason}
use Rattle.tomex_path.specs.declared.reason.Reason.TheVariants.{For}
use Rattle.tomex_path.specs.Laws.{cycles_of, is_for, is_free}
use Rattle.tomex_path.specs.Path.{path_of}

-- A machine can't shorten this wait by its parts: it is for none of them, or for the only station of its pool. One for
-- the width it may shorten, but only by a cycle.
abbrev pub keeps : Configuration → Reason → Bool
keeps machine (For (Stations pool)) = stations_of machine pool == 1
keeps machine (For (Units unit)) = false
keeps machine (For Buses) = false
keeps machine reason = true

-- a path binds a machine that keeps all its waits
abbrev pub binds : Configuration → List Link → Bool
binds machine path = list_all (λ l. keeps machine l.reason) path

-- the operations of a kind on a path
abbrev pub operations : UnitId → List Link → ℕ
operations unit path = count_by (λ l. is_of unit l.operation) path

-- the cycles of a path's operations, by a machine's latencies
abbrev pub operating : Configuration → List Link → ℕ
operating machine path = sum_by (λ unit. latency_of machine unit * operations unit path) all_units

-- the links that wait for the width
abbrev pub width_links : List Link → ℕ
width_links path = count_by (λ l. is_for l.reason Width) path

-- the most that the width of another machine saves: a cycle for each link that waits for it, if it is greater
abbrev pub saved_by_width : Configuration → Configuration → List Link → ℕ
saved_by_width config other path = if nat_lt config.width other.width then width_links path else 0

-- If a run's path binds another machine, that saves no more cycles than its latencies do for the operations on the
-- path, and its width. Its other parts save nothing.
abbrev pub PathIsBound : Type 0
PathIsBound = (config other : Configuration) (h g : List Done) → IsWithinLimits config
    → AreTimed config h → AreTimed other g → map (λ d. d.step) h ≡ map (λ d. d.step) g
    → binds other (path_of config h) ≡ true
    → greatest_end h + operating other (path_of config h)
    ≤ greatest_end g + operating config (path_of config h) + saved_by_width config other (path_of config h)

-- So it takes no fewer cycles if it is no wider, and no faster in a kind of operation that is on the path.
abbrev pub BoundPathIsLeast : Type 0
BoundPathIsLeast = (config other : Configuration) (h g : List Done) → IsWithinLimits config
    → AreTimed config h → AreTimed other g → map (λ d. d.step) h ≡ map (λ d. d.step) g
    → binds other (path_of config h) ≡ true → other.width ≤ config.width
    → ((unit : UnitId) → 0 < operations unit (path_of config h) → latency_of config unit ≤ latency_of other unit)
    → greatest_end h ≤ greatest_end g

-- If a path binds its own machine, other units of a kind that has no operation on it save nothing.
abbrev pub UnusedUnitsSaveNothing : Type 0
UnusedUnitsSaveNothing = (config : Configuration) (unit : UnitId) (option : UnitOption) (h g : List Done)
    → IsWithinLimits config → AreTimed config h → AreTimed (with_option unit config option) g
    → map (λ d. d.step) h ≡ map (λ d. d.step) g
    → binds config (path_of config h) ≡ true → operations unit (path_of config h) ≡ 0
    → greatest_end h ≤ greatest_end g

-- If a path waits for no station, unit or bus, and not for the width, the run takes the floor of each greater width
-- too.
abbrev pub FreePathIsWiderFloor : Type 0
FreePathIsWiderFloor = (config : Configuration) (w : ℕ) (steps : List Step) → IsWithinLimits config → config.width ≤ w
    → is_free (path_of config (history config steps)) ≡ true
    → width_links (path_of config (history config steps)) ≡ 0
    → total_of (times_in config steps) ≡ floor_of (latency_of config) w steps

-- the latency of an operation, if there is one
abbrev pub latency_on : Configuration → Option UnitId → ℕ
latency_on machine None = 0
latency_on machine (Some unit) = latency_of machine unit

-- each link has a cycle, and besides its operation at most those of an issue, an address and an end
abbrev pub LinksAreShort : Type 0
LinksAreShort = (config : Configuration) (h : List Done) → IsWithinLimits config → AreTimed config h
    → All (λ l. (0 < cycles_of l) × (cycles_of l ≤ latency_on config l.operation + 3)) (path_of config h)
