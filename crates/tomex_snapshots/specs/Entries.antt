-- The steps of a run, in program order, each with its number, its times and its waits.
use Rattle.std.specs.Prelude.{ℕ, ◌+◌, nat_le, Bool, ◌&&◌, List, [], ◌∷◌, ◌++◌, map, reverse, is_some, Option}
use Rattle.std.specs.Prelude.{Some, None}
use Rattle.std.specs.Fmt.{decimal}
use Rattle.tomex_rvdec.specs.Places.{name_of_pool}
use Rattle.tomex_rvexec.specs.Steps.{step_unit}
use Rattle.tomex_rvexec.specs.declared.step.Step.{Step}
use Rattle.tomex_config.specs.Configuration.{Configuration}
use Rattle.tomex_timing.specs.Needs.{waits_in}
use Rattle.tomex_timing.specs.Search.{times_in}
use Rattle.tomex_timing.specs.Tables.{tag_of}
use Rattle.tomex_timing.specs.declared.need.Waits.{Waits}
use Rattle.tomex_timing.specs.declared.tables.Tag.{Tag}
use Rattle.tomex_timing.specs.declared.times.Done.{Done}
use Rattle.tomex_timing.specs.declared.times.Times.{Times}
use Rattle.tomex_snapshots.specs.declared.entries.Entry.{Entry}
use Rattle.tomex_snapshots.specs.declared.entries.Span.{Span}

-- the steps from a number on; `from` is the first cycle in which the next of them waits to issue or issues
abbrev pub entries_from : ℕ → ℕ → List Step → List Times → List Waits → List Entry
entries_from number from (step ∷ steps) (at ∷ times) (waits ∷ all_waits) =
    record { number = number; from = from; step = step; at = at; waits = waits }
    ∷ entries_from (number + 1) at.issue steps times all_waits
entries_from number from _ _ _ = []

-- the steps of a run: they are numbered from 1, and the first waits from cycle 1 on
abbrev pub entries_of : Configuration → List Step → List Entry
entries_of config steps = entries_from 1 1 steps (times_in config steps) (waits_in config steps)

abbrev pub done_of : Entry → Done
done_of e = record { step = e.step; at = e.at }

-- the entries as a history, the youngest first
abbrev pub history_of : List Entry → List Done
history_of es = reverse (map done_of es)

-- the step's station, if it has one
abbrev pub station_of : Entry → Option Tag
station_of e = tag_of (done_of e)

-- FENCE, ECALL and EBREAK use no unit
abbrev pub has_unit : Entry → Bool
has_unit e = is_some (step_unit e.step)

-- a station by its pool and number, as `alu0`
abbrev pub tag_text : Tag → List ℕ
tag_text tag = name_of_pool tag.pool ++ decimal tag.number

-- a station's name, or nothing
abbrev pub name_text : Option Tag → List ℕ
name_text None = []
name_text (Some tag) = tag_text tag

-- the step waits to issue in some of these cycles, or has issued and not ended before them
abbrev pub is_listed_in : Span → Entry → Bool
is_listed_in span e = nat_le e.from span.to && nat_le span.from e.at.end
