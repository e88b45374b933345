-- Several weights of a study change at once, each by a share of the way to an end of its span.
use Rattle.std.specs.Prelude.{◌≡◌, ℕ, ◌+◌, ◌-◌, ◌*◌, ◌<◌, ◌≤◌, true, List, [], ◌∷◌, length, map, sum_by}
use Rattle.std.specs.List.{Contains, range_with_len}
use Rattle.tomex_pareto.specs.Front.{is_on}
use Rattle.tomex_pareto.specs.declared.front_row.FrontRow.{FrontRow}
use Rattle.tomex_pareto.specs.declared.spans.ValueSpan.{ValueSpan}
use Rattle.tomex_study.specs.Program.{Workload}
use Rattle.tomex_study.specs.Study.{DesignSpace, IsStudy}
use Rattle.tomex_study.specs.StudyFront.{front_of_study}
use Rattle.tomex_weights.specs.Reweighted.{in_hundredths, weight_at}
use Rattle.tomex_weights.specs.Spans.{span_of}

-- a weight in hundredths for each program, by its place
abbrev pub Weights : Type 0
Weights = ℕ → ℕ

-- the programs from a place on with these weights
abbrev pub with_all : Weights → ℕ → List Workload → List Workload
with_all weights place [] = []
with_all weights place (p ∷ ps) = record p { weight = weights place } ∷ with_all weights (place + 1) ps

-- the same rows and costs with these weights
abbrev pub reweighted_by : Weights → DesignSpace → DesignSpace
reweighted_by weights s = record s { programs = with_all weights 0 s.programs }

-- the stated weights
abbrev pub stated_weights : DesignSpace → Weights
stated_weights s place = 100 * weight_at s place

-- a weight moves from now by at most `share` parts of the `whole` of the way to the end of a span on its side
pub record IsShareOfWay (span : ValueSpan) (now value share whole : ℕ) : Type 0 where
  pub up : (value - now) * whole ≤ share * (span.end - 1 - now)
  pub down : (now - value) * whole ≤ share * (now - span.first)

-- a row of the front stays on it if each weight moves by a share of the way to the end of its span, and the shares add
-- up to no more than the whole
abbrev pub StaysByShares : Type 0
StaysByShares = (s : DesignSpace) (weights : Weights) (shares : ℕ → ℕ) (whole : ℕ) (r : FrontRow) → IsStudy s
    → Contains (front_of_study s) r → 0 < whole → sum_by shares (range_with_len 0 (length s.programs)) ≤ whole
    → ((place : ℕ) → place < length s.programs
    → IsShareOfWay (span_of s place r) (stated_weights s place) (weights place) (shares place) whole)
    → is_on (front_of_study (reweighted_by weights s)) r.row ≡ true

-- with the stated weights it is the study in hundredths
abbrev pub IsStatedAtStated : Type 0
IsStatedAtStated = (s : DesignSpace)
    → reweighted_by (stated_weights s) s ≡ record s { programs = map in_hundredths s.programs }
