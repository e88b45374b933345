-- The floors of a study: what no machine with the latencies of one of its rows goes below.
use Rattle.std.specs.Prelude.{ℕ, ◌*◌, List, map, sum_by, unwrap_or}
use Rattle.tomex_config.specs.Configuration.{Configuration}
use Rattle.tomex_floor.specs.Floor.{floor_of}
use Rattle.tomex_config.specs.Configuration.{latency_of}
use Rattle.tomex_study.specs.Program.{Workload, steps_of}
use Rattle.tomex_study.specs.Study.{DesignSpace}
use Rattle.tomex_study.specs.StudyFront.{all_rows}
use Rattle.tomex_study.specs.declared.list_report.Floors.{Floors}
use Rattle.tomex_survey.specs.Extremes.{least}

-- a program's floor for a configuration's latencies and a width, times its weight
abbrev pub weighted_floor : ℕ → Configuration → Workload → ℕ
weighted_floor width c p = p.weight * floor_of (latency_of c) width (steps_of p)

-- the same of all programs together
unfoldable pub floor_at : List Workload → ℕ → Configuration → ℕ
floor_at programs width c = sum_by (weighted_floor width c) programs

abbrev pub least_for : List Configuration → (Configuration → ℕ) → ℕ
least_for rows f = unwrap_or (least (map f rows)) 0

-- the least floor of a row at its own width, and at the greatest width
unfoldable pub study_floor : DesignSpace → ℕ
study_floor s = least_for s.rows (λ c. floor_at s.programs c.width c)

unfoldable pub any_width : DesignSpace → ℕ
any_width s = least_for s.rows (floor_at s.programs 4)

-- the fewest cycles of a row
unfoldable pub fastest : DesignSpace → ℕ
fastest s = unwrap_or (least (map (λ r. r.cycles) (all_rows s))) 0

-- all of these
unfoldable pub floors_of : DesignSpace → Floors
floors_of s = record { fastest = fastest s; own = study_floor s; any_width = any_width s }
