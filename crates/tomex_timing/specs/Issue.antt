-- From which cycle on the next step may issue.
use Rattle.std.specs.Prelude.{ℕ, ◌+◌, ◌==◌, nat_lt, if◌then◌else◌, List, [], ◌∷◌, count_by, max}
use Rattle.tomex_rvexec.specs.Steps.{is_branch}
use Rattle.tomex_config.specs.Configuration.{Configuration}
use Rattle.tomex_timing.specs.declared.times.Done.{Done}
use Rattle.tomex_timing.specs.History.{last_issue}

-- the latest finish of a branch, 0 if there is none
abbrev pub branch_finish : List Done → ℕ
branch_finish [] = 0
branch_finish (d ∷ older) =
    if is_branch d.step then max d.at.finish (branch_finish older) else branch_finish older

-- the first cycle in program order with room for an issue
abbrev pub slot_from : Configuration → List Done → ℕ
slot_from config h =
    if nat_lt (count_by (λ d. d.at.issue == last_issue h) h) config.width then last_issue h else last_issue h + 1

-- the first cycle in which the next step may issue, if a station is free: later than each branch's finish, too
abbrev pub first_issue : Configuration → List Done → ℕ
first_issue config h = max (slot_from config h) (branch_finish h + 1)

-- the same at any width: in program order, and later than each branch's finish
abbrev pub first_after_branches : List Done → ℕ
first_after_branches h = max (max 1 (last_issue h)) (branch_finish h + 1)
