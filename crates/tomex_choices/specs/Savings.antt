-- Which new machines are of use beside some rows, and by how much they make the fewest cycles that a cost buys fewer.
use Rattle.std.specs.Prelude.{ℕ, ◌-◌, ◌*◌, ◌/◌, ◌==◌, ◌&&◌, ◌||◌, nat_le, nat_lt, Bool, not, if◌then◌else◌}
use Rattle.std.specs.Prelude.{List, [], ◌∷◌, ◌++◌, map, Option, Some, None}
use Rattle.std.specs.Prelude.{option_to_list}
use Rattle.std.specs.List.{filter, list_any}
use Rattle.tomex_pareto.specs.declared.front_row.FrontRow.{FrontRow}
use Rattle.tomex_survey.specs.Extremes.{least}
use Rattle.tomex_choices.specs.declared.new_machine.NewMachine.{NewMachine}
use Rattle.tomex_study.specs.declared.list_report.Saving.{Saving}

-- a row costs no more than a machine and takes no more cycles
abbrev pub is_as_good : NewMachine → FrontRow → Bool
is_as_good x r = nat_le r.cost x.cost && nat_le r.cycles x.cycles

-- y costs no more than x, takes no more cycles, and costs less, takes fewer, or has a smaller number
abbrev pub beats : NewMachine → NewMachine → Bool
beats x y =
    nat_le y.cost x.cost && nat_le y.cycles x.cycles
    && (nat_lt y.cost x.cost || nat_lt y.cycles x.cycles || nat_lt y.number x.number)

-- no row is as good as a machine, and no new machine beats it
abbrev pub is_of_use : List FrontRow → List NewMachine → NewMachine → Bool
is_of_use rows new x = not (list_any (is_as_good x) rows) && not (list_any (beats x) new)

-- the fewest cycles that a cost buys, if it buys any row
abbrev pub fewest : List FrontRow → ℕ → Option ℕ
fewest rows cost = least (map (λ r. r.cycles) (filter (λ r. nat_le r.cost cost) rows))

-- a new machine's cost and cycles, as a row of that number
abbrev pub as_row : NewMachine → FrontRow
as_row x = record { row = x.number; cost = x.cost; cycles = x.cycles }

-- a list is complete with all new machines
abbrev pub complete : List FrontRow → List NewMachine → List FrontRow
complete rows new = rows ++ map as_row new

-- a saving in thousandths of what the cost buys now, rounded down
abbrev pub thousandths : Saving → ℕ
thousandths v = (v.now - v.new) * 1000 / v.now

-- the saving at a cost, given the fewest cycles that it buys now, and those that it would buy
abbrev pub saving_if : ℕ → Option ℕ → Option ℕ → Option Saving
saving_if cost (Some now) (Some new) =
    if nat_lt new now then Some (record { cost = cost; now = now; new = new }) else None
saving_if cost _ _ = None

abbrev pub saving_at : List FrontRow → List NewMachine → ℕ → Option Saving
saving_at rows new cost = saving_if cost (fewest rows cost) (fewest (complete rows new) cost)

-- a is the greater saving, or as great at a lesser cost
abbrev pub is_greater : Saving → Saving → Bool
is_greater a b =
    nat_lt (thousandths b) (thousandths a) || (thousandths a == thousandths b && nat_lt a.cost b.cost)

-- the greater of two savings
abbrev pub more : Option Saving → Option Saving → Option Saving
more None b = b
more (Some a) None = Some a
more (Some a) (Some b) = Some (if is_greater b a then b else a)

abbrev pub greatest_saving : List (Option Saving) → Option Saving
greatest_saving [] = None
greatest_saving (a ∷ savings) = more a (greatest_saving savings)

-- the costs at which savings may begin: that of the cheapest row, and those of new machines
abbrev pub costs_asked : List FrontRow → List NewMachine → List ℕ
costs_asked rows new = option_to_list (least (map (λ r. r.cost) rows)) ++ map (λ x. x.cost) new

abbrev pub saving_among : List FrontRow → List NewMachine → Option Saving
saving_among rows new = greatest_saving (map (saving_at rows new) (costs_asked rows new))
