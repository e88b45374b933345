-- Groups of stretches, one for each leader, and better leaders for them.
use Rattle.std.specs.Prelude.{ℕ, zero, suc, ◌==◌, ◌&&◌, nat_lt, Bool, if◌then◌else◌, List, map, count_by, length}
use Rattle.std.specs.Prelude.{slice_index, unwrap_or}
use Rattle.tomex_samples.specs.Leaders.{can, count, counts_at, distance, in_order, nearest}
use Rattle.tomex_samples.specs.Numbers.{below, best_below, sum_below}
use Rattle.tomex_samples.specs.Stretches.{Run}

-- the nearest leader of each stretch
abbrev pub groups_of : Run → List ℕ → List ℕ
groups_of run leaders = map (nearest run leaders) (below (count run))

-- stretch k is in the group of leader l
abbrev pub is_in : List ℕ → ℕ → ℕ → Bool
is_in groups l k = slice_index groups k == l

-- the number of a group's members
abbrev pub members : List ℕ → ℕ → ℕ
members groups l = count_by (λ m. m == l) groups

-- the sums of the members' counts, at each word
abbrev pub sums_of : Run → List ℕ → ℕ → List ℕ
sums_of run groups l =
    map (λ w. sum_below (λ k. if is_in groups l k then slice_index (counts_at run k) w else 0) (count run))
    (below (length (counts_at run l)))

-- of a group's members that can the one that is nearest to the mean: its counts times the number of members, against
-- the sums; of equals the first
abbrev pub center_by : Run → List ℕ → ℕ → ℕ → List ℕ → ℕ
center_by run groups l times sums =
    unwrap_or (best_below (λ k. can run k && is_in groups l k)
    (λ j k. nat_lt (distance times (counts_at run j) sums) (distance times (counts_at run k) sums)) (count run)) l

abbrev pub center : Run → List ℕ → ℕ → ℕ
center run groups l = center_by run groups l (members groups l) (sums_of run groups l)

-- the groups' new leaders, in the order of the run
abbrev pub next_leaders : Run → List ℕ → List ℕ
next_leaders run leaders = in_order (count run) (map (center run (groups_of run leaders)) leaders)

-- the leaders after n rounds; once none changes, none does later
unfoldable pub leaders_after : Run → ℕ → List ℕ → List ℕ
leaders_after run zero leaders = leaders
leaders_after run (suc n) leaders = leaders_after run n (next_leaders run leaders)
