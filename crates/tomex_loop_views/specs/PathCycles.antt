-- The cycles of a path by the keys of its links' steps.
use Rattle.std.specs.Prelude.{◌≡◌, ℕ, ◌+◌, ◌-◌, ◌<◌, Bool, All, IfSome, List, Option, None, is_none, map}
use Rattle.std.specs.Prelude.{slice_index_or}
use Rattle.std.specs.Prelude.{sum_by}
use Rattle.tomex_path.specs.declared.link.Link.{Link}
use Rattle.tomex_path.specs.declared.reason.Reason.{Reason}
use Rattle.tomex_path.specs.Laws.{all_reasons, cycles_of, had_for}
use Rattle.tomex_stretches.specs.Cycles.{is_key, sum_below, sum_where}

-- the key of a link's step; steps are counted from 1
abbrev pub key_of_link : List (Option ℕ) → Link → Option ℕ
key_of_link keys l = slice_index_or keys (l.step - 1) None

-- the cycles of each link that begins no earlier for a reason, and 0 of the others
abbrev pub cycles_for : Reason → List Link → List ℕ
cycles_for reason links = map (had_for reason cycles_of) links

-- what the links with a key that passes have for a reason
abbrev pub sum_for : Reason → (Option ℕ → Bool) → List (Option ℕ) → List Link → ℕ
sum_for reason p keys links = sum_where p (map (key_of_link keys) links) (cycles_for reason links)

-- For all reasons and keys together, the cycles are the path's.
abbrev pub PathCyclesAddUp : Type 0
PathCyclesAddUp = (count : ℕ) (keys : List (Option ℕ)) (links : List Link)
    → All (λ key. IfSome key (λ n. n < count)) keys
    → sum_by (λ reason. sum_below count (λ n. sum_for reason (is_key n) keys links) + sum_for reason is_none keys links)
    all_reasons ≡ sum_by cycles_of links
