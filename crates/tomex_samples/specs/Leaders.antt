-- The first leaders of a run's stretches, which are far from each other.
use Rattle.std.specs.Prelude.{ℕ, zero, suc, ◌*◌, ◌==◌, ◌&&◌, nat_lt, Bool, if◌then◌else◌, List, [], ◌∷◌, ◌++◌}
use Rattle.std.specs.Prelude.{filter, fold, length, slice_index, slice_index_or, Option, None, is_some, option_to_list}
use Rattle.std.specs.List.{list_any}
use Rattle.tomex_samples.specs.Numbers.{below, best_below, difference, sum_below}
use Rattle.tomex_samples.specs.Stretches.{Run}

-- the number of stretches
abbrev pub count : Run → ℕ
count run = length run.parts

-- the counts of stretch k
abbrev pub counts_at : Run → ℕ → List ℕ
counts_at run k = slice_index_or run.counts k []

-- a stretch can if the part that begins with it has an end
abbrev pub can : Run → ℕ → Bool
can run k = is_some (slice_index_or run.parts k None)

-- the distance of some counts, times a factor, from others: the sum of the differences
abbrev pub distance : ℕ → List ℕ → List ℕ → ℕ
distance times xs ys = sum_below (λ w. difference (times * slice_index xs w) (slice_index ys w)) (length ys)

-- the distance of two stretches
abbrev pub apart : Run → ℕ → ℕ → ℕ
apart run j k = distance 1 (counts_at run j) (counts_at run k)

-- of two leaders the one that is nearer to stretch k; of equals the first
abbrev pub nearer : Run → ℕ → ℕ → ℕ → ℕ
nearer run k l m = if nat_lt (apart run k m) (apart run k l) then m else l

-- of all leaders the nearest; of equals the first
abbrev pub nearest : Run → List ℕ → ℕ → ℕ
nearest run [] k = k
nearest run (l ∷ ls) k = fold (nearer run k) l ls

-- the distance of stretch k from its nearest leader
abbrev pub away : Run → List ℕ → ℕ → ℕ
away run leaders k = apart run k (nearest run leaders k)

-- of the stretches that can, and aren't like a leader, the farthest from its nearest leader; of equals the first
abbrev pub farthest : Run → List ℕ → Option ℕ
farthest run leaders =
    best_below (λ k. can run k && nat_lt 0 (away run leaders k))
    (λ j k. nat_lt (away run leaders k) (away run leaders j)) (count run)

-- up to n leaders more, each the farthest from those before it
unfoldable pub and_farthest : Run → ℕ → List ℕ → List ℕ
and_farthest run zero leaders = leaders
and_farthest run (suc n) leaders = and_farthest run n (leaders ++ option_to_list (farthest run leaders))

-- the numbers below n that are in a list, in order
abbrev pub in_order : ℕ → List ℕ → List ℕ
in_order n ks = filter (λ k. list_any (λ j. j == k) ks) (below n)

-- a stretch that can, and up to seven more, in the order of the run
abbrev pub first_leaders : Run → ℕ → List ℕ
first_leaders run first = in_order (count run) (and_farthest run 7 (first ∷ []))
