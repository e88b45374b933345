-- What is counted of numbers doesn't depend on their order.
use Rattle.std.proofs.Common.{ℕ, ◌-◌, ◌≡◌, ◌∙◌, Bool, arith, List, length, count_by}
use Rattle.std.specs.Prelude.{◌==◌, ◌/◌, nat_le, nat_lt, if◌then◌else◌}
use Rattle.std.specs.List.Sorted.{IsPermutation}
use Rattle.std.proofs.lemmas.List.Sorted.{length_permutation, sum_by-IsPermutation}
use Rattle.tomex_loops.specs.Rounds.{AreCounts, IsAtPlace}
use Rattle.tomex_loops.specs.declared.counts.Counts.{Counts}

count_moved : (p : ℕ → Bool) (xs ys : List ℕ) → IsPermutation xs ys → count_by p ys ≡ count_by p xs
count_moved p xs ys moved = sum_by-IsPermutation (λ x. if p x then 1 else 0) xs ys moved

place_moved : (xs ys : List ℕ) (k n : ℕ) → IsPermutation xs ys → IsAtPlace ys k n → IsAtPlace xs k n
place_moved xs ys k n moved at =
    let below = count_moved (λ x. nat_lt x n) xs ys moved in
    let here = count_moved (λ x. nat_le x n) xs ys moved in
    record { below = omega (arith, below, at.below); here = omega (arith, here, at.here) }

pub counts_moved : (xs ys : List ℕ) (c : Counts) → IsPermutation xs ys → AreCounts ys c → AreCounts xs c
counts_moved xs ys c moved are =
    let count : length ys ≡ length xs = length_permutation xs ys moved in
    record {
      least = place_moved xs ys 0 c.least moved are.least;
      median = place_moved xs ys ((length xs - 1) / 2) c.median moved (rw count at are.median);
      most = place_moved xs ys (length xs - 1) c.most moved (rw count at are.most);
      alike = are.alike ∙ count_moved (λ x. x == c.usual) xs ys moved;
      usual = λ n. let m = count_moved (λ x. x == n) xs ys moved in let u = are.usual n in omega (arith, m, u);
      first = λ n l. let m = count_moved (λ x. x == n) xs ys moved in let f = are.first n l in omega (arith, m, f);
    }
