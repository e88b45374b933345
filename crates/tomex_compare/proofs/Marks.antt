-- The rows that are marked, and the pairs of these rows.
use Rattle.std.proofs.Common.{◌≡◌, ℕ, ◌<◌, All, Bool, List, length, subst, sym}
use Rattle.std.proofs.lemmas.List.Elements.{All-filter}
use Rattle.tomex_pareto.specs.Front.{is_on}
use Rattle.tomex_pareto.specs.declared.front_row.FrontRow.{FrontRow}
use Rattle.tomex_compare.specs.Groups.{AreMarks, on_front}
use Rattle.tomex_compare.specs.declared.pairs.Pair.{Pair}

-- marks are as many as there are rows
pub marks_long : (front : List FrontRow) (count : ℕ) (marks slice : List Bool) → AreMarks front count marks
    → slice ≡ marks → AreMarks front (length slice) slice
marks_long front count marks slice are same =
    let long = subst (λ (n : ℕ). AreMarks front n marks) (sym are.many) are in
    subst (λ (ms : List Bool). AreMarks front (length ms) ms) (sym same) long

-- the pairs on a front are pairs
pub still_within : (front : List FrontRow) (pairs those : List Pair) (n : ℕ) → those ≡ on_front front pairs
    → All (λ p. p.row < n) pairs → All (λ p. p.row < n) those
still_within front pairs those n are within =
    subst (All (λ (p : Pair). p.row < n)) (sym are)
    (All-filter (λ (p : Pair). is_on front p.row) (λ p. p.row < n) pairs within)
