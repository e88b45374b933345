-- So far the accesses from the number on are over, and the one before it isn't.
use Rattle.std.proofs.Common.{ℕ, ◌+◌, ◌<◌, ◌≤◌, ◌≡◌}
use Rattle.std.specs.Prelude.{slice_index}
use Rattle.tomex_states.proofs.state.Window.count_under_way.Given as goal

abbrev pub invariant-loop-number : goal.invariant-loop-number
invariant-loop-number l = (l.count ≤ l.number)
    × ((i : ℕ) → l.count ≤ i → i < l.number → slice_index l.self.finishes i < l.from)
    × ((i : ℕ) → i + 1 ≡ l.count → l.from ≤ slice_index l.self.finishes i)
