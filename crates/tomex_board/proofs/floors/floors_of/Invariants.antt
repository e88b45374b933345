use Rattle.std.proofs.Common.{◌≡◌, ◌*◌, ◌/◌, map, length, slice_index}
use Rattle.std.specs.List.{range_with_len}
use Rattle.tomex_board.proofs.floors.floors_of.Given as goal

abbrev pub invariant-loop-k : goal.invariant-loop-k
invariant-loop-k g l = l.floors.items ≡ map (λ k. slice_index l.rising.items (k * length l.rising.items / 64))
    (range_with_len 0 l.k)
