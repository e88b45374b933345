use Rattle.std.proofs.Common.{◌≡◌, map, take}
use Rattle.std.specs.Mem.Slots.{slots_items}
use Rattle.std.specs.Vec.{vec_capacity, vec_len}
use Rattle.tomex_board.specs.Words.{mark_of}
use Rattle.tomex_board.proofs.words.read_marks.Given as goal

abbrev pub invariant-loop-i : goal.invariant-loop-i
invariant-loop-i g l =
    (l.marks.items ≡ map mark_of (take l.i (slots_items l.closed.words)))
    × (vec_capacity l.marks ≡ vec_capacity l.initial.marks)
    × (vec_len l.marks ≡ l.i)
