-- What is placed so far, with the lines that are left, is what all lines place.
use Rattle.std.proofs.Common.{◌≡◌, ◌≤◌, ◌+◌, []}
use Rattle.tomex_asm_places.specs.Kept.{IsPlaced, state_of}
use Rattle.tomex_asm_places.specs.Places.{beginning}
use Rattle.tomex_asm.specs.Assembled.{lines_from, place_lines}
use Rattle.tomex_asm.proofs.Lines.{lines_on}
use Rattle.tomex_asm.proofs.first.first_pass.Given as goal

abbrev pub invariant-loop-place : goal.invariant-loop-place
invariant-loop-place g l =
    record {
      order : l.start ≤ l.place;
      count : l.number ≤ l.place + 1;
      placed : IsPlaced l.placed;
      all :
          place_lines l.base l.number (lines_on l.start l.place l.text) (state_of l.placed)
          ≡ place_lines l.base 1 (lines_from [] l.text) beginning;
    }
