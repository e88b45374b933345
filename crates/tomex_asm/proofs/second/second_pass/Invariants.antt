-- What is written so far, with the lines that are left, is what all lines write.
use Rattle.std.proofs.Common.{◌≡◌, ◌≤◌, ◌+◌, []}
use Rattle.tomex_asm_numbers.specs.Indexed.{definitions_in}
use Rattle.tomex_asm_places.specs.Kept.{IsPlaced}
use Rattle.tomex_asm.specs.Assembled.{lines_from, nothing_written, write_lines}
use Rattle.tomex_asm.specs.Found.{both_of}
use Rattle.tomex_asm.proofs.Lines.{lines_on}
use Rattle.tomex_asm.proofs.second.second_pass.Given as goal

abbrev pub invariant-loop-place : goal.invariant-loop-place
invariant-loop-place g l =
    record {
      order : l.start ≤ l.place;
      count : l.number ≤ l.place + 1;
      placed : IsPlaced l.second.placed;
      all :
          write_lines l.frame (definitions_in l.table) l.number (lines_on l.start l.place l.text) (both_of l.second)
          ≡ write_lines l.frame (definitions_in l.table) 1 (lines_from [] l.text) nothing_written;
    }
