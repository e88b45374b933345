-- The loop over the headers: the tests and segments of the headers left decide as those of all headers.
use Rattle.std.proofs.Common.{◌≡◌, ◌+◌, ◌*◌, ◌-◌, length, []}
use Rattle.tomex_image.specs.ElfTests.{tests_from}
use Rattle.tomex_image.specs.ProgramHeader.{headers_from, segments_from}
use Rattle.tomex_image.specs.Tests.{first_failing}
use Rattle.tomex_image.proofs.elf.executable.segments_in.Given as goal

abbrev pub invariant-loop-k : goal.invariant-loop-k
invariant-loop-k l = record {
  offset : l.offset ≡ l.fn.table.offset + 32 * l._k;
  tests : first_failing (tests_from l.window (length l.bytes) l.entry []
      (headers_from l.bytes l.fn.table.offset l.fn.table.count))
      ≡ first_failing (tests_from l.window (length l.bytes) l.entry l.segments
      (headers_from l.bytes l.offset (l.fn.table.count - l._k)));
  segments : segments_from [] (headers_from l.bytes l.fn.table.offset l.fn.table.count)
      ≡ segments_from l.segments (headers_from l.bytes l.offset (l.fn.table.count - l._k));
}
