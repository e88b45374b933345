-- The copy of a segment: each byte of memory is the file's or stays.
use Rattle.std.proofs.Common.{◌≡◌, ◌+◌, ◌-◌, ◌≤◌, length, arith}
use Rattle.tomex_image.proofs.Placing.{copied}
use Rattle.tomex_image.proofs.elf.placing.place.Goals as goal

pub returns-then-header-gt0-clause-placed : goal.returns-then-header-gt0-clause-placed
returns-then-header-gt0-clause-placed c = λ k in'.
    let a = c.args.header.now.address - c.base.result in
    let n = c.args.header.now.file_size in
    let size : a + n - a ≡ n = omega arith in
    let within : c.args.header.now.address + n ≤ c.args.window.base + length c.args.memory.now =
    omega (arith, c.requires.filled, c.requires.fits.not_longer, c.requires.fits.below) in
    rw (size, c.base.ensures.value, c.copy_from_slice.ensures.after)
    (copied c.args.memory.now c.args.bytes.now c.args.window.base c.args.header.now k c.requires.fits.above within
    (c.requires.fits.within_file c.if-header-gt0.true) in')
