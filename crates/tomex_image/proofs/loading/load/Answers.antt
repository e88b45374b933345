use Rattle.std.proofs.Common.{rules}
use Rattle.tomex_image.proofs.loading.load.Goals as goal

pub returns-then-has_elf_magic-clause-ok : goal.returns-then-has_elf_magic-clause-ok
returns-then-has_elf_magic-clause-ok g c = search rules fits 100

pub returns-then-has_elf_magic-clause-err : goal.returns-then-has_elf_magic-clause-err
returns-then-has_elf_magic-clause-err g c = search rules fits 100
