use Rattle.std.proofs.Common.{◌≡◌, ◌++◌, take}
use Rattle.tomex_elf.specs.File.{words}
use Rattle.tomex_elf.proofs.file.push_words.Given as goal

abbrev pub invariant-loop-value : goal.invariant-loop-value
invariant-loop-value g l = l.file.items ≡ l.fn.file.items ++ words (take l.value-index l.values)
