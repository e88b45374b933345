use Rattle.std.proofs.Common.{◌≡◌, get_or, rules}
use Rattle.tomex_elf.specs.File.{word}
use Rattle.tomex_elf.proofs.Files.{words_on}
use Rattle.tomex_elf.proofs.file.push_words.Goals as goal

pub loop-value-preserved : goal.loop-value-preserved
loop-value-preserved g c =
    let i = c.loop-value.value-index in
    let bytes : c.as_slice.result.now ≡ word (get_or c.args.values.now i 0) = search rules in
    words_on _ c.loop-value.file.items _ _ _ i c.in_ok-extend_from_slice.ensures.items bytes c.loop-value-test.true
    c.loop-value.invariant
