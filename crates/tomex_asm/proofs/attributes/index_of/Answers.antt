use Rattle.std.proofs.Common.{◌+◌, ap, sym, ◌∙◌, map, drop}
use Rattle.std.proofs.lemmas.List.{drop_more}
use Rattle.tomex_asm_words.specs.Outputs.{remark_of}
use Rattle.tomex_asm.specs.File.{attributes_from}
use Rattle.tomex_asm.specs.Named.{attributes_at}
use Rattle.tomex_asm.proofs.attributes.index_of.Goals as goal

pub loop-remark-preserved : goal.loop-remark-preserved
loop-remark-preserved g c = λ w.
    let i = c.loop-remark.remark-index in
    ap (λ a. attributes_from w a (map remark_of (drop (i + 1) c.args.remarks.now))) (c.in_ok-note.ensures w)
    ∙ sym (ap (λ rs. attributes_from w (attributes_at c.loop-remark.index w) (map remark_of rs))
    (drop_more c.args.remarks.now i _ c.loop-remark-test.true))
    ∙ c.loop-remark.invariant w
