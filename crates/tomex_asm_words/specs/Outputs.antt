-- The code's output, as the definition sees it.
use Rattle.std.specs.Prelude.{map}
use Rattle.tomex_asm_words.specs.declared.output.Remark as coded
use Rattle.tomex_asm_words.specs.declared.output.Output as coded_output
use Rattle.tomex_asm_words.specs.Words.{Output, Remark}

abbrev pub remark_of : coded.Remark → Remark
remark_of r = record { name = r.name.now; said = r.said }

module _ {A : Type 0} where
  abbrev pub output_of : coded_output.Output A → Output
  output_of o =
      record { code = o.code.items; contents = o.contents.items; remarks = map remark_of o.remarks.items }
