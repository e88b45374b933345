-- The record without its first field, which is empty, and without its end.
use Rattle.std.proofs.Common.{◌≡◌, ◌∙◌, [], ◌∷◌, arith, ap}
use Rattle.std.proofs.lemmas.Grind.{common_steps}
use Rattle.csv.specs.Records.{fields_of}
use Rattle.tomex_rvdec.specs.Text.{hex8, instr_text}
use Rattle.tomex_layout.specs.Csv.{record_text}
use Rattle.tomex_texts.proofs.StepRecords.{after_nothing}
use Rattle.tomex_texts.proofs.places.text_of.Goals as goal

pub returns : goal.returns
returns c =
    let fields : fields_of c.push_instruction.new.fields ≡ [] ∷ hex8 c.args.pc ∷ instr_text c.args.instr ∷ [] =
    grind (arith, common_steps) in
    after_nothing c.args.pc c.args.instr c.in_ok-text.text.items _ _ (c.in_ok-text.ensures ∙ ap record_text fields)
    (grind (arith, common_steps)) c.pop.ensures.rest
