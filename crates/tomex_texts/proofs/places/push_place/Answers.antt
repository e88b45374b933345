-- The slot has the text of this instruction.
use Rattle.tomex_texts.proofs.StepRecords.{kept_in}
use Rattle.tomex_texts.proofs.places.push_place.Goals as goal

pub returns-clause-kept : goal.returns-clause-kept
returns-clause-kept g c =
    kept_in c.args.places.now.items _ (record { pc = c.args.pc; instr = c.args.instr; text = c.in_ok-fields.fields })
    c.requires.kept c.in_ok-fields.ensures
