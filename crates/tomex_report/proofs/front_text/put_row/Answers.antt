-- The row of the front is that of the study.
use Rattle.std.proofs.Common.{◌∙◌, ◌++◌, ap, List, ℕ}
use Rattle.tomex_layout.specs.Csv.{text_written}
use Rattle.tomex_texts.proofs.Records.{records_are, same_config}
use Rattle.tomex_report.proofs.front_text.put_row.Goals as goal

pub put_programs-requires-clause-ends : goal.put_programs-requires-clause-ends
put_programs-requires-clause-ends g c =
    let same = same_config c.args.study.now.rows _ _ c.requires.ends.config _ c.requires.ends.config_is
    c.rows.ensures.value c.index-rows-front.is in
    rw (same, c.programs.ensures.value, c.as_slice.ensures.value) c.requires.ends.ends

pub returns-clause-text : goal.returns-clause-text
returns-clause-text g c =
    let same = same_config c.args.study.now.rows _ _ c.requires.ends.config _ c.requires.ends.config_is
    c.rows.ensures.value c.index-rows-front.is in
    (rw c.wide.ensures.value at c.in_ok-put_programs.ensures.text)
    ∙ ap (λ (t : List ℕ). text_written (λ v. v.items) c.args.writer.now ++ t)
    (records_are c.args.study.now c.args.front c.requires.ends.config _ _ c.requires.ends.config_is same
    c.programs.ensures.value)
