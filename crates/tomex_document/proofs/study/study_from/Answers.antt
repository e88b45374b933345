-- A document has 1 to 8 programs, and as many files.
use Rattle.std.proofs.lemmas.Grind.{common_steps}
use Rattle.std.proofs.Common.{◌∙◌, ap, arith, length, inl, refl}
use Rattle.std.proofs.lemmas.List.{length-map}
use Rattle.std.proofs.lemmas.Result.{err_from_is_err_and}
use Rattle.tomex_document.specs.Document.{Document}
use Rattle.tomex_document.proofs.Studies.{file_refused, some_programs}
use Rattle.tomex_document.proofs.study.study_from.Goals as goal

pub new-requires-clause-some_programs : goal.new-requires-clause-some_programs
new-requires-clause-some_programs g c =
    (some_programs _ _ _ _ c.requires.some c.requires.few (c.as_slice-entries.ensures.value
    ∙ ap (λ (d : Document). d.programs) c.outline.view_is) c.in_ok-programs.ensures.ok).0

pub new-requires-clause-few_programs : goal.new-requires-clause-few_programs
new-requires-clause-few_programs g c =
    (some_programs _ _ _ _ c.requires.some c.requires.few (c.as_slice-entries.ensures.value
    ∙ ap (λ (d : Document). d.programs) c.outline.view_is) c.in_ok-programs.ensures.ok).1

pub returns-in_err-clone-clause-err : goal.returns-in_err-clone-clause-err
returns-in_err-clone-clause-err g c =
    let p = err_from_is_err_and c.from_residual.result c.from_residual.ensures.1 in
    rw p.1 (inl p.2)

pub returns-in_err-programs-clause-err : goal.returns-in_err-programs-clause-err
returns-in_err-programs-clause-err g c =
    let p = err_from_is_err_and c.from_residual-in_err-programs.result c.from_residual-in_err-programs.ensures.1 in
    let entries = c.as_slice-entries.ensures.value ∙ ap (λ (d : Document). d.programs) c.outline.view_is in
    let long = length-map c.args.files.now (λ f. f.items) in
    let same = ap (λ (d : Document). length d.programs) c.outline.view_is in
    rw (p.1, p.2) (file_refused _ c.args.outline.now _ (omega (arith, long, same, c.len.ensures, c.if-files-len.false))
    (rw entries at c.in_err-programs.ensures.err))

pub returns-clause-ok : goal.returns-clause-ok
returns-clause-ok g c =
    let entries = c.as_slice-entries.ensures.value ∙ ap (λ (d : Document). d.programs) c.outline.view_is in
    rw c.in_ok-new.ensures.parts (
      rw entries at c.in_ok-programs.ensures.ok,
      rw (← ap (λ (d : Document). d.axes) c.outline.view_is) c.in-Ok.ensures.exact,
      ap (λ (d : Document). d.prices) c.outline.view_is,
      refl,
      ap (λ (d : Document). d.wide) c.outline.view_is,
    )

pub returns-clause-count : goal.returns-clause-count
returns-clause-count = grind (arith, common_steps)

pub returns-in_err-clone-2-clause-count : goal.returns-in_err-clone-2-clause-count
returns-in_err-clone-2-clause-count = grind (arith, common_steps)

pub returns-in_err-new-clause-count : goal.returns-in_err-new-clause-count
returns-in_err-new-clause-count = grind (arith, common_steps)

pub returns-then-files-len-clause-err : goal.returns-then-files-len-clause-err
returns-then-files-len-clause-err = grind (arith, common_steps)
