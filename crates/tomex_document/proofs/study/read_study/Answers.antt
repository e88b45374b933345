-- The document is refused, or what its files give is the study.
use Rattle.std.proofs.Common.{inl}
use Rattle.std.proofs.lemmas.Result.{err_from_is_err_and}
use Rattle.tomex_document.proofs.Counted.{document_has_programs}
use Rattle.tomex_document.proofs.Studies.{document_refused, study_made, study_refused}
use Rattle.tomex_document.proofs.study.read_study.Goals as goal

pub returns-in_err-clone-clause-err : goal.returns-in_err-clone-clause-err
returns-in_err-clone-clause-err g c =
    let p = err_from_is_err_and c.from_residual.result c.from_residual.ensures.1 in
    rw p.1 (inl p.2)

pub returns-in_err-outline-clause-err : goal.returns-in_err-outline-clause-err
returns-in_err-outline-clause-err g c =
    let p = err_from_is_err_and c.from_residual-in_err-outline.result c.from_residual-in_err-outline.ensures.1 in
    rw p.1 (document_refused _ _ _ _ p.2 c.in_err-outline.ensures)

pub study_from-requires-clause-some : goal.study_from-requires-clause-some
study_from-requires-clause-some g c = (document_has_programs _ _ c.in_ok-outline.ensures).0

pub study_from-requires-clause-few : goal.study_from-requires-clause-few
study_from-requires-clause-few g c = (document_has_programs _ _ c.in_ok-outline.ensures).1

pub returns-clause-ok : goal.returns-clause-ok
returns-clause-ok g c =
    study_made c.args.study.now _ c.in_ok-outline.outline c.study_from.result c.in_ok-outline.ensures
    c.study_from.ensures.ok

pub returns-clause-err : goal.returns-clause-err
returns-clause-err g c =
    study_refused c.args.study.now _ c.in_ok-outline.outline c.study_from.result c.in_ok-outline.ensures
    c.study_from.ensures.err
