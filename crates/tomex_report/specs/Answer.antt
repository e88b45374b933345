-- From bytes to a report.
use Rattle.std.specs.Prelude.{◌≡◌, ℕ, List}
use Rattle.tomex_study.specs.Study.{DesignSpace}
use Rattle.tomex_document.specs.Study.{IsStudyOf, IsStudyRefusal}
use Rattle.tomex_texts.specs.FrontReport.{report_of}
use Rattle.tomex_report.specs.declared.answer_error.AnswerError.{AnswerError}
use Rattle.tomex_report.specs.declared.answer_error.AnswerError.TheVariants.{Study, Sweep}

-- the bytes and the files are those of a study, and the text is its report
abbrev pub IsAnswer : List ℕ → List (List ℕ) → List ℕ → Type 0
IsAnswer bytes files text = (s : DesignSpace) × IsStudyOf bytes files s × (text ≡ report_of s)

-- the study's own refusal; or it is a study, and memory or a thread was refused
abbrev pub IsAnswerRefusal : List ℕ → List (List ℕ) → AnswerError → Type 0
IsAnswerRefusal bytes files (Study error) = IsStudyRefusal bytes files error
IsAnswerRefusal bytes files (Sweep error) = (s : DesignSpace) × IsStudyOf bytes files s

-- a refusal after the study was read: none of the study itself
abbrev pub IsOfSweep : AnswerError → Type 0
IsOfSweep (Study error) = ⊥
IsOfSweep (Sweep error) = Unit {0}
