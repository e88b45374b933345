use Rattle.tomex_rvdec.proofs.Meaning.{means_meaning, meaning_means}
use Rattle.tomex_rvdec.proofs.laws.meaning_is_the_table.Goals as goal

pub returns-clause-function : goal.returns-clause-function
returns-clause-function c = λ w x is. means_meaning w x is

pub returns-clause-table : goal.returns-clause-table
returns-clause-table c = λ w x low is. meaning_means w x low is
