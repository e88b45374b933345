use Rattle.tomex_board.proofs.RowMarks.{lawful_now, word_says}
use Rattle.tomex_board.proofs.laws.marks_are_lawful.Goals as goal

pub returns-clause-lawful : goal.returns-clause-lawful
returns-clause-lawful c = lawful_now

pub returns-clause-words : goal.returns-clause-words
returns-clause-words c = word_says
