-- The law is the lemma.
use Rattle.tomex_document.proofs.Gridded.{document_has_grid}
use Rattle.tomex_document.proofs.document.laws.documents_have_a_grid.Goals as goal

pub returns : goal.returns
returns c = document_has_grid
