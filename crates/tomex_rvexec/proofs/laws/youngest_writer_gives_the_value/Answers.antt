use Rattle.tomex_rvexec.proofs.FlowHistories.{no_store_on, no_writer, youngest_store, youngest_writer}
use Rattle.tomex_rvexec.proofs.laws.youngest_writer_gives_the_value.Goals as goal

pub returns-clause-writer : goal.returns-clause-writer
returns-clause-writer c = youngest_writer

pub returns-clause-start : goal.returns-clause-start
returns-clause-start c = no_writer

pub returns-clause-store : goal.returns-clause-store
returns-clause-store c = youngest_store

pub returns-clause-image : goal.returns-clause-image
returns-clause-image c = no_store_on
