use Rattle.tomex_cycle.proofs.Words.{◌∙◌}
use Rattle.tomex_cycle.proofs.Shows.{tables_is, same_tables}
use Rattle.tomex_cycle.proofs.inner.Inner.tables.Goals as goal

pub returns-clause-shown : goal.returns-clause-shown
returns-clause-shown g c = λ i h config up slots status.
    same_tables c.new.result _ _ _ c.new.ensures.cycle c.new.ensures.busy c.new.ensures.registers
    ∙ tables_is _ up slots status c.busy_entries-busy.ensures.count c.busy_entries-busy.ensures.each
