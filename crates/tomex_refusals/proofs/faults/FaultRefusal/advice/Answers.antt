-- The longest texts, by the variant: a search would compare their letters.
use Rattle.std.proofs.Common.{ap, sym}
use Rattle.tomex_refusals.specs.Faults.{advice_of}
use Rattle.tomex_refusals.proofs.faults.FaultRefusal.advice.Goals as goal

pub returns-in-Access : goal.returns-in-Access
returns-in-Access c = ap advice_of (sym c.in-Access.is)

pub returns-in-Illegal : goal.returns-in-Illegal
returns-in-Illegal c = ap advice_of (sym c.in-Illegal.is)

pub returns-in-Fetch : goal.returns-in-Fetch
returns-in-Fetch c = ap advice_of (sym c.in-Fetch.is)
