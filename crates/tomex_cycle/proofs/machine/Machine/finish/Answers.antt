use Rattle.tomex_cycle.proofs.Words.{ap, IsEnd}
use Rattle.tomex_cycle.specs.Seen.{seen}
use Rattle.tomex_cycle.proofs.Outer.{finish_seen}
use Rattle.tomex_cycle.proofs.machine.Machine.finish.Goals as goal

pub returns : goal.returns
returns g c = record {
  ends = finish_seen (λ i. IsEnd i 262144 c.into_end.result) (ap seen c.self.view_is)
      c.into_end.ensures.ends c.self.invariant.0 c.requires;
}
