use Rattle.std.proofs.Common.{rules}
use Rattle.tomex_lanes.proofs.dealt.Dealt.new.Goals as goal

pub invariant_of-result : goal.invariant_of-result
invariant_of-result g c = search rules fits 100
