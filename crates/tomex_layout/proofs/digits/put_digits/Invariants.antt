-- The digits that are there are the number's last ones.
use Rattle.std.proofs.Common.{◌≡◌, ◌<◌, ◌+◌, ◌++◌, drop, length}
use Rattle.std.specs.Fmt.{decimal}
use Rattle.tomex_layout.proofs.digits.put_digits.Given as goal

abbrev pub invariant-loop-rest : goal.invariant-loop-rest
invariant-loop-rest l = record {
  count : length l.digits ≡ 20;
  within : l.from < 20;
  digits : decimal l.rest ++ drop (l.from + 1) l.digits ≡ decimal l.number;
}

abbrev pub decreases-loop-rest : goal.decreases-loop-rest
decreases-loop-rest l = l.rest
