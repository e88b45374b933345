use Rattle.std.proofs.Common.{◌≡◌, length}
use Rattle.tomex_samples.proofs.Drained.{IsDrained}
use Rattle.tomex_samples.proofs.counts.Counts.take.Given as goal

abbrev pub invariant-loop-k : goal.invariant-loop-k
invariant-loop-k g l = record {
  words : l.self.words ≡ l.fn.self.words;
  count : length l.self.numbers.items ≡ length l.fn.self.numbers.items;
  drained : IsDrained l.fn.self.words.items l.k l.row.items l.fn.self.numbers.items l.self.numbers.items;
}
