-- From this address on, the nested symbols still hold what they held at first.
use Rattle.std.proofs.Common.{◌≡◌, ◌≤◌, ℕ, All, length}
use Rattle.tomex_symbols.specs.Functions.{holds}
use Rattle.tomex_symbols.specs.Sweep.{last_of}
use Rattle.tomex_symbols.proofs.sweep.Sweep.innermost.Given as goal

abbrev pub invariant-loop-symbol : goal.invariant-loop-symbol
invariant-loop-symbol g l = record {
  begun : l.self.begun ≡ l.fn.self.begun;
  label : l.self.label ≡ l.fn.self.label;
  latest : l.self.latest ≡ l.fn.self.latest;
  address : All (λ s. s.address ≤ l.pc) l.self.nested.items;
  nested : (q : ℕ) → l.pc ≤ q → last_of (holds q) l.self.nested.items ≡ last_of (holds q) l.fn.self.nested.items;
}

abbrev pub decreases-loop-symbol : goal.decreases-loop-symbol
decreases-loop-symbol g l = length l.self.nested.items
