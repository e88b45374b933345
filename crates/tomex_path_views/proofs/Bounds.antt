-- A path that was found is short.
use Rattle.std.proofs.Common.{ℕ, ◌*◌, ◌≤◌, arith, List, length}
use Rattle.std.specs.Prelude.{All}
use Rattle.std.proofs.lemmas.List.Elements.{All-weaker}
use Rattle.tomex_path.specs.declared.link.Link.{Link}
use Rattle.tomex_path.specs.Within.{IsWithin}
use Rattle.tomex_path_views.specs.Charges.{AreOfSteps}
use Rattle.tomex_path_views.specs.Shares.{AreShort, IsShort}

wider : (steps total : ℕ) → steps ≤ 262144 → total ≤ 67 * steps → (l : Link) → IsWithin steps total l → IsShort l
wider steps total few bound l w = record {
  first = w.first;
  last = omega (arith, w.last, few);
  from = w.from;
  order = w.order;
  to = omega (arith, w.to, few, bound);
  waits = omega (arith, w.waits, few, bound);
}

pub are_short : (steps total : ℕ) (path : List Link) → steps ≤ 262144 → total ≤ 67 * steps → length path ≤ steps
    → All (IsWithin steps total) path → AreShort path
are_short steps total path few bound less within = record {
  few = omega (arith, few, less);
  all = All-weaker (IsWithin steps total) IsShort (wider steps total few bound) path within;
}

pub of_steps : (steps total : ℕ) (path : List Link) → All (IsWithin steps total) path → AreOfSteps steps path
of_steps steps total path within =
    All-weaker (IsWithin steps total) (λ (l : Link). l.step ≤ steps) (λ l w. w.last) path within
