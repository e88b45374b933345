-- What a link of a path is within: the steps and the cycles of its run.
use Rattle.std.specs.Prelude.{ℕ, ◌≤◌}
use Rattle.tomex_path.specs.declared.link.Link.{Link}

pub record IsWithin (steps total : ℕ) (l : Link) : Type 0 where
  pub first : 1 ≤ l.step
  pub last : l.step ≤ steps
  pub from : 1 ≤ l.from
  pub order : l.from ≤ l.to
  pub to : l.to ≤ total
  pub waits : l.waits ≤ total
