-- The firsts so far, and those that come.
use Rattle.std.proofs.Common.{◌≡◌, ◌++◌, drop}
use Rattle.tomex_config.specs.Parts.{is_like}
use Rattle.tomex_config.specs.Parts.{firsts}
use Rattle.tomex_config.proofs.Firsts.{coming}
use Rattle.tomex_config.proofs.likeness.Likeness.firsts.Given as goal

abbrev pub invariant-loop-config : goal.invariant-loop-config
invariant-loop-config l =
    l.firsts.items ++ coming l.self l.firsts.items (drop l.config-index l.rows) ≡ firsts (is_like l.self) l.rows
