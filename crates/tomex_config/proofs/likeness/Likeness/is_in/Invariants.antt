-- The remaining configurations.
use Rattle.std.proofs.Common.{◌≡◌, drop}
use Rattle.std.specs.List.{list_any}
use Rattle.tomex_config.specs.Parts.{is_like}
use Rattle.tomex_config.proofs.likeness.Likeness.is_in.Given as goal

abbrev pub invariant-loop-config : goal.invariant-loop-config
invariant-loop-config l =
    list_any (λ c. is_like l.self c l.other) (drop l.config-index l.configs)
    ≡ list_any (λ c. is_like l.self c l.other) l.configs
