-- The text so far, and the entries to come.
use Rattle.std.proofs.Common.{◌≡◌, ◌++◌, drop}
use Rattle.std.specs.Prelude.{string_bytes}
use Rattle.std.specs.List.{flat_map}
use Rattle.std.specs.Prelude.{codes}
use Rattle.tomex_page_tables.specs.Asked.{facet_text}
use Rattle.tomex_page_tables.proofs.choices.push_others.Given as goal

abbrev pub invariant-loop-config : goal.invariant-loop-config
invariant-loop-config g l =
    string_bytes l.text ++ flat_map (λ c. codes ", " ++ facet_text l.prices l.facet l.part c) (drop l.config-index
    l.configs)
    ≡ string_bytes l.fn.text ++ flat_map (λ c. codes ", " ++ facet_text l.prices l.facet l.part c) l.configs
