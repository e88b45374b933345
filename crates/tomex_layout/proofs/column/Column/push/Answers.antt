-- It is as wide as the entry, or as before.
use Rattle.std.proofs.Common.{◌∙◌, ap, List, ℕ, [], ◌∷◌, length, map}
use Rattle.std.specs.Prelude.{string_bytes}
use Rattle.std.proofs.lemmas.List.{map-append}
use Rattle.tomex_layout.proofs.Widths.{width_more}
use Rattle.tomex_layout.proofs.column.Column.push.Goals as goal

pub invariant_of-self-2 : goal.invariant_of-self-2
invariant_of-self-2 c =
    let grown = ap (map string_bytes) c.in_ok-push.ensures.items
    ∙ map-append string_bytes c.self.inside.entries.items (c.args.entry ∷ []) in
    width_more _ _ _ (string_bytes c.args.entry) _ _ _ grown c.self.invariant
    (ap (λ (t : List ℕ). length t) c.as_bytes-width.ensures.value) c.max-self-inside.ensures
