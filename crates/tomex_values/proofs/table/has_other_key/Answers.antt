-- The keys of the map are those of the members.
use Rattle.std.proofs.Common.{◌≡◌, ◌||◌, not, List, [], ◌∷◌, map, ap, refl, String, Global, string_bytes}
use Rattle.std.specs.List.{list_any}
use Rattle.toml.specs.View.{members_view}
use Rattle.toml.specs.declared.value.Value.{Value}
use Rattle.tomex_values.specs.Table.{is_one_of, has_other_key}
use Rattle.tomex_values.specs.declared.place.Key.{Key}
use Rattle.tomex_values.proofs.table.has_other_key.Goals as goal

any_entry : (keys : List Key) (es : List (String Global × Value))
    → list_any (λ k. not (is_one_of keys (string_bytes k))) (map (λ e. e.0) es) ≡ has_other_key keys (members_view es)
any_entry keys [] = refl
any_entry keys (e ∷ es) = ap (λ b. not (is_one_of keys (string_bytes e.0)) || b) (any_entry keys es)

pub returns : goal.returns
returns c = rw c.any_other.ensures (any_entry c.args.keys.now c.args.table.now.entries)
