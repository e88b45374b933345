-- Configurations that are made one after another: one more value, and one more configuration.
use Rattle.std.proofs.Common.{◌≡◌, ◌<◌, ◌≤◌, ◌+◌, ◌∙◌, ℕ, List, [], ◌∷◌, ◌++◌, map, take, slice_index_or, length, sym}
use Rattle.std.proofs.Common.{ap}
use Rattle.std.proofs.lemmas.List.{append_assoc, append-nil, map-append, take_all, take_more}
use Rattle.std.proofs.lemmas.Grind.{flat_map-append}
use Rattle.tomex_config.specs.Configuration.{Configuration}
use Rattle.tomex_config.specs.Vary.{vary}

-- one more value of the current configuration
pub one_value : {V : Type 0} (part : Configuration → V → Configuration) (config : Configuration) (values : List V)
    (k : ℕ) (other : V) (before made now : List Configuration) (next : Configuration) → k < length values
    → made ≡ before ++ map (part config) (take k values) → next ≡ part config (slice_index_or values k other)
    → now ≡ made ++ (next ∷ []) → now ≡ before ++ map (part config) (take (k + 1) values)
one_value part config values k other before made now next less so_far is e =
    rw (e, so_far, is) (append_assoc before (map (part config) (take k values))
    (part config (slice_index_or values k other) ∷ [])
    ∙ ap (λ rows. before ++ rows) (sym (ap (map (part config)) (take_more values k other less)
    ∙ map-append (part config) (take k values) (slice_index_or values k other ∷ []))))

-- one more configuration, with all its values
pub one_config : {V : Type 0} (part : Configuration → V → Configuration) (values : List V) (rows : List Configuration)
    (k count : ℕ) (config : Configuration) (made now : List Configuration) → k < length rows → length values ≤ count
    → made ≡ vary part values (take k rows) → config ≡ slice_index_or rows k config → now ≡ made
    ++ map (part config) (take count values) → now ≡ vary part values (take (k + 1) rows)
one_config part values rows k count config made now less all so_far is e =
    e ∙ (ap (λ rest. rest ++ map (part config) (take count values)) so_far
    ∙ (ap (λ some. vary part values (take k rows) ++ map (part config) some) (take_all count values all)
    ∙ sym (ap (vary part values) (take_more rows k config less ∙ ap (λ r. take k rows ++ (r ∷ [])) (sym is))
    ∙ (flat_map-append (λ r. map (part r) values) (take k rows) (config ∷ [])
    ∙ ap (λ rest. vary part values (take k rows) ++ rest) (append-nil (map (part config) values))))))

-- all configurations
pub all_rows : {V : Type 0} (part : Configuration → V → Configuration) (values : List V)
    (rows made : List Configuration) (k : ℕ) → made ≡ vary part values (take k rows) → length rows ≤ k
    → made ≡ vary part values rows
all_rows part values rows made k is all = is ∙ ap (vary part values) (take_all k rows all)
