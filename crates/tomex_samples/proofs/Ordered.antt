-- Numbers in order, one after another.
use Rattle.std.proofs.Common.{◌≡◌, ℕ, ◌+◌, List, [], ◌∷◌, ◌++◌, ◌∙◌, ap, arith, sym, Bool, true, false}
use Rattle.std.proofs.Common.{append-nil}
use Rattle.std.proofs.lemmas.List.{map-id}
use Rattle.std.proofs.lemmas.List.FromFn.{filter_of_map_range_with_len_more}
use Rattle.std.specs.List.{list_any, range_with_len}
use Rattle.std.specs.Prelude.{◌==◌, filter, if◌then◌else◌}
use Rattle.tomex_samples.specs.Leaders.{in_order}

pub order_more : (n : ℕ) (ks : List ℕ)
    → in_order (n + 1) ks ≡ in_order n ks ++ (if list_any (λ j. j == n) ks then n ∷ [] else [])
order_more n ks =
    let zero_and : 0 + n ≡ n = omega arith in
    ap (filter (λ k. list_any (λ j. j == k) ks)) (sym (map-id (range_with_len 0 (n + 1))))
    ∙ (filter_of_map_range_with_len_more (λ k. list_any (λ j. j == k) ks) (λ k. k) 0 n n zero_and
    ∙ ap (λ rs. filter (λ k. list_any (λ j. j == k) ks) rs ++ (if list_any (λ j. j == n) ks then n ∷ [] else []))
    (map-id (range_with_len 0 n)))

pub in_order_yes : (n : ℕ) (ks so_far : List ℕ) → so_far ≡ in_order n ks → list_any (λ j. j == n) ks ≡ true
    → so_far ++ n ∷ [] ≡ in_order (n + 1) ks
in_order_yes n ks so_far is there =
    ap (λ xs. xs ++ n ∷ []) is
    ∙ sym (order_more n ks ∙ ap (λ (b : Bool). in_order n ks ++ (if b then n ∷ [] else [])) there)

pub in_order_no : (n : ℕ) (ks so_far : List ℕ) → so_far ≡ in_order n ks → list_any (λ j. j == n) ks ≡ false
    → so_far ≡ in_order (n + 1) ks
in_order_no n ks so_far is absent =
    is ∙ sym (order_more n ks ∙ (ap (λ (b : Bool). in_order n ks ++ (if b then n ∷ [] else [])) absent
    ∙ append-nil (in_order n ks)))
