-- One more line.
use Rattle.std.proofs.Common.{ℕ, ◌+◌, ◌≡◌, ◌∙◌, sym, ap, arith, List, [], ◌∷◌, ◌++◌, get_or, map, take_all}
use Rattle.std.specs.List.{range_with_len}
use Rattle.std.proofs.lemmas.List.{take_more}
use Rattle.std.proofs.lemmas.List.FromFn.{get_or-map-range_with_len, length-map-range_with_len}
use Rattle.std.proofs.lemmas.List.FromFn.{take-map-range_with_len}

pub one_more : {X : Type 0} (f : ℕ → X) (n : ℕ)
    → map f (range_with_len 0 (n + 1)) ≡ map f (range_with_len 0 n) ++ f n ∷ []
one_more f n =
    let many = length-map-range_with_len f 0 (n + 1) in
    sym (take_all (n + 1) (map f (range_with_len 0 (n + 1))) (omega (arith, many)))
    ∙ take_more (map f (range_with_len 0 (n + 1))) n (f n) (omega (arith, many))
    ∙ ap (λ (ys : List _). ys ++ get_or (map f (range_with_len 0 (n + 1))) n (f n) ∷ [])
    (take-map-range_with_len f 0 (n + 1) n (omega arith))
    ∙ ap (λ (y : _). map f (range_with_len 0 n) ++ y ∷ [])
    (get_or-map-range_with_len f 0 (n + 1) n n (f n) (omega arith) (omega arith))
