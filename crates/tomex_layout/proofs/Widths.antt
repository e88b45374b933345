-- The widths of columns.
use Rattle.std.proofs.Common.{◌≡◌, arith, ℕ, max, List, [], ◌∷◌, ◌++◌, length}
use Rattle.tomex_layout.specs.Table.{longest, width_of}

-- without entries a column is as wide as its name
pub width_alone : (name : List ℕ) (entries : List (List ℕ)) (width : ℕ) → entries ≡ [] → width ≡ length name
    → width ≡ width_of (record { name = name; entries = entries })
unfolding width_of
width_alone name entries width none is = rw none (omega (arith, is))

longest_more : (texts : List (List ℕ)) (t : List ℕ) → longest (texts ++ t ∷ []) ≡ max (longest texts) (length t)
longest_more [] t = omega arith
longest_more (s ∷ texts) t = omega (arith, longest_more texts t)

-- with one more entry
pub width_more : (name : List ℕ) (entries after : List (List ℕ)) (t : List ℕ) (width long new : ℕ)
    → after ≡ entries ++ t ∷ []
    → width ≡ width_of (record { name = name; entries = entries }) → long ≡ length t → new ≡ max width long
    → new ≡ width_of (record { name = name; entries = after })
unfolding width_of
width_more name entries after t width long new more old are is =
    rw more (omega (arith, longest_more entries t, old, are, is))
