-- A name that is cut after some bytes, of which one more is looked at.
use Rattle.std.proofs.Common.{◌≡◌, ℕ, zero, suc, ◌+◌, ◌<◌, ◌≤◌, arith, refl, sym, ap, ◌∙◌, min, List, [], ◌∷◌, ◌++◌}
use Rattle.std.proofs.Common.{length, take, codes}
use Rattle.std.specs.Prelude.{nat_lt, if◌then◌else◌}
use Rattle.std.proofs.lemmas.Bool.{le-ltb, lt-ltb}
use Rattle.std.proofs.lemmas.List.{append-nil, length-take, take_min}
use Rattle.tomex_functions.specs.ShownNames.{shown_bytes}

take_less : (m n : ℕ) (bs : List ℕ) → m ≤ n → take m (take n bs) ≡ take m bs
take_less zero n bs l = refl
take_less (suc m) zero bs l = absurd (omega arith)
take_less (suc m) (suc n) [] l = refl
take_less (suc m) (suc n) (b ∷ bs) l = ap (λ (z : List ℕ). b ∷ z) (take_less m n bs (omega arith))

first_is : (m k : ℕ) (full name : List ℕ) → name ≡ take (m + 1) full → k ≡ min (length name) m
    → take k name ≡ take m full
first_is m k full name e f =
    let g : k ≡ min m (length name) = omega arith in
    ap (λ (z : ℕ). take z name) g
    ∙ (take_min m name ∙ (ap (take m) e ∙ take_less m (m + 1) full (omega arith)))

pub cut_long : (m k : ℕ) (full name : List ℕ) → name ≡ take (m + 1) full → k ≡ min (length name) m → m < length name
    → shown_bytes (take k name) ++ codes ".."
    ≡ shown_bytes (take m full) ++ (if nat_lt m (length full) then codes ".." else [])
cut_long m k full name e f l =
    let n : length name ≡ min (m + 1) (length full) = ap length e ∙ length-take (m + 1) full in
    let h : m < length full = omega arith in
    rw (first_is m k full name e f, lt-ltb m (length full) h) refl

pub cut_short : (m k : ℕ) (full name : List ℕ) → name ≡ take (m + 1) full → k ≡ min (length name) m → length name ≤ m
    → shown_bytes (take k name) ≡ shown_bytes (take m full) ++ (if nat_lt m (length full) then codes ".." else [])
cut_short m k full name e f l =
    let n : length name ≡ min (m + 1) (length full) = ap length e ∙ length-take (m + 1) full in
    let h : length full ≤ m = omega arith in
    rw (first_is m k full name e f, le-ltb m (length full) h) (sym (append-nil _))
