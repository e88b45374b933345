-- Files that are read one after another.
use Rattle.std.proofs.Common.{◌≡◌, ◌<◌, ◌+◌, ◌∙◌, ap, sym, ℕ, zero, suc, List, [], ◌∷◌, ◌++◌, length, map, take, get_or}
use Rattle.std.proofs.Common.{add-one, subst, arith}
use Rattle.std.proofs.lemmas.List.{length-map, get_or-map, map_push}
use Rattle.tomex_command.specs.Reading.{AreRead}
use Rattle.tomex_streams.specs.Files.{Known, IsRead}

one_more_suc : (file : List ℕ → Known) (names : List (List ℕ)) (k : ℕ) (name : List ℕ) (contents : List (List ℕ))
    (bytes : List ℕ)
    → k < length names → name ≡ get_or names k name → AreRead file (take k names) contents → IsRead (file name) bytes
    → AreRead file (take (suc k) names) (contents ++ bytes ∷ [])
one_more_suc file [] k name contents bytes inside is older read = absurd (omega (arith, inside))
one_more_suc file (n ∷ ns) zero name [] bytes inside is older read =
    (subst (λ (n : List ℕ). IsRead (file n) bytes) is read, tt)
one_more_suc file (n ∷ ns) zero name (c ∷ cs) bytes inside is older read = absurd older
one_more_suc file (n ∷ ns) (suc k) name [] bytes inside is older read = absurd older
one_more_suc file (n ∷ ns) (suc k) name (c ∷ cs) bytes inside is older read =
    (older.0, one_more_suc file ns k name cs bytes (omega (arith, inside)) is older.1 read)

-- the current file is one more
pub one_more : (file : List ℕ → Known) (names : List (List ℕ)) (k : ℕ) (name : List ℕ) (contents : List (List ℕ))
    (bytes : List ℕ)
    → k < length names → name ≡ get_or names k name → AreRead file (take k names) contents → IsRead (file name) bytes
    → AreRead file (take (k + 1) names) (contents ++ bytes ∷ [])
one_more file names k name contents bytes inside is older read =
    rw (add-one) (one_more_suc file names k name contents bytes inside is older read)

-- the same for lists that are seen by f and g
pub one_more_of : {X Y : Type 0} (f : X → List ℕ) (g : Y → List ℕ) (file : List ℕ → Known) (names : List X) (k : ℕ)
    {name : X} {shown : List ℕ} (contents : List Y) (value : Y) {grown : List Y} → k < length names
    → name ≡ get_or names k name → shown ≡ f name → AreRead file (take k (map f names)) (map g contents)
    → IsRead (file shown) (g value) → grown ≡ contents ++ value ∷ []
    → AreRead file (take (k + 1) (map f names)) (map g grown)
one_more_of f g file names k {name} contents value inside is shown_is older read grown_is =
    let there : k < length (map f names) = omega (arith, inside, length-map names f) in
    let same : f name ≡ get_or (map f names) k (f name) = ap f is ∙ sym (get_or-map f names k name (f name) inside) in
    let is_read : IsRead (file (f name)) (g value) = subst (λ (s : List ℕ). IsRead (file s) (g value)) shown_is read in
    rw (grown_is, map_push) (one_more file (map f names) k (f name) (map g contents) (g value) there same older is_read)
