-- What holds of each column of a table, whatever its columns are made of.
use Rattle.std.proofs.Common.{List, [], ◌∷◌, map, All}
use Rattle.std.specs.Prelude.{Bool, true, false, if◌then◌else◌}
use Rattle.std.specs.List.{flat_map}
use Rattle.std.proofs.lemmas.List.Elements.{All-append, All-cons, All-nil}

-- a column for each item
pub all_map : {X Y : Type 0} (P : Y → Type 0) (f : X → Y) (xs : List X) → ((x : X) → P (f x)) → All P (map f xs)
all_map P f [] each = All-nil P
all_map P f (x ∷ xs) each = All-cons P (f x) (map f xs) (each x) (all_map P f xs each)

-- some columns for each item
pub all_flat_map : {X Y : Type 0} (P : Y → Type 0) (f : X → List Y) (xs : List X) → ((x : X) → All P (f x))
    → All P (flat_map f xs)
all_flat_map P f [] each = All-nil P
all_flat_map P f (x ∷ xs) each = All-append P (f x) (flat_map f xs) (each x) (all_flat_map P f xs each)

-- columns that are there only in some tables
pub all_if : {Y : Type 0} (P : Y → Type 0) (ys : List Y) (b : Bool) → All P ys → All P (if b then ys else [])
all_if P ys true each = each
all_if P ys false each = All-nil P
