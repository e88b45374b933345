-- Names, their sums, their order and their fields, of some functions, computed by the definitions themselves.
use Rattle.std.proofs.Common.{◌≡◌, refl, ℕ, true, false, List, [], ◌∷◌, Option, Some, None, codes, map}
use Rattle.std.specs.Fmt.{digits}
use Rattle.tomex_layout.specs.Differences.{signed_difference}
use Rattle.tomex_functions.specs.Changes.{change_fields, nameless}
use Rattle.tomex_functions.specs.ChangeLaws.{records_of, sum_of_changes}
use Rattle.tomex_functions.specs.Shares.{Both, Entry, change_named, goes_before, has_name, no_entries, no_share}
use Rattle.tomex_functions.specs.declared.shares.Change.{Change}
use Rattle.tomex_functions.specs.declared.shares.Share.{Share}

abbrev share : ℕ → ℕ → ℕ → Share
share calls steps cycles = record { calls = calls; steps = steps; cycles = cycles }

abbrev change : Share → Share → Change
change old new = record { old = old; new = new }

abbrev entry : Option (List ℕ) → Share → Entry
entry name share = record { name = name; share = share }

-- a build with two static functions of one name and steps without a function, and one in which a function is gone,
-- another is there, and all steps have one
abbrev both : Both
both = record {
  old =
      entry (Some (codes "main")) (share 1 10 100) ∷ entry (Some (codes "swap")) (share 2 8 40)
      ∷ entry (Some (codes "swap")) (share 1 4 25) ∷ entry (Some (codes "gone")) (share 1 2 7)
      ∷ entry None (share 0 3 5) ∷ [];
  new =
      entry (Some (codes "swap")) (share 2 8 95) ∷ entry (Some (codes "main")) (share 1 10 93)
      ∷ entry (Some (codes "fresh")) (share 1 1 2) ∷ [];
}

-- functions of one name are summed, one that isn't there has nothing
sums : map (λ name. change_named both (Some name)) (codes "swap" ∷ codes "gone" ∷ codes "fresh" ∷ [])
    ≡ change (share 3 12 65) (share 2 8 95) ∷ change (share 1 2 7) no_share ∷ change no_share (share 1 1 2) ∷ []
sums = refl

-- steps without a function have no name, not even `-`
no_function : change_named both None ≡ change (share 0 3 5) no_share
no_function = refl

dash : has_name both (Some (codes "-")) ≡ false
dash = refl

nameless_none : nameless (record { old = both.new; new = both.new }) ≡ None
nameless_none = refl

-- the greater difference either way first, then the lesser name
more_first : goes_before (change_named both (Some (codes "swap"))) (codes "swap")
    (change_named both (Some (codes "main"))) (codes "main") ≡ true
more_first = refl

fewer_first : goes_before (change_named both (Some (codes "main"))) (codes "main")
    (change_named both (Some (codes "fresh"))) (codes "fresh") ≡ true
fewer_first = refl

equal_first : goes_before (change_named both (Some (codes "gone"))) (codes "gone")
    (change_named both (Some (codes "main"))) (codes "main") ≡ true
equal_first = refl

equal_last : goes_before (change_named both (Some (codes "main"))) (codes "main")
    (change_named both (Some (codes "gone"))) (codes "gone") ≡ false
equal_last = refl

-- the columns add up
all : sum_of_changes (records_of both (change (share 0 0 4) (share 0 0 1))
    (codes "swap" ∷ codes "gone" ∷ codes "main" ∷ codes "fresh" ∷ []))
    ≡ change (share 5 27 181) (share 4 19 191)
all = refl

-- of no functions nothing but the drain is left
nothing : records_of no_entries (change (share 0 0 4) (share 0 0 1)) [] ≡ change (share 0 0 4) (share 0 0 1) ∷ []
nothing = refl

-- the fields of three functions of two builds of a filter, on a machine with four alu stations
slower : change_fields (codes "product") (change (share 1 1924 3484) (share 1 1751 3717))
    ≡ codes "product" ∷ codes "1" ∷ codes "1" ∷ codes "1924" ∷ codes "1751" ∷ codes "3484" ∷ codes "3717"
    ∷ codes "+233" ∷ []
unfolding signed_difference digits
slower = refl

faster : change_fields (codes "fir") (change (share 1 1645 3015) (share 1 1645 2971))
    ≡ codes "fir" ∷ codes "1" ∷ codes "1" ∷ codes "1645" ∷ codes "1645" ∷ codes "3015" ∷ codes "2971" ∷ codes "-44"
    ∷ []
unfolding signed_difference digits
faster = refl

as_fast : change_fields (codes "drain") (change no_share no_share)
    ≡ codes "drain" ∷ codes "0" ∷ codes "0" ∷ codes "0" ∷ codes "0" ∷ codes "0" ∷ codes "0" ∷ codes "0" ∷ []
unfolding signed_difference digits
as_fast = refl
