-- The rows of a build's functions, added up one after another.
use Rattle.std.proofs.Common.{◌≡◌, ◌<◌, ◌∙◌, arith, refl, sym, subst, ap, ℕ, ◌+◌, ◌^◌, true, cond}
use Rattle.std.proofs.Common.{List, [], ◌∷◌, ◌++◌, Option, Some, None, append-nil, append_assoc, get_or, length, take}
use Rattle.std.specs.Prelude.{sum_by}
use Rattle.std.proofs.lemmas.Cmp.{nat_list_eq_equiv}
use Rattle.std.proofs.lemmas.List.{get_or-map, length-map, take_more}
use Rattle.std.proofs.lemmas.List.Sums.{sum_by-append, sum_by-take-le}
use Rattle.tomex_functions.specs.declared.rows.Row.{Row}
use Rattle.tomex_functions.specs.declared.named.Named.{Named}
use Rattle.tomex_functions.specs.declared.shares.Share.{Share}
use Rattle.tomex_functions.specs.declared.shares.Side.{Side}
use Rattle.tomex_functions.specs.declared.shares.Side.TheVariants.{Old, New}
use Rattle.tomex_functions.specs.Changes.{entries_of, entry_of}
use Rattle.tomex_functions.specs.ChangesKept.{BothFit, IsNamed, after_share, both_after, change_at, with_share}
use Rattle.tomex_functions.specs.Shares.{Both, Entry, Fits, change_named, same_name, share_of}
use Rattle.tomex_functions.proofs.Adding.{change_yes, fits_some, kept_or_nothing, named_more}

-- before the first row there are no more entries
pub none_more : (side : Side) (both : Both) (named : Named) → IsNamed both named
    → IsNamed (both_after side [] both) named
none_more Old both named is =
    subst (λ (es : List Entry). IsNamed (record { old = es; new = both.new }) named) (sym (append-nil both.old)) is
none_more New both named is =
    subst (λ (es : List Entry). IsNamed (record { old = both.old; new = es }) named) (sym (append-nil both.new)) is

-- entries that come after others
both_more : (side : Side) (xs ys : List Entry) (both : Both)
    → both_after side ys (both_after side xs both) ≡ both_after side (xs ++ ys) both
both_more Old xs ys both = ap (λ (es : List Entry). record { old = es; new = both.new }) (append_assoc both.old xs ys)
both_more New xs ys both = ap (λ (es : List Entry). record { old = both.old; new = es }) (append_assoc both.new xs ys)

same_itself : (name : Option (List ℕ)) → same_name name name ≡ true
same_itself None = refl
same_itself (Some bs) = nat_list_eq_equiv.refl bs

-- the first of some entries fit where all do
first_fit : (xs ys : List Entry) (n : ℕ) → Fits (share_of (xs ++ ys)) → Fits (share_of (xs ++ take n ys))
first_fit xs ys n fits = record {
  calls = part (λ e. e.share.calls) fits.calls;
  steps = part (λ e. e.share.steps) fits.steps;
  cycles = part (λ e. e.share.cycles) fits.cycles;
}
  where
    part : (f : Entry → ℕ) → sum_by f (xs ++ ys) < 2 ^ 64 → sum_by f (xs ++ take n ys) < 2 ^ 64
    part f small =
        omega (arith, small, sum_by-append f xs ys, sum_by-append f xs (take n ys), sum_by-take-le f ys n)

old_fit : (side : Side) (es : List Entry) (n : ℕ) (both : Both) → Fits (share_of (both_after side es both).old)
    → Fits (share_of (both_after side (take n es) both).old)
old_fit Old es n both fits = first_fit both.old es n fits
old_fit New es n both fits = fits

new_fit : (side : Side) (es : List Entry) (n : ℕ) (both : Both) → Fits (share_of (both_after side es both).new)
    → Fits (share_of (both_after side (take n es) both).new)
new_fit Old es n both fits = fits
new_fit New es n both fits = first_fit both.new es n fits

-- a turn of the loop over rows
module _ (side : Side) (file : List ℕ) (rows : List Row) (i : ℕ) (d : Row) (within : i < length rows) where
  abbrev row : Row
  row = get_or rows i d

  next : take (i + 1) (entries_of file rows) ≡ take i (entries_of file rows) ++ entry_of file row ∷ []
  next =
      take_more (entries_of file rows) i (entry_of file row) (omega (arith, within, length-map rows (entry_of file)))
      ∙ ap (λ (e : Entry). take i (entries_of file rows) ++ e ∷ [])
      (get_or-map (entry_of file) rows i d (entry_of file row) within)

  after_next : (both : Both) → both_after side (take (i + 1) (entries_of file rows)) both
      ≡ both_after side (entry_of file row ∷ []) (both_after side (take i (entries_of file rows)) both)
  after_next both =
      ap (λ (xs : List Entry). both_after side xs both) next
      ∙ sym (both_more side (take i (entries_of file rows)) (entry_of file row ∷ []) both)

  module _ (name : Option (List ℕ)) (share : Share) (named : name ≡ (entry_of file row).name)
      (taken : share ≡ (entry_of file row).share) (old : Named) where
    -- what is added fits
    pub row_fits : (both : Both) → IsNamed (both_after side (take i (entries_of file rows)) both) old
        → Fits (share_of (both_after side (entries_of file rows) both).old)
        → Fits (share_of (both_after side (entries_of file rows) both).new)
        → BothFit (after_share side share (change_at old name))
    row_fits both kept old_small new_small =
        let e = entry_of file row in
        let before = both_after side (take i (entries_of file rows)) both in
        let after = both_after side (take (i + 1) (entries_of file rows)) both in
        let fit : BothFit (change_named after e.name) = record {
          old = fits_some e.name after.old (old_fit side (entries_of file rows) (i + 1) both old_small);
          new = fits_some e.name after.new (new_fit side (entries_of file rows) (i + 1) both new_small);
        } in
        let sums : change_named after e.name ≡ with_share side e.share (change_named before e.name) =
        ap (λ (b : Both). change_named b e.name) (after_next both)
        ∙ change_yes e.name e side before (same_itself e.name)
        in
        let same : change_named after e.name ≡ after_share side e.share (change_at old e.name) =
        sums ∙ ap (with_share side e.share)
        (sym (kept_or_nothing before e.name (change_at old e.name) (kept.changes e.name))) in
        rw (named, taken) (subst BothFit same fit)

    -- and one row more is added up
    pub row_more : (both : Both) (new : Named) → IsNamed (both_after side (take i (entries_of file rows)) both) old
        → ((q : Option (List ℕ)) → change_at new q
        ≡ cond (same_name q name) (Some (after_share side share (change_at old q))) (change_at old q))
        → IsNamed (both_after side (take (i + 1) (entries_of file rows)) both) new
    row_more both new kept step =
        subst (λ (b : Both). IsNamed b new) (sym (after_next both))
        (named_more side (both_after side (take i (entries_of file rows)) both) old new (entry_of file row) kept
        (rw (named, taken) at step))
