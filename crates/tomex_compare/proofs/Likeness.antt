-- Configurations that show the same entry of a list, and the entries that are found one by one.
use Rattle.std.proofs.Common.{◌≡◌, ◌∙◌, ap, arith, refl, ℕ, suc, ◌+◌, ◌<◌, ◌≤◌, ◌==◌, ◌&&◌, Bool, true, false, not}
use Rattle.std.proofs.Common.{List, [], ◌∷◌}
use Rattle.std.proofs.Common.{◌++◌, add-one, drop, drop-cons, get_or, length, sym}
use Rattle.std.specs.List.{filter, list_any}
use Rattle.std.proofs.lemmas.Bool.Decides.{nat_tests}
use Rattle.std.proofs.lemmas.List.{append-nil, drop_all}
use Rattle.tomex_config.specs.Configuration.{Configuration, option_of}
use Rattle.tomex_config.specs.Parts.{count_of}
use Rattle.tomex_config.specs.declared.part.Part.{Part}
use Rattle.tomex_config.specs.declared.part.Part.TheVariants.{Stations, Units, Buses, Width}
use Rattle.tomex_compare.specs.Groups.{entries_of, shows_same}
use Rattle.tomex_compare.proofs.Firsts.{IsLikeness, seen, unseen}

both : (m n : ℕ) (p q : ℕ) → (m == n && p == q) ≡ true → (m ≡ n) × (p ≡ q)
both m n p q e = grind (arith, nat_tests)

both_so : (m n : ℕ) (p q : ℕ) → m ≡ n → p ≡ q → (m == n && p == q) ≡ true
both_so m n p q e f = grind (arith, nat_tests)

numbers_alike : (f : Configuration → ℕ) → IsLikeness (λ a b. f a == f b)
numbers_alike f = record {
  own = λ a. grind (arith, nat_tests);
  chain = λ a b c p q. grind (arith, nat_tests);
  turned = λ a b p. grind (arith, nat_tests);
}

options_alike : (f h : Configuration → ℕ) → IsLikeness (λ a b. f a == f b && h a == h b)
options_alike f h = record {
  own = λ a. both_so (f a) (f a) (h a) (h a) refl refl;
  chain = λ a b c p q.
      let x = both (f a) (f b) (h a) (h b) p in
      let y = both (f b) (f c) (h b) (h c) q in
      both_so (f a) (f c) (h a) (h c) (x.0 ∙ y.0) (x.1 ∙ y.1);
  turned = λ a b p.
      let x = both (f a) (f b) (h a) (h b) p in
      both_so (f b) (f a) (h b) (h a) (sym x.0) (sym x.1);
}

pub entries_alike : (part : Part) → IsLikeness (shows_same part)
entries_alike (Stations pool) = numbers_alike (λ c. count_of c (Stations pool))
entries_alike (Units unit) = options_alike (λ c. (option_of c unit).units) (λ c. (option_of c unit).latency)
entries_alike Buses = numbers_alike (λ c. count_of c Buses)
entries_alike Width = numbers_alike (λ c. count_of c Width)

-- the entries of rows to come that none of those found shows
abbrev pub new_entries : Part → List Configuration → List Configuration → List Configuration
new_entries part found rows = filter (λ c. not (list_any (λ e. shows_same part e c) found)) (entries_of part rows)

pub all_new : (part : Part) (rows : List Configuration) → new_entries part [] rows ≡ entries_of part rows
all_new part rows = nothing (entries_of part rows)
  where
    nothing : (cs : List Configuration) → filter (λ c. not false) cs ≡ cs
    nothing [] = refl
    nothing (c ∷ cs) = ap (λ (ds : List Configuration). c ∷ ds) (nothing cs)

module _ (part : Part) (rows found : List Configuration) (k : ℕ) (c : Configuration) (within : k < length rows)
    (is : c ≡ get_or rows k c) (so_far : found ++ new_entries part found (drop k rows) ≡ entries_of part rows) where
  here : drop k rows ≡ c ∷ drop (k + 1) rows
  here = rw add-one (drop-cons rows k c within ∙ ap (λ (z : Configuration). z ∷ drop (suc k) rows) (sym is))

  -- a row whose entry is found already
  pub old_entry : (b : Bool) → b ≡ list_any (λ e. shows_same part e c) found → b ≡ true
      → found ++ new_entries part found (drop (k + 1) rows) ≡ entries_of part rows
  old_entry b tested h =
      sym (seen (shows_same part) (entries_alike part) found c (entries_of part (drop (k + 1) rows)) found
      (sym tested ∙ h))
      ∙ (ap (λ (cs : List Configuration). found ++ new_entries part found cs) (sym here) ∙ so_far)

  -- a new entry
  pub new_entry : (b : Bool) → b ≡ list_any (λ e. shows_same part e c) found → b ≡ false
      → (after : List Configuration) → after ≡ found ++ c ∷ []
      → after ++ new_entries part after (drop (k + 1) rows) ≡ entries_of part rows
  new_entry b tested h after grown = rw grown
      (sym (unseen (shows_same part) (entries_alike part) found c (entries_of part (drop (k + 1) rows))
      (sym tested ∙ h))
      ∙ (ap (λ (cs : List Configuration). found ++ new_entries part found cs) (sym here) ∙ so_far))

pub all_found : (part : Part) (rows found : List Configuration) (k : ℕ) → length rows ≤ k
    → found ++ new_entries part found (drop k rows) ≡ entries_of part rows → found ≡ entries_of part rows
all_found part rows found k over so_far =
    sym (append-nil found)
    ∙ (ap (λ (cs : List Configuration). found ++ new_entries part found cs) (sym (drop_all k rows over)) ∙ so_far)
