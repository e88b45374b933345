-- The names that were kept, in the order of the report.
use Rattle.std.proofs.Common.{◌≡◌, ◌<◌, ◌∙◌, arith, refl, sym, ap, ap₂, ℕ, ◌+◌, Bool, true, false, cond}
use Rattle.std.proofs.Common.{◌||◌, List, [], ◌∷◌, Option, Some, None, get_or, is_some, length, map, String}
use Rattle.std.specs.Prelude.{All, IsPermutation, string_bytes}
use Rattle.std.specs.BTreeMap.{IsOrdered, get_by_text, is_at, keys}
use Rattle.std.specs.Cmp.Lexicographic.{slice_cmp}
use Rattle.std.specs.Global.{Global}
use Rattle.std.specs.List.{AllByRecursion, IsDistinct, list_any}
use Rattle.std.specs.Map.{keys_of}
use Rattle.std.specs.Ordering.{eq_by_cmp, nat_cmp}
use Rattle.std.specs.Str.{bytes_eq}
use Rattle.std.specs.String.{string_cmp, string_cmp_total}
use Rattle.std.proofs.lemmas.Cmp.{nat_list_eq_equiv}
use Rattle.std.proofs.lemmas.List.{get_or-map, length-map}
use Rattle.std.proofs.lemmas.List.Elements.{All-map}
use Rattle.std.proofs.lemmas.List.Sorted.{All-permutation, IsPermutation-map, list_any-IsPermutation}
use Rattle.std.proofs.lemmas.Map.Keys.{IsDistinct-IsPermutation, IsDistinct-from_sorted}
use Rattle.std.proofs.lemmas.Map.Made.{is_some-lookup}
use Rattle.std.proofs.lemmas.Map.Text.{is_eq-slice_cmp}
use Rattle.std.proofs.lemmas.Map.Views.{All-found}
use Rattle.std.proofs.lemmas.Option.{cond_some}
use Rattle.tomex_functions.specs.declared.named.Named.{Named}
use Rattle.tomex_functions.specs.declared.named.NamedChange.{NamedChange}
use Rattle.tomex_functions.specs.declared.shares.Change.{Change}
use Rattle.tomex_functions.specs.ChangesKept.{AreInOrder, IsNamed, named_change}
use Rattle.tomex_functions.specs.Shares.{AreNames, Both, change_named, goes_before, has_name}

abbrev pub shown : NamedChange → List ℕ
shown c = string_bytes c.name

key_bytes : String Global × Change → List ℕ
key_bytes e = string_bytes e.0

-- keys that no two look-ups confuse have different bytes
distinct_bytes : (es : List (String Global × Change)) → IsDistinct (eq_by_cmp string_cmp) (keys_of es)
    → IsDistinct bytes_eq (map (λ e. string_bytes e.0) es)
unfolding IsDistinct
distinct_bytes [] d = tt
distinct_bytes (e ∷ es) d = (apart es d.0, distinct_bytes es d.1)
  where
    apart : (rest : List (String Global × Change))
        → AllByRecursion (λ y. eq_by_cmp string_cmp e.0 y ≡ false) (keys_of rest)
        → AllByRecursion (λ y. bytes_eq (string_bytes e.0) y ≡ false) (map (λ e. string_bytes e.0) rest)
    apart [] all = tt
    apart (f ∷ rest) all =
        (sym (is_eq-slice_cmp (string_bytes e.0) (string_bytes f.0)) ∙ all.0, apart rest all.1)

-- a test of names is one of their bytes
same_test : (name : List ℕ) (es : List (String Global × Change))
    → list_any (is_at (λ k. slice_cmp nat_cmp name (string_bytes k))) (keys_of es)
    ≡ list_any (bytes_eq name) (map (λ e. string_bytes e.0) es)
same_test name [] = refl
same_test name (e ∷ es) = ap₂ (λ a b. a || b) (is_eq-slice_cmp name (string_bytes e.0)) (same_test name es)

shown_names : (es : List (String Global × Change))
    → map shown (map named_change es) ≡ map (λ e. string_bytes e.0) es
shown_names [] = refl
shown_names (e ∷ es) = ap (λ (xs : List (List ℕ)). string_bytes e.0 ∷ xs) (shown_names es)

some_if : (b : Bool) (c : Change) → is_some (cond b (Some c) None) ≡ b
some_if true c = refl
some_if false c = refl

module _ (both : Both) (named : Named) (is : IsNamed both named) (ordered : IsOrdered string_cmp named.by_name)
    (items : List NamedChange) (moved : IsPermutation (map named_change named.by_name.entries) items) where
  names_moved : IsPermutation (map (λ e. string_bytes e.0) named.by_name.entries) (map shown items)
  names_moved = rw shown_names at (IsPermutation-map shown (map named_change named.by_name.entries) items moved)

  once : IsDistinct bytes_eq (map shown items)
  once =
      IsDistinct-IsPermutation bytes_eq nat_list_eq_equiv.symm _ _ names_moved
      (distinct_bytes named.by_name.entries
      (IsDistinct-from_sorted string_cmp (keys named.by_name) ordered))

  those : (name : List ℕ) → list_any (bytes_eq name) (map shown items) ≡ has_name both (Some name)
  those name =
      sym (list_any-IsPermutation (bytes_eq name) _ _ names_moved)
      ∙ (sym (same_test name named.by_name.entries)
      ∙ (sym (is_some-lookup (is_at (λ k. slice_cmp nat_cmp name (string_bytes k))) named.by_name.entries)
      ∙ (ap (λ (o : Option Change). is_some o) (is.changes (Some name))
      ∙ some_if (has_name both (Some name)) (change_named both (Some name)))))

  -- what is kept of an entry's name is what its functions take
  entry_is : (e : String Global × Change) → get_by_text named.by_name (string_bytes e.0) ≡ Some e.1
      → e.1 ≡ change_named both (Some (string_bytes e.0))
  entry_is e found =
      sym (cond_some (has_name both (Some (string_bytes e.0))) (change_named both (Some (string_bytes e.0))) e.1
      (sym (is.changes (Some (string_bytes e.0))) ∙ found)).1

  IsChange : NamedChange → Type 0
  IsChange c = c.change ≡ change_named both (Some (string_bytes c.name))

  pub changes_are : All (λ c. c.change ≡ change_named both (Some (string_bytes c.name))) items
  changes_are =
      All-permutation (λ (c : NamedChange). c.change ≡ change_named both (Some (string_bytes c.name))) _ items moved
      (All-map (λ (c : NamedChange). c.change ≡ change_named both (Some (string_bytes c.name))) named_change
      named.by_name.entries (λ k d l. entry_is (get_or named.by_name.entries k d)
      (All-found string_cmp_total named.by_name ordered k d l)))

  module _ (order : AreInOrder items) where
    names_order : (first : NamedChange) (k : ℕ) (d : List ℕ) → k + 1 < length (map shown items)
        → goes_before (change_named both (Some (get_or (map shown items) (k + 1) d)))
        (get_or (map shown items) (k + 1) d)
        (change_named both (Some (get_or (map shown items) k d))) (get_or (map shown items) k d) ≡ false
    names_order first k d l =
        let within : k + 1 < length items = omega (arith, l, length-map items shown) in
        let a = changes_are (k + 1) first within in
        let b = changes_are k first (omega arith) in
        rw (get_or-map shown items (k + 1) first d within, get_or-map shown items k first d (omega arith))
        (rw (a, b) at (order k first within))

    pub are_names : AreNames both (map shown items)
    are_names = record {
      once = once;
      those = those;
      order = λ k d l. by_first items refl k d l;
    }
      where
        by_first : (xs : List NamedChange) → items ≡ xs → (k : ℕ) (d : List ℕ) → k + 1 < length (map shown items)
            → goes_before (change_named both (Some (get_or (map shown items) (k + 1) d)))
            (get_or (map shown items) (k + 1) d)
            (change_named both (Some (get_or (map shown items) k d))) (get_or (map shown items) k d) ≡ false
        by_first [] e k d l = absurd (omega (arith, l, length-map items shown, ap length e))
        by_first (x ∷ xs) e k d l = names_order x k d l
