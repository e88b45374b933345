-- The groups of a list share all rows.
use Rattle.std.proofs.Common.{◌≡◌, ◌∙◌, ap, arith, refl, sym, ℕ, suc, ◌+◌, ◌-◌, ◌<◌, inl, inr, Bool}
use Rattle.std.proofs.Common.{true, false}
use Rattle.std.proofs.Common.{cond, List, [], ◌∷◌, Option, Some, None, get_or, length, slice_get}
use Rattle.std.specs.Prelude.{count_by, sum_by}
use Rattle.std.specs.List.{Contains, filter}
use Rattle.std.proofs.lemmas.Bool.{cases_Bool}
use Rattle.std.proofs.lemmas.List.Elements.{All-contains}
use Rattle.std.proofs.lemmas.List.Sums.{sum_by-cons}
use Rattle.std.proofs.lemmas.Option.{get_or_from_slice_get, slice_get_within}
use Rattle.tomex_config.specs.Configuration.{Configuration, plain}
use Rattle.tomex_study.specs.Program.{Workload}
use Rattle.tomex_study.specs.Study.{DesignSpace, config_at}
use Rattle.tomex_config.specs.declared.part.Part.{Part}
use Rattle.tomex_compare.specs.GroupTable.{best, worst}
use Rattle.tomex_compare.specs.Groups.{entries_of, shows_same, with_entry}
use Rattle.tomex_compare.specs.Laws.{BestIsMet, CountsAddUp, SomeGroup, WorstIsMet}
use Rattle.tomex_compare.specs.Pairs.{pairs_of}
use Rattle.tomex_compare.specs.declared.pairs.Pair.{Pair}
use Rattle.tomex_compare.proofs.Comparable.{pairs_within}
use Rattle.tomex_compare.proofs.Counts.{counts_share}
use Rattle.tomex_compare.proofs.Firsts.{one_like}
use Rattle.tomex_compare.proofs.Likeness.{entries_alike}
use Rattle.tomex_compare.proofs.Sorting.{Has, has_at, has_contains}

module _ (s : DesignSpace) (old new : Workload) (part : Part) where
  -- each row shows one of the entries
  one_entry : (row : ℕ) → row < length s.rows
      → sum_by (λ c. cond (shows_same part c (config_at s row)) 1 0) (entries_of part s.rows) ≡ 1
  one_entry row within =
      one_like (shows_same part) (entries_alike part) (entries_of part) refl (λ x xs. refl) s.rows (config_at s row)
      (has_at s.rows row plain within)

  counts : (counted : Pair → Bool)
      → sum_by (λ c. count_by counted (with_entry s (pairs_of s old new) part c)) (entries_of part s.rows)
      ≡ count_by counted (pairs_of s old new)
  counts counted =
      counts_share (λ c (p : Pair). shows_same part c (config_at s p.row)) (entries_of part s.rows) counted
      (pairs_of s old new)
      (λ k d l. one_entry (get_or (pairs_of s old new) k d).row (pairs_within s old new k d l))

  -- so there is one
  some_entry : (row : ℕ) (cs : List Configuration)
      → sum_by (λ c. cond (shows_same part c (config_at s row)) 1 0) cs ≡ 1
      → (c : Configuration) × Has cs c × (shows_same part c (config_at s row) ≡ true)
  some_entry row [] once = absurd (omega (arith, once))
  some_entry row (c ∷ cs) once = elim (cases_Bool (shows_same part c (config_at s row))) [
    | inl e ↦ (c, inl refl, e)
    | inr e ↦
        let rest = some_entry row cs (less (shows_same part c (config_at s row)) _ _ e
        (sum_by-cons (λ d. cond (shows_same part d (config_at s row)) 1 0) c cs) once) in
        (rest.0, inr rest.1, rest.2)
  ]
    where
      less : (b : Bool) (n m : ℕ) → b ≡ false → n ≡ cond b 1 0 + m → n ≡ 1 → m ≡ 1
      less b n m e f g = let h : n ≡ 0 + m = rw e at f in omega (arith, h, g)

  group_of : (p : Pair) → Contains (pairs_of s old new) p → (Of : List Pair → Type 0)
      → ((c : Configuration) → shows_same part c (config_at s p.row) ≡ true
      → Of (with_entry s (pairs_of s old new) part c)) → SomeGroup s old new part Of
  group_of p there Of so =
      let within = All-contains (λ q. q.row < length s.rows) (pairs_of s old new) p (pairs_within s old new) there in
      let found = some_entry p.row (entries_of part s.rows) (one_entry p.row within) in
      record {
        entry = found.0;
        one = has_contains (entries_of part s.rows) found.0 found.1;
        has = so found.0 found.2;
      }

-- the first item of a list and the last are the first and the last of those that pass, if they do

first_kept : {X : Type 0} (q : X → Bool) (xs : List X) (x : X) → slice_get xs 0 ≡ Some x → q x ≡ true
    → slice_get (filter q xs) 0 ≡ Some x
first_kept q [] x is e = absurd (cc)
first_kept q (y ∷ ys) x is e =
    let same : y ≡ x = cc in
    rw (ap q same ∙ e) is

-- the last item, by recursion
abbrev last_of : {X : Type 0} → List X → Option X
last_of [] = None
last_of (x ∷ []) = Some x
last_of (x ∷ y ∷ ys) = last_of (y ∷ ys)

last_is : {X : Type 0} (xs : List X) → slice_get xs (length xs - 1) ≡ last_of xs
last_is [] = refl
last_is (x ∷ []) = refl
last_is (x ∷ y ∷ ys) =
    let e : suc (suc (length ys)) - 1 ≡ suc (suc (length ys) - 1) = omega arith in
    ap (λ (n : ℕ). slice_get (x ∷ y ∷ ys) n) e ∙ last_is (y ∷ ys)

last_after : {X : Type 0} (x y : X) (ys : List X) → last_of ys ≡ Some y → last_of (x ∷ ys) ≡ Some y
last_after x y [] is = absurd (cc)
last_after x y (z ∷ zs) is = is

last_kept : {X : Type 0} (q : X → Bool) (xs : List X) (x : X) → last_of xs ≡ Some x → q x ≡ true
    → last_of (filter q xs) ≡ Some x
last_kept q [] x is e = absurd (cc)
last_kept q (y ∷ []) x is e =
    let same : y ≡ x = cc in
    rw (ap q same ∙ e) is
last_kept q (y ∷ z ∷ zs) x is e = go (q y) (last_kept q (z ∷ zs) x is e)
  where
    go : (b : Bool) → last_of (filter q (z ∷ zs)) ≡ Some x
        → last_of (cond b (y ∷ filter q (z ∷ zs)) (filter q (z ∷ zs))) ≡ Some x
    go true rest = last_after y x (filter q (z ∷ zs)) rest
    go false rest = rest

pub counts_add_up : CountsAddUp
counts_add_up s old new part counted is = counts s old new part counted

there : (ps : List Pair) (k : ℕ) (p : Pair) → slice_get ps k ≡ Some p → Contains ps p
there ps k p is = (k, slice_get_within ps k p is, get_or_from_slice_get ps k p p is)

pub best_is_met : BestIsMet
best_is_met s old new part b is first =
    group_of s old new part b (there (pairs_of s old new) 0 b first) (λ pairs. best pairs ≡ Some b)
    (λ c same. first_kept (λ p. shows_same part c (config_at s p.row)) (pairs_of s old new) b first same)

pub worst_is_met : WorstIsMet
worst_is_met s old new part w is last =
    group_of s old new part w (there (pairs_of s old new) (length (pairs_of s old new) - 1) w last)
    (λ pairs. worst pairs ≡ Some w)
    (λ c same. last_is (with_entry s (pairs_of s old new) part c)
    ∙ last_kept (λ p. shows_same part c (config_at s p.row)) (pairs_of s old new) w
    (sym (last_is (pairs_of s old new)) ∙ last) same)
