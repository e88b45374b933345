-- The choices that are worth adding, configuration by configuration and number by number.
use Rattle.std.proofs.Common.{◌≡◌, ℕ, suc, ◌+◌, ◌-◌, ◌<◌, append_assoc, arith, ap, sym, refl, ◌∙◌, List, [], ◌∷◌}
use Rattle.std.proofs.Common.{◌++◌, Bool}
use Rattle.std.proofs.Common.{cond, inl, inr, get_or, length, Option, Some, None}
use Rattle.std.specs.List.{filter, flat_map, list_any, range_with_len}
use Rattle.std.proofs.lemmas.Bool.{both_ways, cases_Bool, false_from_ne_true}
use Rattle.std.proofs.lemmas.List.Elements.{filter-append}
use Rattle.std.proofs.lemmas.Option.{slice_get_read}
use Rattle.tomex_config.specs.Configuration.{Configuration}
use Rattle.tomex_study.specs.Study.{DesignSpace}
use Rattle.tomex_config.specs.declared.part.Part.{Part}
use Rattle.tomex_config.specs.Parts.{part_at}
use Rattle.tomex_choices.specs.Additions.{additions, has_entry, useful}
use Rattle.tomex_choices.specs.Asking.{ListOf}
use Rattle.tomex_config.specs.Parts.{is_like}
use Rattle.tomex_config.specs.Parts.{firsts, most_of, same_latency}
use Rattle.tomex_choices.specs.NewMachines.{configurations_if, grown, lacking}
use Rattle.tomex_choices.specs.Passing.{Has}
use Rattle.tomex_choices.specs.Weighed.{AreWeighed, added_by, added_if}
use Rattle.tomex_config.specs.declared.likeness.Likeness.TheVariants.{Latency}
use Rattle.tomex_choices.specs.declared.new_machine.NewMachine.{NewMachine}
use Rattle.tomex_choices.specs.declared.weighing.WeighedList.{WeighedList}
use Rattle.tomex_choices.proofs.EnoughFrom.{any_at, any_from}

-- some of these have what some of those have, if they have the same members
pub same_members : {X : Type 0} (p : X → Bool) (xs ys : List X) → ((x : X) → Has xs x → Has ys x)
    → ((x : X) → Has ys x → Has xs x) → list_any p xs ≡ list_any p ys
same_members p xs ys to from = elim (cases_Bool (list_any p xs)) [
  | inl e ↦ let w = any_at p xs e in e ∙ sym (any_from p ys w.0 (to w.0 w.1) w.2)
  | inr e ↦ e ∙ sym (false_from_ne_true _ (λ t.
      let w = any_at p ys t in
      both_ways _ e (any_from p xs w.0 (from w.0 w.1) w.2)))
]

pub filter_flat_map : {X Y : Type 0} (p : Y → Bool) (f : X → List Y) (xs : List X)
    → filter p (flat_map f xs) ≡ flat_map (λ x. filter p (f x)) xs
filter_flat_map p f [] = refl
filter_flat_map p f (x ∷ xs) =
    filter-append p (f x) (flat_map f xs) ∙ ap (λ (ys : List _). filter p (f x) ++ ys) (filter_flat_map p f xs)

flat_map_agree : {X Y : Type 0} (f g : X → List Y) (xs : List X) → ((x : X) → f x ≡ g x)
    → flat_map f xs ≡ flat_map g xs
flat_map_agree f g [] same = refl
flat_map_agree f g (x ∷ xs) same = rw (same x, flat_map_agree f g xs same) refl

-- one more number
pub added_more : {X : Type 0} (f : ℕ → List X) (k n : ℕ) (before after whole : List X) → k < n
    → after ≡ before ++ f (k + 1) → before ++ flat_map f (range_with_len (k + 1) (n - k)) ≡ whole
    → after ++ flat_map f (range_with_len (k + 1 + 1) (n - (k + 1))) ≡ whole
added_more f k n before after whole low is so_far =
    let many : n - k ≡ suc (n - (k + 1)) = omega (arith, low) in
    let rest : List _ = flat_map f (range_with_len (k + 1 + 1) (n - (k + 1))) in
    ap (λ (xs : List _). xs ++ rest) is
    ∙ (append_assoc before (f (k + 1)) rest
    ∙ (ap (λ (m : ℕ). before ++ flat_map f (range_with_len (k + 1) m)) (sym many) ∙ so_far))

pub none_added : (rows : List Configuration) (part : Part) (machines : List NewMachine) (c : Configuration)
    (before : List Configuration) (most : ℕ) → most ≡ most_of part
    → before ++ flat_map (λ n. added_if part machines (grown rows part c n)) (range_with_len (0 + 1) (most - 0))
    ≡ before ++ added_by rows part machines c
unfolding added_by
none_added rows part machines c before most is =
    let first : 0 + 1 ≡ 1 = omega arith in
    let all : most - 0 ≡ most_of part = omega (arith, is) in
    ap (λ (k : ℕ). before ++ flat_map (λ n. added_if part machines (grown rows part c n)) (range_with_len k (most - 0)))
    first
    ∙ ap (λ (m : ℕ). before ++ flat_map (λ n. added_if part machines (grown rows part c n)) (range_with_len 1 m)) all

module _ (s : DesignSpace) (part : Part) (machines : List NewMachine)
    (to : (x : NewMachine) → Has machines x → Has (useful s part) x)
    (from : (x : NewMachine) → Has (useful s part) x → Has machines x) where
  abbrev is_added : Configuration → Bool
  is_added c = list_any (has_entry part c) (useful s part)

  one_added : (o : Option Configuration) → added_if part machines o ≡ filter is_added (configurations_if o)
  one_added None = refl
  one_added (Some c) = ap (λ (b : Bool). cond b (c ∷ []) []) (same_members (has_entry part c) machines (useful s part)
      to from)

  by_one : (c : Configuration) → added_by s.rows part machines c
      ≡ filter is_added (flat_map (λ n. configurations_if (grown s.rows part c n)) (range_with_len 1 (most_of part)))
  unfolding added_by
  by_one c =
      flat_map_agree (λ n. added_if part machines (grown s.rows part c n))
      (λ n. filter is_added (configurations_if (grown s.rows part c n))) (range_with_len 1 (most_of part))
      (λ n. one_added (grown s.rows part c n))
      ∙ sym (filter_flat_map is_added (λ n. configurations_if (grown s.rows part c n))
      (range_with_len 1 (most_of part)))

  -- by all configurations with a latency of their own
  pub all_added : flat_map (added_by s.rows part machines) (firsts (same_latency part) s.rows) ≡ additions s part
  unfolding additions lacking
  all_added =
      flat_map_agree (added_by s.rows part machines) _ (firsts (same_latency part) s.rows) by_one
      ∙ sym (filter_flat_map is_added _ (firsts (same_latency part) s.rows))

-- given what is known of each list
pub added_is : {A : Type 0} (s t : DesignSpace) (place : ℕ) (part : Part) (lists : List (WeighedList A))
    (l : WeighedList A) (e : ListOf) (machines : List NewMachine) (configs rows : List Configuration) → s ≡ t
    → AreWeighed s lists → place < 13 → part ≡ part_at place → l ≡ get_or lists place l
    → machines ≡ l.useful.items → rows ≡ s.rows → e.rows ≡ rows → e.place ≡ place
    → configs ≡ firsts (is_like (Latency part)) rows
    → flat_map (added_by e.rows (part_at e.place) machines) configs ≡ additions t (part_at place)
added_is s t place part lists l e machines configs rows same are low its at is rows_are e_rows e_place firsts_are =
    let own = part_at place in
    let w = are.each place l
    (slice_get_read lists (length lists) place l refl (let n = are.count in omega (arith, n, low)) at) in
    ap (λ (rs : List Configuration). flat_map (added_by rs (part_at e.place) machines) configs) (e_rows ∙ rows_are)
    ∙ (ap (λ (k : ℕ). flat_map (added_by s.rows (part_at k) machines) configs) e_place
    ∙ (ap (λ (xs : List NewMachine). flat_map (added_by s.rows own xs) configs) is
    ∙ (ap (flat_map (added_by s.rows own l.useful.items))
    (firsts_are
    ∙ (ap (λ (p : Part). firsts (is_like (Latency p)) rows) its
    ∙ ap (firsts (is_like (Latency own))) rows_are))
    ∙ (all_added s own l.useful.items w.only w.all
    ∙ ap (λ (z : DesignSpace). additions z own) same))))
