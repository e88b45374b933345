-- Each column of a report adds up to what its run takes.
use Rattle.std.proofs.Common.{◌≡◌, ◌∙◌, arith, refl, sym, ap, ℕ, ◌+◌, ◌-◌, Bool, true, false, ◌||◌, List, [], ◌∷◌}
use Rattle.std.proofs.Common.{◌++◌, Option, Some, None, map}
use Rattle.std.specs.Prelude.{sum_by}
use Rattle.std.proofs.Math.Bool.{or-true}
use Rattle.std.proofs.lemmas.List.Sums.{sum_by-append, sum_by-cons}
use Rattle.tomex_timing.specs.Needs.{drain}
use Rattle.tomex_symbols.specs.Symbols.{symbols_of}
use Rattle.tomex_run_views.proofs.Cycles.{cycles_with_drain}
use Rattle.tomex_functions.specs.declared.shares.Change.{Change}
use Rattle.tomex_functions.specs.Changes.{nameless}
use Rattle.tomex_functions.specs.ChangeLaws.{ColumnsAddUp, DifferencesAddUp, TotalsAreCycles, drain_change}
use Rattle.tomex_functions.specs.ChangeLaws.{one_or_none, records_of}
use Rattle.tomex_functions.specs.Shares.{AreNames, Both, Entry, change_named, entries_named, has_name}
use Rattle.tomex_functions.proofs.Adding.{has, none_named}
use Rattle.tomex_functions.proofs.Columns.{by_names}
use Rattle.tomex_functions.proofs.Listed.{calls_are, cycles_are, steps_are}

-- a column has a number of one build's entries, added up name by name
module _ (both : Both) (es : List Entry) (column : Change → ℕ) (value : Entry → ℕ)
    (is : (name : Option (List ℕ)) → column (change_named both name) ≡ sum_by value (entries_named name es)) where
  of_names : (names : List (List ℕ)) → sum_by column (map (λ name. change_named both (Some name)) names)
      ≡ sum_by (λ name. sum_by value (entries_named (Some name) es)) names
  of_names [] = refl
  of_names (name ∷ names) = omega (
    arith,
    sum_by-cons column (change_named both (Some name)) (map (λ name. change_named both (Some name)) names),
    sum_by-cons (λ name. sum_by value (entries_named (Some name) es)) name names,
    is (Some name),
    of_names names,
  )

  of_none : (has_name both None ≡ false → has None es ≡ false)
      → sum_by column (one_or_none (nameless both)) ≡ sum_by value (entries_named None es)
  of_none none = go (has_name both None) refl
    where
      go : (b : Bool) → has_name both None ≡ b
          → sum_by column (one_or_none (nameless both)) ≡ sum_by value (entries_named None es)
      go true e = rw e (omega (arith, sum_by-cons column (change_named both None) [], is None))
      go false e = rw (e, none_named None es (none e)) refl

  column_is : (drain : Change) (names : List (List ℕ)) → AreNames both names
      → (has_name both None ≡ false → has None es ≡ false)
      → ((b : List ℕ) → has (Some b) es ≡ true → has_name both (Some b) ≡ true)
      → sum_by column (records_of both drain names) ≡ sum_by value es + column drain
  column_is drain names are none some = omega (
    arith,
    sum_by-append column (map (λ name. change_named both (Some name)) names)
        (one_or_none (nameless both) ++ drain ∷ []),
    sum_by-append column (one_or_none (nameless both)) (drain ∷ []),
    sum_by-cons column drain [],
    of_names names,
    of_none none,
    by_names value es names are.once (λ b there. are.those b ∙ some b there),
  )

module _ (both : Both) (drain : Change) (names : List (List ℕ)) (are : AreNames both names) where
  old_none : has_name both None ≡ false → has None both.old ≡ false
  old_none e = go (has None both.old) refl e
    where
      go : (b : Bool) → has None both.old ≡ b → (has None both.old || has None both.new) ≡ false
          → has None both.old ≡ false
      go true f n = let bad = rw f at n in absurd (cc)
      go false f n = f

  new_none : has_name both None ≡ false → has None both.new ≡ false
  new_none e = go (has None both.new) refl e
    where
      go : (b : Bool) → has None both.new ≡ b → (has None both.old || has None both.new) ≡ false
          → has None both.new ≡ false
      go true f n = let bad = sym (or-true (has None both.old)) ∙ (rw f at n) in absurd (cc)
      go false f n = f

  old_column : (column : Change → ℕ) (value : Entry → ℕ)
      → ((name : Option (List ℕ)) → column (change_named both name) ≡ sum_by value (entries_named name both.old))
      → sum_by column (records_of both drain names) ≡ sum_by value both.old + column drain
  old_column column value is =
      column_is both both.old column value is drain names are old_none (λ b there. rw there refl)

  new_column : (column : Change → ℕ) (value : Entry → ℕ)
      → ((name : Option (List ℕ)) → column (change_named both name) ≡ sum_by value (entries_named name both.new))
      → sum_by column (records_of both drain names) ≡ sum_by value both.new + column drain
  new_column column value is =
      column_is both both.new column value is drain names are new_none (λ b there. rw there (or-true _))

abbrev made : ℕ → ℕ → ℕ → ℕ → ℕ → ℕ → Change
made a b c d e f =
    record { old = record { calls = a; steps = b; cycles = c }; new = record { calls = d; steps = e; cycles = f } }

same_numbers : (a b c d e f a' b' c' d' e' f' : ℕ) → a ≡ a' → b ≡ b' → c ≡ c' → d ≡ d' → e ≡ e' → f ≡ f'
    → made a b c d e f ≡ made a' b' c' d' e' f'
same_numbers a b c d e f a' b' c' d' e' f' p q r s t u = rw (p, q, r, s, t, u) refl

pub columns_add_up : ColumnsAddUp
columns_add_up config old new both names is =
    let last = drain_change config old new in
    let records = records_of both last names in
    let old_es = ap (λ (b : Both). b.old) is.both_is in
    let new_es = ap (λ (b : Both). b.new) is.both_is in
    let before = old_column both last names is.are_names in
    let after = new_column both last names is.are_names in
    let old_symbols = symbols_of old.file in
    let new_symbols = symbols_of new.file in
    same_numbers _ _ _ _ _ _ _ _ _ _ _ _
    (before (λ c. c.old.calls) (λ e. e.share.calls) (λ name. refl)
    ∙ omega (
      arith,
      ap (sum_by (λ e. e.share.calls)) old_es,
      calls_are old.file old_symbols config old.steps is.old_rows is.of_old,
    ))
    (before (λ c. c.old.steps) (λ e. e.share.steps) (λ name. refl)
    ∙ omega (
      arith,
      ap (sum_by (λ e. e.share.steps)) old_es,
      steps_are old.file old_symbols config old.steps is.old_rows is.of_old,
    ))
    (before (λ c. c.old.cycles) (λ e. e.share.cycles) (λ name. refl)
    ∙ omega (
      arith,
      ap (sum_by (λ e. e.share.cycles)) old_es,
      cycles_are old.file old_symbols config old.steps is.old_rows is.of_old,
    ))
    (after (λ c. c.new.calls) (λ e. e.share.calls) (λ name. refl)
    ∙ omega (
      arith,
      ap (sum_by (λ e. e.share.calls)) new_es,
      calls_are new.file new_symbols config new.steps is.new_rows is.of_new,
    ))
    (after (λ c. c.new.steps) (λ e. e.share.steps) (λ name. refl)
    ∙ omega (
      arith,
      ap (sum_by (λ e. e.share.steps)) new_es,
      steps_are new.file new_symbols config new.steps is.new_rows is.of_new,
    ))
    (after (λ c. c.new.cycles) (λ e. e.share.cycles) (λ name. refl)
    ∙ omega (
      arith,
      ap (sum_by (λ e. e.share.cycles)) new_es,
      cycles_are new.file new_symbols config new.steps is.new_rows is.of_new,
    ))

-- more and fewer, of any records
apart : (cs : List Change) → sum_by (λ c. c.old.cycles) cs + sum_by (λ c. c.new.cycles - c.old.cycles) cs
    ≡ sum_by (λ c. c.new.cycles) cs + sum_by (λ c. c.old.cycles - c.new.cycles) cs
apart [] = refl
apart (c ∷ cs) = omega (
  arith,
  apart cs,
  sum_by-cons (λ c. c.old.cycles) c cs,
  sum_by-cons (λ c. c.new.cycles) c cs,
  sum_by-cons (λ c. c.new.cycles - c.old.cycles) c cs,
  sum_by-cons (λ c. c.old.cycles - c.new.cycles) c cs,
)

pub differences_add_up : DifferencesAddUp
differences_add_up config old new both names is =
    let all = columns_add_up config old new both names is in
    omega (
      arith,
      apart (records_of both (drain_change config old new) names),
      ap (λ (c : Change). c.old.cycles) all,
      ap (λ (c : Change). c.new.cycles) all,
    )

pub totals_are_cycles : TotalsAreCycles
totals_are_cycles config b within = cycles_with_drain config b.steps within
