-- What is kept of the functions of each name, with one function more.
use Rattle.std.proofs.Common.{◌≡◌, ◌≤◌, ◌∙◌, arith, refl, sym, ap, ℕ, Bool, true, false, cond}
use Rattle.std.proofs.Common.{◌||◌, List, [], ◌∷◌, ◌++◌, Option, Some, None, append-nil}
use Rattle.std.specs.Prelude.{filter, sum_by, unwrap_or}
use Rattle.std.specs.List.{list_any}
use Rattle.std.proofs.Math.Bool.{or-false, or-true}
use Rattle.std.proofs.lemmas.List.Elements.{filter-append}
use Rattle.std.proofs.lemmas.List.Folds.{list_any-append}
use Rattle.std.proofs.lemmas.List.Sums.{sum_by-cons, sum_by_push}
use Rattle.tomex_functions.specs.declared.named.Named.{Named}
use Rattle.tomex_functions.specs.declared.shares.Change.{Change}
use Rattle.tomex_functions.specs.declared.shares.Share.{Share}
use Rattle.tomex_functions.specs.declared.shares.Side.{Side}
use Rattle.tomex_functions.specs.declared.shares.Side.TheVariants.{Old, New}
use Rattle.tomex_functions.specs.ChangesKept.{IsNamed, after_share, both_after, change_at, with_share}
use Rattle.tomex_functions.specs.Shares.{Both, Entry, Fits, change_named, entries_named, has_name, no_change}
use Rattle.tomex_functions.specs.Shares.{plus, same_name, share_of}

abbrev pub has : Option (List ℕ) → List Entry → Bool
has q es = list_any (λ e. same_name q e.name) es

-- no entry of the name, so nothing is taken
pub none_named : (q : Option (List ℕ)) (es : List Entry) → has q es ≡ false → entries_named q es ≡ []
none_named q [] none = refl
none_named q (e ∷ es) none = go (none_named q es) (same_name q e.name) refl
  where
    go : (has q es ≡ false → entries_named q es ≡ []) → (b : Bool) → same_name q e.name ≡ b
        → entries_named q (e ∷ es) ≡ []
    go rest true s = let bad = rw s at none in absurd (cc)
    go rest false s = rw s (rest (rw s at none))

share_more : (es : List Entry) (e : Entry) → share_of (es ++ e ∷ []) ≡ plus (share_of es) e.share
share_more es e =
    rw (
      sum_by_push (λ (x : Entry). x.share.calls) es e,
      sum_by_push (λ (x : Entry). x.share.steps) es e,
      sum_by_push (λ (x : Entry). x.share.cycles) es e,
    ) refl

-- one entry more of the name, or of another one
module _ (q : Option (List ℕ)) (e : Entry) where
  has_yes : (es : List Entry) → same_name q e.name ≡ true → has q (es ++ e ∷ []) ≡ true
  has_yes es s = rw (list_any-append (λ x. same_name q x.name) es (e ∷ []), s) (or-true _)

  has_no : (es : List Entry) → same_name q e.name ≡ false → has q (es ++ e ∷ []) ≡ has q es
  has_no es s = rw (list_any-append (λ x. same_name q x.name) es (e ∷ []), s) (or-false _)

  share_yes : (es : List Entry) → same_name q e.name ≡ true
      → share_of (entries_named q (es ++ e ∷ [])) ≡ plus (share_of (entries_named q es)) e.share
  share_yes es s =
      rw (filter-append (λ x. same_name q x.name) es (e ∷ []), s) (share_more (entries_named q es) e)

  share_no : (es : List Entry) → same_name q e.name ≡ false
      → share_of (entries_named q (es ++ e ∷ [])) ≡ share_of (entries_named q es)
  share_no es s =
      rw (filter-append (λ x. same_name q x.name) es (e ∷ []), s)
      (ap share_of (append-nil (entries_named q es)))

  both_yes : (side : Side) (both : Both) → same_name q e.name ≡ true → has_name (both_after side (e ∷ []) both) q ≡ true
  both_yes Old both s = rw (has_yes both.old s) refl
  both_yes New both s = rw (has_yes both.new s) (or-true _)

  both_no : (side : Side) (both : Both) → same_name q e.name ≡ false
      → has_name (both_after side (e ∷ []) both) q ≡ has_name both q
  both_no Old both s = ap (λ b. b || has q both.new) (has_no both.old s)
  both_no New both s = ap (λ b. has q both.old || b) (has_no both.new s)

  pub change_yes : (side : Side) (both : Both) → same_name q e.name ≡ true
      → change_named (both_after side (e ∷ []) both) q ≡ with_share side e.share (change_named both q)
  change_yes Old both s =
      ap (λ (x : Share). record { old = x; new = share_of (entries_named q both.new) }) (share_yes both.old s)
  change_yes New both s =
      ap (λ (x : Share). record { old = share_of (entries_named q both.old); new = x }) (share_yes both.new s)

  change_no : (side : Side) (both : Both) → same_name q e.name ≡ false
      → change_named (both_after side (e ∷ []) both) q ≡ change_named both q
  change_no Old both s =
      ap (λ (x : Share). record { old = x; new = share_of (entries_named q both.new) }) (share_no both.old s)
  change_no New both s =
      ap (λ (x : Share). record { old = share_of (entries_named q both.old); new = x }) (share_no both.new s)

-- what is kept of a name that no function has is nothing
nothing_named : (both : Both) (q : Option (List ℕ)) → has_name both q ≡ false → change_named both q ≡ no_change
nothing_named both q none = go (has q both.old) (has q both.new) refl refl none
  where
    go : (a b : Bool) → has q both.old ≡ a → has q both.new ≡ b → (a || b) ≡ false → change_named both q ≡ no_change
    go true b e f bad = absurd (cc)
    go false true e f bad = absurd (cc)
    go false false e f n = rw (none_named q both.old e, none_named q both.new f) refl

pub kept_or_nothing : (both : Both) (q : Option (List ℕ)) (found : Option Change)
    → found ≡ cond (has_name both q) (Some (change_named both q)) None → unwrap_or found no_change ≡ change_named both q
kept_or_nothing both q found is = go (has_name both q) refl
  where
    go : (b : Bool) → has_name both q ≡ b → unwrap_or found no_change ≡ change_named both q
    go true e = rw (is, e) refl
    go false e = rw (is, e) (sym (nothing_named both q e))

module _ (side : Side) (both : Both) (old new : Named) (e : Entry) (is : IsNamed both old)
    (step : (q : Option (List ℕ)) → change_at new q
    ≡ cond (same_name q e.name) (Some (after_share side e.share (change_at old q))) (change_at old q)) where
  -- one function more is added up
  pub named_more : IsNamed (both_after side (e ∷ []) both) new
  named_more = record { changes = λ q. go q (same_name q e.name) refl }
    where
      go : (q : Option (List ℕ)) (b : Bool) → same_name q e.name ≡ b → change_at new q
          ≡ cond (has_name (both_after side (e ∷ []) both) q)
          (Some (change_named (both_after side (e ∷ []) both) q)) None
      go q true s =
          rw (both_yes q e side both s, change_yes q e side both s)
          (rw s at (step q)
          ∙ ap (λ (c : Change). Some (with_share side e.share c))
          (kept_or_nothing both q (change_at old q) (is.changes q)))
      go q false s =
          rw (both_no q e side both s, change_no q e side both s) (rw s at (step q) ∙ is.changes q)

-- a sum over some of the entries is at most that over all
sum_some : (f : Entry → ℕ) (p : Entry → Bool) (es : List Entry) → sum_by f (filter p es) ≤ sum_by f es
sum_some f p [] = omega arith
sum_some f p (e ∷ es) = go (sum_some f p es) (p e) refl
  where
    go : sum_by f (filter p es) ≤ sum_by f es → (b : Bool) → p e ≡ b
        → sum_by f (filter p (e ∷ es)) ≤ sum_by f (e ∷ es)
    go rest true s = rw s (omega (arith, sum_by-cons f e (filter p es), sum_by-cons f e es))
    go rest false s = rw s (omega (arith, sum_by-cons f e es))

pub fits_some : (q : Option (List ℕ)) (es : List Entry) → Fits (share_of es) → Fits (share_of (entries_named q es))
fits_some q es fits = record {
  calls = omega (arith, fits.calls, sum_some (λ e. e.share.calls) (λ e. same_name q e.name) es);
  steps = omega (arith, fits.steps, sum_some (λ e. e.share.steps) (λ e. same_name q e.name) es);
  cycles = omega (arith, fits.cycles, sum_some (λ e. e.share.cycles) (λ e. same_name q e.name) es);
}
