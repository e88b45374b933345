-- Without choices that no row of the front has the front is the same.
use Rattle.std.proofs.Common.{◌≡◌, ◌≢◌, ◌+◌, arith, ap, refl, List, [], ◌∷◌, Bool, true, false}
use Rattle.std.proofs.Common.{inl, inr, not, nat_lt, Option, Some, None}
use Rattle.std.specs.List.{Contains, filter, list_any}
use Rattle.std.proofs.lemmas.Bool.{both_ways, cases_Bool, not-true}
use Rattle.std.proofs.lemmas.Bool.Decides.{nat_tests}
use Rattle.std.proofs.lemmas.List.Kept.{AllPairs-filter}
use Rattle.tomex_config.specs.Configuration.{Configuration}
use Rattle.tomex_pareto.specs.Front.{dominates, front_of}
use Rattle.tomex_pareto.specs.Pareto.{Dominates}
use Rattle.tomex_pareto.specs.Steps.{best_of}
use Rattle.tomex_pareto.specs.declared.front_row.FrontRow.{FrontRow}
use Rattle.tomex_pareto.proofs.Best.{IsOrder, best_found, none_found}
use Rattle.tomex_pareto.proofs.Pareto.{AreApart, IsFree, beats, dominates_so, front_is, only_front, pairs_rise}
use Rattle.tomex_pareto.proofs.Pareto.{rises_pairs}
use Rattle.tomex_pareto.proofs.Pareto.{Has as HasRow}
use Rattle.tomex_pareto.proofs.Rows.{rows_apart}
use Rattle.tomex_study.specs.Cycles.{cycles_of}
use Rattle.tomex_study.specs.Study.{DesignSpace, config_at}
use Rattle.tomex_study.specs.StudyFront.{all_rows, front_of_study}
use Rattle.tomex_config.specs.Parts.{all_parts}
use Rattle.tomex_config.specs.declared.part.Part.{Part}
use Rattle.tomex_config.specs.Parts.{same_entry}
use Rattle.tomex_study.specs.Choices.{choices, is_used, unused}
use Rattle.tomex_choices.specs.Laws.{has_no_unwanted, has_none}
use Rattle.tomex_choices.specs.Passing.{Has}
use Rattle.tomex_choices.proofs.EnoughFrom.{all_from, any_at, any_from}
use Rattle.tomex_choices.proofs.Members.{from_filter, has_filter}
use Rattle.tomex_choices.proofs.Passes.{contains_from, has_from}

-- rows, as those of the front

pub as_row : (rows : List FrontRow) (r : FrontRow) → Has rows r → HasRow rows r
as_row [] r h = h
as_row (q ∷ qs) r (inl e) = inl e
as_row (q ∷ qs) r (inr h) = inr (as_row qs r h)

pub from_row : (rows : List FrontRow) (r : FrontRow) → HasRow rows r → Has rows r
from_row [] r h = h
from_row (q ∷ qs) r (inl e) = inl e
from_row (q ∷ qs) r (inr h) = inr (from_row qs r h)

-- a row that is dominated is dominated by one of the front

follow : (a b c : FrontRow) → Dominates a b → Dominates b c → Dominates a c
follow a b c d e =
    let x : dominates a b ≡ true = dominates_so a b d in
    let y : dominates b c ≡ true = dominates_so b c e in
    beats a c (grind (arith, nat_tests))

module _ (rows : List FrontRow) (r : FrontRow) where
  abbrev is_above : FrontRow → Bool
  is_above x = dominates x r

  abbrev is_smaller : FrontRow → FrontRow → Bool
  is_smaller x a = nat_lt (x.cost + x.cycles) (a.cost + a.cycles)

  order : IsOrder is_above is_smaller
  order = record {
    itself = λ x. grind (arith, nat_tests);
    over = λ x y a px py pa e f. grind (arith, nat_tests);
  }

  least_is_free : (a : FrontRow) → dominates a r ≡ true
      → ((x : FrontRow) → HasRow rows x → is_above x ≡ true → is_smaller x a ≡ false) → IsFree rows a
  least_is_free a above least x h d =
      let over : dominates x r ≡ true = dominates_so x r (follow x a r d (beats a r above)) in
      let not_smaller = least x h over in
      let own : dominates x a ≡ true = dominates_so x a d in
      grind (arith, nat_tests)

  pub front_above : (q : FrontRow) → AreApart rows → HasRow rows q → Dominates q r
      → (f : FrontRow) × HasRow (front_of rows) f × Dominates f r
  front_above q far h d = found (best_of is_above is_smaller None rows) refl where
    found : (o : Option FrontRow) → best_of is_above is_smaller None rows ≡ o
        → (f : FrontRow) × HasRow (front_of rows) f × Dominates f r
    found None e = absurd (both_ways _ (none_found is_above is_smaller order rows e q h) (dominates_so q r d))
    found (Some a) e =
        let w = best_found is_above is_smaller order rows a e in
        (a, (front_is rows far).all a w.one (least_is_free a w.passes_too w.best), beats a r w.passes_too)

-- the rows that have no unwanted entry
abbrev pub rows_without : DesignSpace → (Part → List Configuration) → List FrontRow
rows_without s unwanted = filter (λ r. has_no_unwanted unwanted (config_at s r.row)) (all_rows s)

-- a row of the front has none of the unused choices of any list

module _ (s : DesignSpace) (unwanted : Part → List Configuration)
    (are : (part : Part) (u : Configuration) → Contains (unwanted part) u → Contains (unused s part) u) where
  abbrev stays : FrontRow → Bool
  stays r = has_no_unwanted unwanted (config_at s r.row)

  far : AreApart (all_rows s)
  far = rows_apart 0 s.costs (cycles_of s)

  is_unused : (part : Part) (u : Configuration) → Has (unwanted part) u → is_used s part u ≡ false
  unfolding unused
  is_unused part u h =
      let w = from_filter (λ c. not (is_used s part c)) (choices s part) u
      (has_from _ u (are part u (contains_from (unwanted part) u h))) in
      not-true _ w.1

  one_stays : (r : FrontRow) (part : Part) → Has (front_of_study s) r
      → has_none part (unwanted part) (config_at s r.row) ≡ true
  one_stays r part on = elim (cases_Bool (list_any (λ u. same_entry (config_at s r.row) u part) (unwanted part))) [
    | inl e ↦
        let w = any_at (λ u. same_entry (config_at s r.row) u part) (unwanted part) e in
        absurd (both_ways _ (is_unused part w.0 w.1)
        (any_from (λ q. same_entry (config_at s q.row) w.0 part) (front_of_study s) r on w.2))
    | inr e ↦ ap not e
  ]

  front_stays : (r : FrontRow) → Has (front_of_study s) r → stays r ≡ true
  front_stays r on =
      all_from (λ part. has_none part (unwanted part) (config_at s r.row)) all_parts (λ part h. one_stays r part on)

  left_apart : AreApart (rows_without s unwanted)
  left_apart = pairs_rise (λ a b. a.row ≢ b.row) (rows_without s unwanted)
      (AllPairs-filter (λ a b. a.row ≢ b.row) stays (all_rows s)
      (rises_pairs (λ a b. a.row ≢ b.row) (all_rows s) far))

  pub may_stay : front_of_study s ≡ front_of (rows_without s unwanted)
  unfolding front_of_study
  may_stay =
      let it = front_is (all_rows s) far in
      only_front (rows_without s unwanted) (front_of (all_rows s)) left_apart (record {
        rises = it.rises;
        only = λ r h.
            let o = it.only r h in (
              as_row (rows_without s unwanted) r
                  (has_filter stays (all_rows s) r (from_row (all_rows s) r o.0)
                  (front_stays r (from_row (front_of (all_rows s)) r h))),
              λ q i d. o.1 q (as_row (all_rows s) q (from_filter stays (all_rows s) q
                  (from_row (rows_without s unwanted) q i)).0) d,
            );
        all = λ r h free.
            let w = from_filter stays (all_rows s) r (from_row (rows_without s unwanted) r h) in
            it.all r (as_row (all_rows s) r w.0) (λ q i d.
            let f = front_above (all_rows s) r q far i d in
            let one = (it.only f.0 f.1).0 in
            free f.0 (as_row (rows_without s unwanted) f.0
            (has_filter stays (all_rows s) f.0 (from_row (all_rows s) f.0 one)
            (front_stays f.0 (from_row (front_of (all_rows s)) f.0 f.1)))) f.2);
      })
