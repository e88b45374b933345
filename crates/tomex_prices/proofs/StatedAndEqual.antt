-- A row of the front stays at the stated price, and at all prices if rows pay it equally often.
use Rattle.std.proofs.Common.{◌≡◌, ◌∙◌, ◌<◌, ◌≤◌, ◌==◌, ℕ, zero, suc, ap, arith}
use Rattle.std.proofs.Common.{refl, subst, sym, false, not}
use Rattle.std.proofs.Common.{inl, inr, get_or, length, List, [], ◌∷◌}
use Rattle.std.specs.List.{AllByRecursion, list_any}
use Rattle.std.proofs.lemmas.Bool.{cases_Bool, eqb-true, or_parts, true≢false}
use Rattle.tomex_config.specs.Configuration.{Configuration, plain}
use Rattle.tomex_config.specs.Cost.{PriceList}
use Rattle.tomex_pareto.specs.Front.{front_of, is_on, rows_from}
use Rattle.tomex_study.specs.Study.{DesignSpace, IsStudy}
use Rattle.tomex_study.specs.Cycles.{cycles_of}
use Rattle.tomex_study.specs.StudyFront.{front_of_study}
use Rattle.tomex_prices.specs.declared.price.Price.{Price}
use Rattle.tomex_prices.specs.declared.price.TheConstants.{GREATEST_PRICE}
use Rattle.tomex_pareto.specs.declared.line_row.LineRow.{LineRow}
use Rattle.tomex_pareto.specs.declared.spans.ValueSpan.{ValueSpan}
use Rattle.tomex_pareto.specs.Spans.{span}
use Rattle.tomex_pareto.proofs.EqualTimes.{IsAllOrNone, all_or_none}
use Rattle.tomex_prices.specs.Interval.{interval, range_of}
use Rattle.tomex_prices.specs.Price.{payments, amount}
use Rattle.tomex_prices.specs.Prices.{is_relevant}
use Rattle.tomex_prices.specs.PriceLaws.{HoldsAllIfIrrelevant, HoldsStated}
use Rattle.tomex_prices.specs.Repriced.{costs_with, priced_from}
use Rattle.tomex_prices.specs.Studies.{space_with, row_with, rows_with}
use Rattle.tomex_prices.proofs.RepricedStudy.{is_there, on_study_within, study_cycles}
use Rattle.tomex_prices.proofs.Repricing.{stated_costs}

-- at the stated price the front is the study's own
same_front : (s : DesignSpace) (price : Price) → IsStudy s → amount price s.prices ≤ GREATEST_PRICE
    → front_of_study (space_with s price (amount price s.prices)) ≡ front_of_study s
unfolding front_of_study
same_front s price is few =
    let now = amount price s.prices in
    ap (λ (ys : List ℕ). front_of (rows_from 0 (costs_with price now s.prices s.rows) ys))
    (study_cycles s price now few is)
    ∙ ap (λ (xs : List ℕ). front_of (rows_from 0 xs (cycles_of s)))
    (stated_costs price s.prices s.rows is.prices is.limits ∙ sym is.costs)

pub holds_stated : HoldsStated
holds_stated s price r is few one =
    sym (on_study_within s price (amount price s.prices) r is few one)
    ∙ (ap (λ front. is_on front r.row) (same_front s price is few) ∙ is_there (front_of_study s) r one)

-- all pay it t times

abbrev EachPays : Price → ℕ → List Configuration → Type 0
EachPays price t cs = AllByRecursion (λ c. payments price c ≡ t) cs

abbrev EachIsPaid : ℕ → List LineRow → Type 0
EachIsPaid t rows = AllByRecursion (λ j. j.times ≡ t) rows

not_other : (n t : ℕ) → not (n == t) ≡ false → n ≡ t
not_other n t e = elim (cases_Bool (n == t)) [
  | inl same ↦ eqb-true n t same
  | inr other ↦ absurd (true≢false (sym (ap not other) ∙ e))
]

each_pays : (price : Price) (t : ℕ) (cs : List Configuration) → list_any (λ c. not (payments price c == t)) cs ≡ false
    → EachPays price t cs
each_pays price t [] e = tt
each_pays price t (c ∷ cs) e =
    let two = or_parts (not (payments price c == t)) (list_any (λ d. not (payments price d == t)) cs) e in
    (not_other (payments price c) t two.0, each_pays price t cs two.1)

pays_at : (price : Price) (t k : ℕ) (cs : List Configuration) → k < length cs → EachPays price t cs
    → payments price (get_or cs k plain) ≡ t
pays_at price t k [] low each = absurd (omega arith)
pays_at price t zero (c ∷ cs) low each = each.0
pays_at price t (suc k) (c ∷ cs) low each = pays_at price t k cs (omega arith) each.1

is_paid : (price : Price) (prices : PriceList) (t n : ℕ) (cs : List Configuration) (ys : List ℕ) → EachPays price t cs
    → EachIsPaid t (priced_from price prices n cs ys)
is_paid price prices t n [] ys each = tt
is_paid price prices t n (c ∷ cs) [] each = tt
is_paid price prices t n (c ∷ cs) (y ∷ ys) each = (each.0, is_paid price prices t (suc n) cs ys each.1)

-- so a span is all prices or none, and either way the interval is all
all_prices : (s : ValueSpan) → IsAllOrNone (record { first = 0; end = suc GREATEST_PRICE }) s
    → range_of s ≡ record { least = 0; most = GREATEST_PRICE }
all_prices s is = elim is.end [
  | inl all ↦ rw (is.first, all) refl
  | inr none ↦ rw (is.first, none) refl
]

interval_any : (s : DesignSpace) (price : Price) (t : ℕ) (r : LineRow) → r.times ≡ t → EachPays price t s.rows
    → interval r (rows_with s price) ≡ record { least = 0; most = GREATEST_PRICE }
interval_any s price t r own each =
    let paid = is_paid price s.prices t 0 s.rows (cycles_of s) each in
    all_prices (span 0 GREATEST_PRICE r (rows_with s price)) (all_or_none r (rows_with s price)
    (record { first = 0; end = suc GREATEST_PRICE })
    (subst (λ (n : ℕ). AllByRecursion (λ (j : LineRow). j.times ≡ n) (rows_with s price)) (sym own) paid))

equally_often : (price : Price) (cs : List Configuration) → is_relevant cs price ≡ false → (t : ℕ) × EachPays price t cs
unfolding is_relevant
equally_often price [] e = (0, tt)
equally_often price (c ∷ cs) e = (payments price c, (refl, each_pays price (payments price c) cs e))

pub all_hold : HoldsAllIfIrrelevant
all_hold s price r low fails =
    let each = equally_often price s.rows fails in
    let own : (row_with s price r).times ≡ each.0 = pays_at price each.0 r.row s.rows low each.1 in
    interval_any s price each.0 (row_with s price r) own each.1
