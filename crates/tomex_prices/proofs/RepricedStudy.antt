-- A study with one price replaced has the same cycles, so a row stays on its front at exactly the prices of its
-- interval.
use Rattle.std.proofs.Common.{◌≡◌, ◌∙◌, ◌+◌, ◌<◌, ℕ, zero, suc, ap, arith, sym, true, List, [], ◌∷◌}
use Rattle.std.proofs.Common.{get_or, length}
use Rattle.std.specs.Prelude.{◌≤◌}
use Rattle.std.specs.List.{Contains}
use Rattle.std.proofs.lemmas.List.{get_or_default}
use Rattle.tomex_config.specs.Configuration.{Configuration, plain}
use Rattle.tomex_config.specs.Cost.{PriceList}
use Rattle.tomex_pareto.specs.Front.{front_of, is_on, rows_from}
use Rattle.tomex_pareto.specs.declared.front_row.FrontRow.{FrontRow}
use Rattle.tomex_pareto.proofs.OnFront.{has_number}
use Rattle.tomex_pareto.proofs.Rows.{IsAt}
use Rattle.tomex_pareto.proofs.Pareto.{contains_has}
use Rattle.tomex_study.specs.Study.{DesignSpace, IsStudy, costs_of}
use Rattle.tomex_study.specs.Cycles.{cycles_of}
use Rattle.tomex_study.specs.StudyFront.{front_of_study}
use Rattle.tomex_prices.specs.declared.intervals.PriceRange.{PriceRange}
use Rattle.tomex_prices.specs.declared.price.Price.{Price}
use Rattle.tomex_prices.specs.declared.price.TheConstants.{GREATEST_PRICE}
use Rattle.tomex_pareto.specs.declared.line_row.LineRow.{LineRow}
use Rattle.tomex_prices.specs.Interval.{interval, is_within}
use Rattle.tomex_prices.specs.Repriced.{costs_with, priced_from, with_price_apart}
use Rattle.tomex_prices.specs.Studies.{IsOnStudyExactlyWithin, interval_of, space_with, row_with, rows_with}
use Rattle.tomex_prices.proofs.AllRows.{front_row_at}
use Rattle.tomex_study.proofs.Rows.{as_many_cycles, as_many_rows}
use Rattle.tomex_prices.proofs.Repricing.{on_repriced_within}
use Rattle.tomex_prices.proofs.SameCycles.{all_cycles_same}

pub study_cycles : (s : DesignSpace) (price : Price) (q : ℕ) → q ≤ GREATEST_PRICE → IsStudy s
    → cycles_of (space_with s price q) ≡ cycles_of s
unfolding cycles_of
study_cycles s price q few is = all_cycles_same price q s.programs s.rows few is.limits

-- a row with the price apart
on_study : (s : DesignSpace) (price : Price) (q : ℕ) (r : LineRow) → IsStudy s → q ≤ GREATEST_PRICE
    → Contains (rows_with s price) r → is_on (front_of_study s) r.row ≡ true
    → is_on (front_of_study (space_with s price q)) r.row
    ≡ is_within (interval r (rows_with s price)) q
unfolding front_of_study
on_study s price q r is few one here =
    let before : is_on (front_of (rows_from 0 (costs_of s.prices s.rows) (cycles_of s))) r.row ≡ true =
    ap (λ (xs : List ℕ). is_on (front_of (rows_from 0 xs (cycles_of s))) r.row) (sym is.costs) ∙ here in
    ap (λ (ys : List ℕ). is_on (front_of (rows_from 0 (costs_with price q s.prices s.rows) ys)) r.row)
    (study_cycles s price q few is)
    ∙ on_repriced_within price s.prices s.rows (cycles_of s) q r is.prices is.limits few one before

-- the k-th row with a price apart

priced_long : (price : Price) (prices : PriceList) (n k : ℕ) (cs : List Configuration) (ys : List ℕ) → k < length cs
    → k < length ys → k < length (priced_from price prices n cs ys)
priced_long price prices n k [] ys low less = absurd (omega arith)
priced_long price prices n k (c ∷ cs) [] low less = absurd (omega arith)
priced_long price prices n zero (c ∷ cs) (y ∷ ys) low less = (omega arith)
priced_long price prices n (suc k) (c ∷ cs) (y ∷ ys) low less =
    let rest = priced_long price prices (suc n) k cs ys (omega arith) (omega arith) in
    omega arith

priced_at : (price : Price) (prices : PriceList) (n k : ℕ) (cs : List Configuration) (ys : List ℕ) (d : LineRow)
    → k < length cs → k < length ys
    → get_or (priced_from price prices n cs ys) k d
    ≡ with_price_apart price prices (n + k) (get_or cs k plain) (get_or ys k 0)
priced_at price prices n k [] ys d low less = absurd (omega arith)
priced_at price prices n k (c ∷ cs) [] d low less = absurd (omega arith)
priced_at price prices n zero (c ∷ cs) (y ∷ ys) d low less =
    let e : n ≡ n + 0 = omega arith in
    ap (λ (m : ℕ). with_price_apart price prices m c y) e
priced_at price prices n (suc k) (c ∷ cs) (y ∷ ys) d low less =
    let e : suc n + k ≡ n + suc k = omega arith in
    priced_at price prices (suc n) k cs ys d (omega arith) (omega arith)
    ∙ ap (λ (m : ℕ). with_price_apart price prices m (get_or cs k plain) (get_or ys k 0)) e

-- with a price apart, a row is one of the rows with that price apart
pub row_at_apart : (s : DesignSpace) (price : Price) (r : FrontRow) → IsStudy s → IsAt 0 s.costs (cycles_of s) r
    → Contains (rows_with s price) (row_with s price r)
row_at_apart s price r is at =
    let costs = as_many_rows s is in
    let cycles = as_many_cycles s in
    let is_k : at.k ≡ r.row = (let n = at.number in omega arith) in
    let low : at.k < length s.rows = (let w = at.within in omega arith) in
    let less : at.k < length (cycles_of s) = omega arith in
    let row : ℕ → LineRow = λ k. with_price_apart price s.prices k (get_or s.rows k plain) r.cycles in (
      at.k,
      priced_long price s.prices 0 at.k s.rows (cycles_of s) low less,
      priced_at price s.prices 0 at.k s.rows (cycles_of s) (row_with s price r) low less
          ∙ (ap (λ (m : ℕ). with_price_apart price s.prices m (get_or s.rows at.k plain) (get_or (cycles_of s) at.k 0))
          (let z : 0 + at.k ≡ at.k = omega arith in z)
          ∙ (ap (λ (y : ℕ). with_price_apart price s.prices at.k (get_or s.rows at.k plain) y) (sym at.cycles_are)
          ∙ ap row is_k)),
    )

pub row_apart : (s : DesignSpace) (price : Price) (r : FrontRow) → IsStudy s → Contains (front_of_study s) r
    → Contains (rows_with s price) (row_with s price r)
row_apart s price r is one = row_at_apart s price r is (front_row_at s r one)

pub is_there : (front : List FrontRow) (r : FrontRow) → Contains front r → is_on front r.row ≡ true
is_there front r one = has_number front r (contains_has front one.0 r one.1 one.2)

pub on_study_within : IsOnStudyExactlyWithin
on_study_within s price q r is few one =
    on_study s price q (row_with s price r) is few (row_apart s price r is one) (is_there (front_of_study s) r one)

-- an interval that is made of these is that of the row
pub interval_is : (s : DesignSpace) (price : Price) (r : FrontRow) {range : PriceRange} {prices : PriceList}
    {config : Configuration} {configs : List Configuration} {row : LineRow} {rows : List LineRow}
    → r.row < length s.rows → range ≡ interval row rows → prices ≡ s.prices
    → row ≡ with_price_apart price prices r.row config r.cycles → config ≡ get_or configs r.row config
    → configs ≡ s.rows → rows ≡ rows_with s price → range ≡ interval_of s price r
interval_is s price r {config} {row} {rows} low range_is list row_is config_is all rows_are =
    let found : config ≡ get_or s.rows r.row plain =
    config_is ∙ (ap (λ (cs : List Configuration). get_or cs r.row config) all
    ∙ get_or_default s.rows r.row config plain low) in
    let apart : row ≡ row_with s price r =
    row_is
    ∙ (ap (λ (p : PriceList). with_price_apart price p r.row config r.cycles) list
    ∙ ap (λ (c : Configuration). with_price_apart price s.prices r.row c r.cycles) found) in
    range_is
    ∙ (ap (λ (x : LineRow). interval x rows) apart
    ∙ ap (λ (xs : List LineRow). interval (row_with s price r) xs) rows_are)
