-- All rows of a study, and those of its front.
use Rattle.std.proofs.Common.{◌≡◌, ◌∙◌, ◌+◌, ◌<◌, ℕ, suc, add-one, ap, append_assoc, arith, sym, subst}
use Rattle.std.proofs.Common.{All, List, [], ◌∷◌, ◌++◌}
use Rattle.std.proofs.Common.{drop, drop-cons, get_or, length}
use Rattle.std.specs.List.{Contains}
use Rattle.std.proofs.lemmas.Option.{slice_get-get_or}
use Rattle.std.proofs.lemmas.List.Elements.{All-append, All-cons, All-nil}
use Rattle.tomex_config.specs.Configuration.{Configuration, plain}
use Rattle.tomex_config.specs.Cost.{PriceList}
use Rattle.tomex_pareto.specs.Front.{front_of}
use Rattle.tomex_pareto.specs.declared.front_row.FrontRow.{FrontRow}
use Rattle.tomex_pareto.proofs.Rows.{IsAt, row_at as is_at, rows_apart}
use Rattle.tomex_pareto.proofs.Pareto.{contains_has, front_is}
use Rattle.tomex_study.specs.Study.{DesignSpace, IsStudy}
use Rattle.tomex_study.specs.Cycles.{cycles_of}
use Rattle.tomex_study.specs.StudyFront.{all_rows, front_of_study, row_at}
use Rattle.tomex_study.proofs.Rows.{as_many_rows, cycles_at}
use Rattle.tomex_prices.specs.declared.price.Price.{Price}
use Rattle.tomex_pareto.specs.declared.line_row.LineRow.{LineRow}
use Rattle.tomex_prices.specs.Interval.{IsSmall}
use Rattle.tomex_prices.specs.Repriced.{priced_from, with_price_apart}

-- the numbers of the front's rows are those of configurations
pub front_row_at : (s : DesignSpace) (r : FrontRow) → Contains (front_of_study s) r → IsAt 0 s.costs (cycles_of s) r
unfolding front_of_study
front_row_at s r one =
    let rows = all_rows s in
    let there = contains_has (front_of rows) one.0 r one.1 one.2 in
    is_at 0 s.costs (cycles_of s) r ((front_is rows (rows_apart 0 s.costs (cycles_of s))).only r there).0

pub front_row_within : (s : DesignSpace) (r : FrontRow) → IsStudy s → Contains (front_of_study s) r
    → r.row < length s.rows
front_row_within s r is one =
    let at = front_row_at s r one in
    let costs = as_many_rows s is in
    let number = at.number in
    let within = at.within in
    omega arith

-- one more row with a price apart
pub next_priced : (price : Price) (prices : PriceList) (k : ℕ) (cs : List Configuration) (ys : List ℕ)
    {c : Configuration} (before : List LineRow) {after whole : List LineRow} {r : LineRow} → k < length cs
    → k < length ys → c ≡ get_or cs k c → r ≡ with_price_apart price prices k c (get_or ys k 0)
    → after ≡ before ++ r ∷ [] → before ++ priced_from price prices k (drop k cs) (drop k ys) ≡ whole
    → after ++ priced_from price prices (k + 1) (drop (k + 1) cs) (drop (k + 1) ys) ≡ whole
next_priced price prices k cs ys {c} before {whole} {r} low less is made grown so_far =
    let rest = priced_from price prices (suc k) (drop (suc k) cs) (drop (suc k) ys) in
    let configs : drop k cs ≡ c ∷ drop (suc k) cs = drop-cons cs k c low ∙ ap (λ z. z ∷ drop (suc k) cs) (sym is) in
    let cycles : drop k ys ≡ get_or ys k 0 ∷ drop (suc k) ys = drop-cons ys k 0 less in
    let here : before ++ (r ∷ rest) ≡ whole =
    rw made (rw (configs, cycles) at so_far) in
    rw (add-one, grown) (append_assoc before (r ∷ []) rest ∙ here)

-- a row that is made of a row of the study
pub made_apart : (s : DesignSpace) (price : Price) (k : ℕ) (config : Configuration) (prices : PriceList)
    (cycles : ℕ) (r : LineRow) → k < length s.rows → prices ≡ s.prices → cycles ≡ (row_at s k).cycles
    → r ≡ with_price_apart price prices k config cycles
    → r ≡ with_price_apart price s.prices k config (get_or (cycles_of s) k 0)
made_apart s price k config prices cycles r low list is made =
    let own = is ∙ sym (cycles_at s k (get_or s.rows k plain) (slice_get-get_or s.rows k plain low)) in
    made
    ∙ (ap (λ (p : PriceList). with_price_apart price p k config cycles) list
    ∙ ap (λ (y : ℕ). with_price_apart price s.prices k config y) own)

-- one more small row
pub small_more : (before after : List LineRow) (r : LineRow) → after ≡ before ++ r ∷ [] → IsSmall r
    → All IsSmall before → All IsSmall after
small_more before after r grown small all =
    subst (All IsSmall) (sym grown) (All-append IsSmall before (r ∷ []) all (All-cons IsSmall r [] small
    (All-nil IsSmall)))
