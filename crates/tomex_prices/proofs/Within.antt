-- A row that stays at some price stays at exactly the prices of its interval: those of its span.
use Rattle.std.proofs.Common.{◌≡◌, ◌∙◌, ℕ, suc, ◌<◌, arith, sym, subst}
use Rattle.std.proofs.lemmas.Bool.Decides.{nat_tests}
use Rattle.tomex_pareto.specs.declared.spans.ValueSpan.{ValueSpan}
use Rattle.tomex_pareto.specs.Spans.{holds, span}
use Rattle.tomex_pareto.proofs.AllRivals.{numbered_at, on_front_stays}
use Rattle.tomex_pareto.proofs.SpanEnds.{some_end, stays_is}
use Rattle.tomex_prices.specs.declared.price.TheConstants.{GREATEST_PRICE}
use Rattle.tomex_prices.specs.Interval.{is_within, range_of}
use Rattle.tomex_prices.specs.Laws.{IsOnFrontExactlyWithin, StaysExactlyWithin}

range_holds : (s : ValueSpan) (q : ℕ) → 0 < s.end → is_within (range_of s) q ≡ holds s q
range_holds s q some = grind (arith, nat_tests)

pub last_is : (s : ValueSpan) → 0 < s.end → suc (range_of s).most ≡ s.end
last_is s some = grind (arith, nat_tests)

pub exactly_within : StaysExactlyWithin
exactly_within now q rows r few here =
    let s = span 0 GREATEST_PRICE r rows in
    sym (range_holds s q (some_end 0 GREATEST_PRICE now rows r (omega arith) here)
    ∙ stays_is 0 GREATEST_PRICE q rows r (omega arith) few)

pub on_front_within : IsOnFrontExactlyWithin
on_front_within now q rows r few numbered one here =
    let own = subst (λ (T : Type 0). T) (numbered_at now rows) numbered in
    on_front_stays q rows r own one
    ∙ exactly_within now q rows r few (sym (on_front_stays now rows r own one) ∙ here)
