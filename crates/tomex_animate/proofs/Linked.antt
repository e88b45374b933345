-- The links of a page lead to its views.
use Rattle.std.proofs.Common.{◌≡◌, ◌∙◌, ◌<◌, ◌+◌, ◌-◌, ℕ, arith, inl, inr, sym}
use Rattle.std.specs.Prelude.{nat_lt}
use Rattle.std.specs.List.{Contains}
use Rattle.std.proofs.lemmas.Bool.{cases_Bool, ltb-true}
use Rattle.std.proofs.lemmas.List.FromFn.{get_or-range_with_len, length-range_with_len}
use Rattle.tomex_snapshots.specs.declared.entries.Span.{Span}
use Rattle.tomex_frames.specs.Laws.{IsOn}
use Rattle.tomex_animate.specs.Laws.{LinksLeadToViews, ViewsAreOfCycles}
use Rattle.tomex_animate.specs.Machine.{cycles_of}
use Rattle.tomex_animate.specs.Page.{links_at}

view_is_on : (page : Span) (t : ℕ) → Contains (cycles_of page) t → IsOn page t
unfolding cycles_of
view_is_on page t there =
    let n : ℕ = page.to + 1 - page.from in
    let inside : there.0 < n = omega (arith, there.1, length-range_with_len page.from n) in
    let is : page.from + there.0 ≡ t = sym (get_or-range_with_len page.from n there.0 t inside) ∙ there.2 in
    (omega (arith, is), omega (arith, is, inside))

has_view : (page : Span) (t : ℕ) → IsOn page t → Contains (cycles_of page) t
unfolding cycles_of
has_view page t on =
    let n : ℕ = page.to + 1 - page.from in
    let inside : t - page.from < n = omega (arith, on) in
    let back : page.from + (t - page.from) ≡ t = omega (arith, on) in (
      t - page.from,
      omega (arith, inside, length-range_with_len page.from n),
      get_or-range_with_len page.from n (t - page.from) t inside ∙ back,
    )

pub views_are_of_cycles : ViewsAreOfCycles
views_are_of_cycles page t = (view_is_on page t, has_view page t)

pub links_lead_to_views : LinksLeadToViews
unfolding links_at
links_lead_to_views page t on = record {
  first = (omega arith, omega (arith, on));
  before = elim (cases_Bool (nat_lt page.from t)) [
    | inl later ↦
        let low : page.from < t = ltb-true page.from t later in
        rw later (λ b is. let same : t - 1 ≡ b = cc in (omega arith, omega (arith, on)))
    | inr none ↦ rw none (λ b is. absurd (cc))
  ];
  after = elim (cases_Bool (nat_lt t page.to)) [
    | inl sooner ↦
        let low : t < page.to = ltb-true t page.to sooner in
        rw sooner (λ b is. let same : t + 1 ≡ b = cc in (omega (arith, on), omega arith))
    | inr none ↦ rw none (λ b is. absurd (cc))
  ];
  last = (omega (arith, on), omega arith);
}
