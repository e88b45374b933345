-- Before the first step nothing is held, and that shows the empty history.
use Rattle.std.proofs.Common.{ℕ, ◌+◌, ◌-◌, ◌≡◌, true, arith, refl, sym, ap, [], nat_lt}
use Rattle.std.proofs.lemmas.Bool.{ltb-true}
use Rattle.std.proofs.lemmas.List.{get_or-replicate}
use Rattle.tomex_config.specs.Configuration.{Configuration}
use Rattle.tomex_reservations.specs.Reservations.{end_at}
use Rattle.tomex_timing.specs.Ahead.{IsSettledBy, nothing_held}
use Rattle.tomex_timing.specs.Issue.{first_issue}
use Rattle.tomex_timing.proofs.Summary.{empty_summary, holds_later}
use Rattle.tomex_alike.specs.Alike.{first_access, issued_in}
use Rattle.tomex_states.specs.States.{IsWindow, Shows, ShowsLatest, no_accesses}
use Rattle.tomex_states.proofs.Latest.{one_more_of}

settled_none : IsSettledBy nothing_held
settled_none =
    let none = empty_summary.holds in
    record {
      base = omega arith;
      starts = λ unit t l. none.starts unit t l;
      results = λ t l. none.results t l;
      stations = λ pool n l.
          let free : nat_lt (end_at nothing_held.ends pool n) 1 ≡ true =
          sym (none.stations pool 1 n (omega arith) (omega arith) l) in
          let low = ltb-true (end_at nothing_held.ends pool n) 1 free in
          omega arith;
      finishes = none.finishes;
      ends = λ r l. omega (arith, empty_summary.kept.ends r l);
      zero = empty_summary.kept.ends 0 (omega arith);
      issue = omega arith;
      branch = omega arith;
      address = omega arith;
    }

latest_none : (config : Configuration) → ShowsLatest config [] nothing_held.latest
latest_none config = record {
  first = refl;
  issued = one_more_of (issued_in []) (first_issue config []) 0 0 (λ e. refl) (λ n. refl);
  width = refl;
  end = refl;
  address = refl;
  ends = λ r l. ap (λ t. t - first_issue config []) (empty_summary.kept.ends r l);
  count = empty_summary.kept.count;
  few = omega arith;
}

pub shows_nothing : (config : Configuration) → Shows config [] nothing_held
shows_nothing config = record {
  latest = latest_none config;
  holds = holds_later 0 (first_issue config []) [] nothing_held (omega arith) empty_summary.holds;
  settled = settled_none;
}

pub window_none : (config : Configuration) → IsWindow config [] no_accesses
window_none config = record {
  finishes = λ i l. ap (λ f. f + 1 - first_access config []) (sym (get_or-replicate {A = ℕ} 4 i 0 0 l));
  older = λ i l. omega arith;
  count = refl;
}
