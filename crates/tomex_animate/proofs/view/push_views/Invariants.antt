-- The text so far, and the views to come; the links before the place end before the next view's cycle.
use Rattle.std.proofs.Common.{◌≡◌, ◌≤◌, ◌+◌, ◌-◌, ◌++◌, length, take, true}
use Rattle.std.specs.Prelude.{All, nat_lt, string_bytes}
use Rattle.std.specs.List.{flat_map, range_with_len}
use Rattle.tomex_animate.specs.Page.{view_of}
use Rattle.tomex_animate.proofs.view.push_views.Given as goal

abbrev pub invariant-loop-cycle : goal.invariant-loop-cycle
invariant-loop-cycle g l = record {
  text : string_bytes l.text
      ++ flat_map (view_of l.views.cells l.views.config.now l.views.page l.views.total l.views.steps.now
      l.views.last.now l.views.path.now l.views.entries.now) (range_with_len l.cycle (l.to + 1 - l.cycle))
      ≡ string_bytes l.fn.text
      ++ flat_map (view_of l.views.cells l.views.config.now l.views.page l.views.total l.views.steps.now
      l.views.last.now l.views.path.now l.views.entries.now) (range_with_len l.from (l.to + 1 - l.from));
  few : l.place ≤ length l.views.path.now;
  passed : All (λ k. nat_lt k.to l.cycle ≡ true) (take l.place l.views.path.now);
}
