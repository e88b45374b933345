-- The row of one group more.
use Rattle.std.proofs.Common.{◌≡◌, ◌∙◌, ◌++◌, [], ap, map, refl, rules, sym, List, Option}
use Rattle.std.proofs.lemmas.List.{append-nil}
use Rattle.std.specs.BTreeMap.{values}
use Rattle.tomex_symbols.specs.declared.symbol.Symbol.{Symbol}
use Rattle.tomex_functions.specs.Kept.{HasAddress, row_of_group}
use Rattle.tomex_functions.specs.declared.rows.Row.{Row}
use Rattle.tomex_functions.proofs.Listings.{rows_next}
use Rattle.tomex_run_views.specs.declared.tally.Group.{Group}
use Rattle.tomex_run_views.specs.declared.tally.Sum.{Sum}
use Rattle.tomex_run_views.proofs.Written.{first_of}
use Rattle.tomex_path_views.proofs.by_function.rows_of.Goals as goal

abbrev row_with : Sum → Option Symbol → Row
row_with sum function = record { function = function; calls = 0; sum = sum }

pub loop-group-init : goal.loop-group-init
loop-group-init g c =
    let all : c.into_iter-group-iterator.result ≡ values c.args.tally.now.groups = search rules in
    record {
      next = tt;
      finite = tt;
      rows = λ symbols steps is have. rw (all, c.new-rows.ensures.items) (have, refl);
    }

pub loop-group-preserved : goal.loop-group-preserved
loop-group-preserved g c = record {
  next = tt;
  finite = tt;
  rows = λ symbols steps is have.
      let before = c.loop-group.invariant.rows symbols steps is have in
      let own = first_of (λ group. HasAddress group.first.pc steps) c.in-Some.group.now _ _ c.in-Some.ensures.steps
      before.0 in
      rows_next (row_of_group symbols []) (λ group. HasAddress group.first.pc steps) _ c.in-Some.ensures.steps before.0
      before.1 (ap (row_with c.in-Some.group.now.sum) (c.function_at.ensures symbols steps is own))
      c.in_ok-push.ensures.items;
}

pub returns-clause-rows : goal.returns-clause-rows
returns-clause-rows g c = λ symbols steps is have.
    let none : c.loop-group.group-iterator ≡ [] = c.in-None.ensures.steps.0 in
    sym (append-nil c.loop-group.rows.items)
    ∙ (ap (λ (gs : List Group). c.loop-group.rows.items ++ map (row_of_group symbols []) gs) (sym none)
    ∙ (c.loop-group.invariant.rows symbols steps is have).1)
