-- A row's entry is added if none of those found so far is the same.
use Rattle.std.proofs.Common.{◌∙◌, ap, List, ◌++◌}
use Rattle.std.specs.List.{list_any}
use Rattle.tomex_config.specs.Configuration.{Configuration}
use Rattle.tomex_compare.specs.Groups.{shows_same}
use Rattle.tomex_compare.proofs.Likeness.{all_found, all_new, new_entries, new_entry, old_entry}
use Rattle.tomex_compare.proofs.entries.entries_of.Goals as goal
use Rattle.tomex_compare.proofs.entries.entries_of.Goals.{then-not-is_shown+in_ok-push, else-not-is_shown}

pub loop-config-init : goal.loop-config-init
loop-config-init c =
    ap (λ (cs : List Configuration). cs ++ new_entries c.args.part cs c.args.rows.now) c.new-entries.ensures.items
    ∙ all_new c.args.part c.args.rows.now

pub loop-config-preserved : goal.loop-config-preserved
loop-config-preserved c =
    let tested = c.is_shown.ensures
    ∙ ap (λ (es : List Configuration). list_any (λ e. shows_same c.args.part e c.config-item.result) es)
    c.as_slice.ensures.value in
    elim c.if-not-is_shown.branch [
      | then-not-is_shown+in_ok-push w ↦
          rw w.entries-is (new_entry c.args.part c.args.rows.now c.loop-config.entries.items c.loop-config.config-index
          c.config-item.result c.loop-config-test.true c.config-item.is c.loop-config.invariant c.is_shown.result tested
          w.if-not-is_shown.true _ w.in_ok-push.ensures.items)
      | else-not-is_shown w ↦
          rw w.entries-is (old_entry c.args.part c.args.rows.now c.loop-config.entries.items c.loop-config.config-index
          c.config-item.result c.loop-config-test.true c.config-item.is c.loop-config.invariant c.is_shown.result tested
          w.if-not-is_shown.false)
    ]

pub returns : goal.returns
returns c =
    all_found c.args.part c.args.rows.now _ c.loop-config.config-index c.loop-config-test.false
    c.loop-config.invariant
