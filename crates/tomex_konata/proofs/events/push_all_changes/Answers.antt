-- The changes of one more step.
use Rattle.std.proofs.Common.{◌∙◌, ◌++◌, List, ap}
use Rattle.std.specs.List.{flat_map}
use Rattle.std.proofs.lemmas.List.{take_all}
use Rattle.tomex_layout.proofs.Pieces.{next_piece}
use Rattle.tomex_konata.specs.declared.entries.Entry.{Entry}
use Rattle.tomex_konata.specs.Kept.{changes_of}
use Rattle.tomex_konata.proofs.events.push_all_changes.Goals as goal

pub loop-entry-preserved : goal.loop-entry-preserved
loop-entry-preserved g c =
    next_piece (changes_of c.args.last) c.args.entries.now c.loop-entry.entry-index c.entry-item.result _ _ _ _
    c.loop-entry-test.true c.entry-item.is c.loop-entry.invariant c.in_ok-push_changes.ensures

pub returns : goal.returns
returns g c =
    c.loop-entry.invariant
    ∙ ap (λ (es : List Entry). c.args.events.now.items ++ flat_map (changes_of c.args.last) es)
    (take_all c.loop-entry.entry-index c.args.entries.now c.loop-entry-test.false)
