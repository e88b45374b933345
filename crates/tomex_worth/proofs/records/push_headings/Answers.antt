-- The fields under one heading more.
use Rattle.tomex_layout.proofs.Loops.{items_pushed}
use Rattle.tomex_worth.specs.Worth.{all_headings}
use Rattle.tomex_worth.specs.WorthCsv.{fields_under}
use Rattle.tomex_worth.proofs.records.push_headings.Goals as goal

pub loop-heading-preserved : goal.loop-heading-preserved
loop-heading-preserved g c =
    items_pushed (fields_under c.args.surveyed.now c.args.own c.args.change) all_headings
    c.loop-heading.heading-index _ c.args.fields.now c.loop-heading.fields c.push_under.new.fields
    c.loop-heading-test.true c.loop-heading.invariant c.in_ok-push_under.ensures
