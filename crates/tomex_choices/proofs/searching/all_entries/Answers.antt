-- One more list.
use Rattle.tomex_choices.proofs.AskedRows.{list_more}
use Rattle.tomex_choices.proofs.searching.all_entries.Goals as goal

pub loop-place-preserved : goal.loop-place-preserved
loop-place-preserved g c =
    list_more c.args.rows.now c.loop-place.place c.loop-place.lists.items _ c.new.result _ c.loop-place-test.true
    c.in_ok-push.ensures.items c.new.ensures.rows c.new.ensures.place c.loop-place.invariant
