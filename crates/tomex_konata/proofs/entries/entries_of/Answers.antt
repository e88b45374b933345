-- One more step is gathered.
use Rattle.std.proofs.Common.{None, refl, rules, ◌<◌, ap, ◌∙◌}
use Rattle.std.specs.Option.{ForSome}
use Rattle.tomex_konata.specs.Kept.{writer_in}
use Rattle.tomex_konata.proofs.Steps.{all_gathered, none_gathered, one_gathered}
use Rattle.tomex_konata.proofs.entries.entries_of.Goals as goal

pub loop-id-init : goal.loop-id-init
loop-id-init g c = rw c.none-writers.ensures
    (none_gathered c.args.steps.now c.args.times.now _ c.new-entries.ensures.items)

pub loop-id-preserved : goal.loop-id-preserved
loop-id-preserved g c =
    let j_low : ForSome c.j.result (λ o. o.register < 32) = search rules in
    let k_low : ForSome c.k.result (λ o. o.register < 32) = search rules in
    one_gathered c.index-steps-id.result
    (record { issue = 0; address = None; start = 0; finish = 0; end = 0; station = None }) c.loop-id.invariant
    c.loop-id-test.true c.requires.pairs c.index-steps-id.is refl
    (c.producer-j.ensures ∙ ap (writer_in c.loop-id.writers.of) c.j.ensures.value)
    (c.producer-k.ensures ∙ ap (writer_in c.loop-id.writers.of) c.k.ensures.value) (rw c.j.ensures.value at j_low)
    (rw c.k.ensures.value at k_low) c.note.ensures c.in_ok-push.ensures.items

pub returns : goal.returns
returns g c = all_gathered c.loop-id.invariant c.loop-id-test.false
