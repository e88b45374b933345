-- One visit more is counted.
use Rattle.std.proofs.Common.{◌∙◌, ap, sym, subst, refl, get_or, List, ◌++◌, ◌∷◌, [], take, ℕ, arith}
use Rattle.std.proofs.lemmas.Grind.{common_steps}
use Rattle.tomex_timing.specs.declared.need.Waits.{Waits}
use Rattle.tomex_run_views.specs.ByPlace.{Visit}
use Rattle.tomex_run_views.specs.Tally.{IsTally, visit, visits_by}
use Rattle.tomex_run_views.proofs.Tallies.{few_so_far, key_there, small_so_far, small_whole, visits_more, whole}
use Rattle.tomex_run_views.proofs.tally.count_by_key.Goals as goal

abbrev no_waits : Waits
no_waits = record { branch = 0; width = 0; station = 0; operand = 0; address = 0; memory = 0; unit = 0; bus = 0 }

pub loop-index-init : goal.loop-index-init
loop-index-init g c = λ key are. c.new-tally.ensures key

pub add-requires-clause-room : goal.add-requires-clause-room
add-requires-clause-room g c = record {
  key = c.requires.keys.0;
  visits = take c.loop-index.index (visits_by 1 c.args.steps.now c.args.waits.now);
  counted = c.loop-index.invariant c.requires.keys.0 c.requires.keys.1;
  few = few_so_far c.args.steps.now c.args.waits.now c.loop-index.index c.loop-index-test.true c.requires.few;
  small = small_so_far c.args.steps.now c.args.waits.now c.loop-index.index c.requires.waits;
}

pub loop-index-preserved : goal.loop-index-preserved
loop-index-preserved g c = λ key are.
    let index = c.loop-index.index in
    let step = c.index-steps-index.result in
    let waits = get_or c.args.waits.now index no_waits in
    let visits = take index (visits_by 1 c.args.steps.now c.args.waits.now) in
    let grown = visits_more c.args.steps.now c.args.waits.now index step waits no_waits c.loop-index-test.true
    c.requires.pairs c.index-steps-index.is refl in
    let there = key_there key c.args.keys.now c.args.steps.now index step are c.loop-index-test.true
    c.index-steps-index.is in
    let counted = c.in_ok-add.ensures key visits (c.loop-index.invariant key are) there in
    subst (λ (vs : List Visit). IsTally key vs c.add.new.self)
    (ap (λ (n : ℕ). visits ++ visit step n waits ∷ []) c.cycles_of.ensures.value ∙ sym grown) counted

pub returns-clause-counted : goal.returns-clause-counted
returns-clause-counted g c = λ key are.
    subst (λ (vs : List Visit). IsTally key vs c.loop-index.tally)
    (whole c.args.steps.now c.args.waits.now c.loop-index.index c.loop-index-test.false)
    (c.loop-index.invariant key are)

pub returns-clause-bound : goal.returns-clause-bound
returns-clause-bound g c =
    let counted = c.loop-index.invariant c.requires.keys.0 c.requires.keys.1 in
    let all = whole c.args.steps.now c.args.waits.now c.loop-index.index c.loop-index-test.false in
    rw (counted.all, all) (small_whole c.args.steps.now c.args.waits.now c.requires.few c.requires.waits).cycles

pub bounds-keys-index : goal.bounds-keys-index
bounds-keys-index = grind (arith, common_steps)
