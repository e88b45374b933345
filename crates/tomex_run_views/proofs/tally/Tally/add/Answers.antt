-- One visit more is counted with its key and in all.
use Rattle.std.proofs.Common.{◌≡◌, arith, refl, sym, subst, ◌^◌, ◌<◌, ◌≤◌, ℕ, Option}
use Rattle.std.specs.Prelude.{unwrap_or}
use Rattle.std.proofs.lemmas.Grind.{common_steps}
use Rattle.tomex_rvexec.specs.declared.step.Step.{Step}
use Rattle.tomex_timing.specs.Waiting.{AreWithin}
use Rattle.tomex_run_views.specs.declared.tally.Group.{Group}
use Rattle.tomex_run_views.specs.declared.tally.Sum.{Sum}
use Rattle.tomex_run_views.specs.Tally.{no_sum, visit}
use Rattle.tomex_run_views.proofs.Tallies.{all_more, at_more, before, small_group, small_sum}
use Rattle.tomex_run_views.proofs.tally.Tally.add.Goals as goal

-- what an entry has, by what the map had
kept : (now : Group) (value had counted : Option Group) (made : Group) (step : Step) → now ≡ unwrap_or value made
    → value ≡ had → had ≡ counted → made ≡ record { first = step; sum = no_sum } → now ≡ before counted step
kept now value had counted made step is has was new = rw (is, has, was, new) refl

few_enough : (n : ℕ) → n < 262144 → n ≤ 262144
few_enough n few = omega (arith, few)

pub add-requires-clause-old_cycles : goal.add-requires-clause-old_cycles
add-requires-clause-old_cycles g c =
    let room = c.requires.room in
    let small = small_sum room.visits (few_enough _ room.few) room.small in
    rw room.counted.all (omega (arith, small.cycles))

pub add-requires-clause-sum : goal.add-requires-clause-sum
add-requires-clause-sum g c =
    let room = c.requires.room in
    let small = small_sum room.visits (few_enough _ room.few) room.small in
    subst (λ (s : Sum). AreWithin (2 ^ 63) s.waits) (sym room.counted.all) small.waits

pub add-requires-2-clause-steps : goal.add-requires-2-clause-steps
add-requires-2-clause-steps g c =
    let room = c.requires.room in
    let had = kept c.or_insert-group.result.now _ _ _ c.new.result c.args.step.now c.or_insert-group.ensures.value
    c.in_ok-self.ensures.value (room.counted.groups c.args.key) c.new.ensures in
    subst (λ (p : Group). p.sum.steps < 2 ^ 63) (sym had)
    (small_group room.key room.visits c.args.key c.args.step.now (few_enough _ room.few) room.small).steps

pub add-requires-2-clause-old_cycles : goal.add-requires-2-clause-old_cycles
add-requires-2-clause-old_cycles g c =
    let room = c.requires.room in
    let had = kept c.or_insert-group.result.now _ _ _ c.new.result c.args.step.now c.or_insert-group.ensures.value
    c.in_ok-self.ensures.value (room.counted.groups c.args.key) c.new.ensures in
    let small = small_group room.key room.visits c.args.key c.args.step.now (few_enough _ room.few) room.small in
    subst (λ (p : Group). p.sum.cycles ≤ 2 ^ 63) (sym had) (omega (arith, small.cycles))

pub add-requires-2-clause-sum : goal.add-requires-2-clause-sum
add-requires-2-clause-sum g c =
    let room = c.requires.room in
    let had = kept c.or_insert-group.result.now _ _ _ c.new.result c.args.step.now c.or_insert-group.ensures.value
    c.in_ok-self.ensures.value (room.counted.groups c.args.key) c.new.ensures in
    subst (λ (p : Group). AreWithin (2 ^ 63) p.sum.waits) (sym had)
    (small_group room.key room.visits c.args.key c.args.step.now (few_enough _ room.few) room.small).waits

pub returns : goal.returns
returns g c = λ of visits counted there.
    let more = visit c.args.step.now c.args.cycles c.args.waits.now in
    record {
      groups = λ k.
          let had = kept c.or_insert-group.result.now _ _ _ c.new.result c.args.step.now c.or_insert-group.ensures.value
          c.in_ok-self.ensures.value (counted.groups c.args.key) c.new.ensures in
          grind (
            arith,
            common_steps,
            at_more of visits more k there ((c.in_ok-self.ensures.update.0 c.add-2.new.self).0 k) (counted.groups k) had
                c.add-2.ensures,
          );
      all = all_more visits more counted.all c.add.ensures;
    }
