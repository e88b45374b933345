-- One more step.
use Rattle.std.proofs.lemmas.Grind.{common_steps}
use Rattle.std.proofs.Common.{◌∙◌, arith, get_or}
use Rattle.tomex_loops.specs.declared.coming.Coming.{Coming}
use Rattle.tomex_loops.specs.declared.coming.Move.TheVariants.{On}
use Rattle.tomex_loops.specs.Calls.{moved}
use Rattle.tomex_loops.specs.Loops.{Found, found_at, found_in}
use Rattle.tomex_loops.proofs.Found.{found_more, shows_moved}
use Rattle.tomex_loops.proofs.finding.find.Goals as goal

pub loop-coming-preserved : goal.loop-coming-preserved
loop-coming-preserved g c =
    let before = c.loop-coming.invariant.found in
    let z : Coming = record { by = On; place = 0 } in
    let next : Coming = get_or c.args.comings.now c.loop-coming.coming-index z in
    let then : Found = record before.0 { ways = moved next.by before.0.ways } in
    record {
      state = c.in_ok-come.ensures.state;
      many = c.in_ok-come.ensures.many ∙ c.in_ok-go.ensures.many ∙ c.loop-coming.invariant.many;
      few = omega (arith, c.in_ok-come.ensures.few, c.in_ok-go.ensures.few, c.loop-coming.invariant.few);
      found = (
        found_at before.0 next,
        c.in_ok-come.ensures.found then (shows_moved before.0 c.loop-coming.finder c.go.new.self next before.1
            c.in_ok-go.ensures.ways c.in_ok-go.ensures.heads c.in_ok-go.ensures.loops),
        found_more before.0 (found_in c.args.comings.now) c.args.comings.now c.loop-coming.coming-index z
            c.loop-coming-test.true before.2,
      );
    }

pub returns-clause-found : goal.returns-clause-found
returns-clause-found = grind (arith, common_steps)
