-- Before the first step, and one more.
use Rattle.std.proofs.lemmas.Grind.{common_steps}
use Rattle.std.proofs.Common.{◌∙◌, ◌+◌, ◌++◌, ◌∷◌, [], ℕ, List, Option, ap, append_assoc, arith, drop, get_or, map}
use Rattle.std.proofs.Common.{refl, sym}
use Rattle.tomex_loops.specs.declared.coming.Coming.{Coming}
use Rattle.tomex_loops.specs.declared.coming.Move.TheVariants.{On}
use Rattle.tomex_loops.specs.Loops.{Found}
use Rattle.tomex_loops.specs.Visits.{Walk, innermost, innermost_here, setting_out, walk_after, walk_on, walks_after}
use Rattle.tomex_loops.specs.Walking.{found_by}
use Rattle.tomex_loops.proofs.WalkSteps.{walk_more, walks_more}
use Rattle.tomex_loops.proofs.visiting.walk.Goals as goal

pub loop-now-init : goal.loop-now-init
loop-now-init g c = record {
  state = record {
    low = omega arith;
    bases = rw c.new-2.ensures.items tt;
    grounded = rw c.new-2.ensures.items refl;
  };
  few = rw c.new-3.ensures.items (omega arith);
  shows = (
    setting_out,
    record {
      under_way = rw (c.new.ensures.items, c.new-2.ensures.items) refl;
      visits = c.new-3.ensures.items;
      ends = c.new-4.ensures.items;
      rounds = c.new-5.ensures.items;
    },
    refl,
    refl,
    rw c.new-6.ensures.items refl,
    rw c.new-7.ensures.items refl,
  );
}

pub loop-now-preserved : goal.loop-now-preserved
loop-now-preserved g c =
    let f : Found = found_by c.args.forest.now.heads.items c.args.forest.now.loops.items in
    let z : Coming = record { by = On; place = 0 } in
    let x : Coming = get_or c.args.comings.now c.loop-now.now z in
    let was = c.loop-now.invariant.shows in
    let w : Walk = c.loop-now.invariant.shows.0 in
    let rest : List Walk = walks_after f (walk_on f w x) (drop (c.loop-now.now + 1) c.args.comings.now) in
    record {
      state = c.in_ok-walk_on.ensures.state;
      few = omega (arith, c.in_ok-walk_on.ensures.visits, c.loop-now.invariant.few);
      shows = (
        walk_on f w x,
        c.in_ok-walk_on.ensures.shows w (sym was.2) was.1,
        ap (λ (n : ℕ). n + 1) was.2,
        walk_more f w (walk_after f setting_out c.args.comings.now) c.args.comings.now c.loop-now.now z
            c.loop-now-test.true was.3,
        ap (λ (os : List (Option ℕ)). os ++ map (λ (u : Walk). innermost u.under_way) rest)
            (c.in_ok-walk_on.ensures.innermost w (sym was.2) was.1)
            ∙ append_assoc c.loop-now.walker.innermost.items (innermost (walk_on f w x).under_way ∷ [])
            (map (λ (u : Walk). innermost u.under_way) rest)
            ∙ sym (ap (λ (us : List Walk). c.loop-now.walker.innermost.items
            ++ map (λ (u : Walk). innermost u.under_way) us)
            (walks_more f w c.args.comings.now c.loop-now.now z c.loop-now-test.true))
            ∙ was.4,
        ap (λ (os : List (Option ℕ)). os ++ map (λ (u : Walk). innermost_here u.under_way) rest)
            (c.in_ok-walk_on.ensures.here w (sym was.2) was.1)
            ∙ append_assoc c.loop-now.walker.here.items (innermost_here (walk_on f w x).under_way ∷ [])
            (map (λ (u : Walk). innermost_here u.under_way) rest)
            ∙ sym (ap (λ (us : List Walk). c.loop-now.walker.here.items
            ++ map (λ (u : Walk). innermost_here u.under_way) us)
            (walks_more f w c.args.comings.now c.loop-now.now z c.loop-now-test.true))
            ∙ was.5,
      );
    }

pub returns-clause-here : goal.returns-clause-here
returns-clause-here = grind (arith, common_steps)

pub returns-clause-visits : goal.returns-clause-visits
returns-clause-visits = grind (arith, common_steps)

pub returns-clause-rounds : goal.returns-clause-rounds
returns-clause-rounds = grind (arith, common_steps)

pub walk_on-requires-clause-place : goal.walk_on-requires-clause-place
walk_on-requires-clause-place = grind (arith, common_steps)

pub returns-clause-ends : goal.returns-clause-ends
returns-clause-ends = grind (arith, common_steps)

pub returns-clause-innermost : goal.returns-clause-innermost
returns-clause-innermost = grind (arith, common_steps)
