use Rattle.std.proofs.Common.{rules, ◌≡◌, ℕ, ◌-◌, ◌∙◌, List, [], ◌∷◌, ◌++◌, Some, None, arith, ap, length, subst, sym}
use Rattle.std.proofs.lemmas.List.{length-replicate}
use Rattle.std.specs.Prelude.{replicate}
use Rattle.tomex_samples.specs.Leaders.{and_farthest, farthest}
use Rattle.tomex_samples.specs.Near.{AreNearest, no_leader}
use Rattle.tomex_samples.specs.Stretches.{Run}
use Rattle.tomex_samples.specs.Tallied.{AreOf}
use Rattle.tomex_samples.proofs.Spread.{all_spread, farthest_from, nearest_none, no_more, rest_more}
use Rattle.tomex_samples.proofs.leaders.spread.Goals as goal

pub loop-more-init : goal.loop-more-init
loop-more-init g c =
    let far : c.in_ok-near.near.items ≡ replicate c.len.result no_leader = search rules in
    let one : c.push.new.self.items ≡ c.args.first ∷ [] =
    c.in_ok-push.ensures.items ∙ ap (λ xs. xs ++ c.args.first ∷ []) c.new-leaders.ensures.items in
    let all : c.len.result ≡ length c.args.stretches.now.parts.items = omega arith in
    record {
      number =
          c.in_ok-approach.ensures.number ∙ (ap length far ∙ (length-replicate c.len.result no_leader ∙ all));
      nearest = λ run of.
          subst (λ (ls : List ℕ). AreNearest run ls c.approach.new.near.items) (sym one)
          (c.in_ok-approach.ensures.near run [] of
          (nearest_none run c.in_ok-near.near.items c.len.result far (ap length of.parts_are ∙ sym all)));
      rest = λ run of. ap (and_farthest run 7) one;
      starts = ([], one);
    }

pub returns-in_default : goal.returns-in_default
returns-in_default g c = λ run of.
    let walk = c.loop-more.invariant in
    let none : farthest run c.loop-more.leaders.items ≡ None =
    farthest_from run c.args.stretches.now.parts.items c.as_slice.result.now c.loop-more.near.items
    c.as_slice-in-loop-more.result.now c.loop-more.leaders.items walk.starts.0 c.args.first c.farthest.result
    c.farthest.ensures.value c.as_slice.ensures.value c.as_slice-in-loop-more.ensures.value of.parts_are walk.starts.1
    (walk.nearest run of) ∙ c.in_default.is in
    sym (all_spread run (7 - c.loop-more._more) c.loop-more.leaders.items none) ∙ walk.rest run of

pub loop-more-preserved : goal.loop-more-preserved
loop-more-preserved g c =
    let walk = c.loop-more.invariant in
    let longer = c.in_ok-push-2.ensures.items in
    let next : (run : Run) → AreOf run c.args.stretches.now
    → farthest run c.loop-more.leaders.items ≡ Some c.in-Some.next =
    λ run of. farthest_from run c.args.stretches.now.parts.items c.as_slice.result.now c.loop-more.near.items
    c.as_slice-in-loop-more.result.now c.loop-more.leaders.items walk.starts.0 c.args.first c.farthest.result
    c.farthest.ensures.value c.as_slice.ensures.value c.as_slice-in-loop-more.ensures.value of.parts_are walk.starts.1
    (walk.nearest run of) ∙ c.in-Some.is in
    record {
      number = c.in_ok-approach-2.ensures.number ∙ walk.number;
      nearest = λ run of.
          subst (λ (ls : List ℕ). AreNearest run ls c.approach-in-loop-more.new.near.items) (sym longer)
          (c.in_ok-approach-2.ensures.near run c.loop-more.leaders.items of (walk.nearest run of));
      rest = λ run of.
          rest_more run c.loop-more._more c.in-Some.next c.loop-more.leaders.items _ (omega arith) (next run of) longer
          ∙ walk.rest run of;
      starts = (
        walk.starts.0 ++ c.in-Some.next ∷ [],
        longer ∙ ap (λ xs. xs ++ c.in-Some.next ∷ []) walk.starts.1,
      );
    }

pub returns : goal.returns
returns g c = λ run of.
    sym (no_more run (7 - c.loop-more._more) c.loop-more.leaders.items (omega arith)) ∙ c.loop-more.invariant.rest run
    of
