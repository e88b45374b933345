-- One more list.
use Rattle.std.proofs.Common.{◌≡◌, ◌∙◌, ap, arith, ◌==◌}
use Rattle.std.specs.Prelude.{if◌then◌else◌}
use Rattle.std.proofs.lemmas.List.{get_or_default}
use Rattle.tomex_config.specs.Parts.{all_parts}
use Rattle.tomex_config.specs.declared.part.Part.{Part}
use Rattle.tomex_config.specs.Parts.{same_entry}
use Rattle.tomex_choices.specs.Asking.{are_alike, are_alike_in}
use Rattle.tomex_config.specs.Parts.{same_latency}
use Rattle.tomex_config.proofs.EachPart.{all_fails, all_hold, all_holds}
use Rattle.tomex_choices.proofs.entries.are_alike.Goals as goal

pub returns-then-not-is_alike_in : goal.returns-then-not-is_alike_in
unfolding are_alike
returns-then-not-is_alike_in c =
    let a = c.args.a.now in
    let b = c.args.b.now in
    let is = c.is_alike_in.ensures
    ∙ ap (λ (p : Part). if c.loop-k.k == c.args.place then same_latency p a b else same_entry a b p)
    (get_or_default all_parts c.loop-k.k _ _ c.loop-k-test.true) in
    all_fails (are_alike_in c.args.place a b) c.loop-k.k _ _ c.loop-k-test.true is c.if-not-is_alike_in.true
    c.loop-k.invariant

pub loop-k-preserved : goal.loop-k-preserved
loop-k-preserved c =
    let a = c.args.a.now in
    let b = c.args.b.now in
    let is = c.is_alike_in.ensures
    ∙ ap (λ (p : Part). if c.loop-k.k == c.args.place then same_latency p a b else same_entry a b p)
    (get_or_default all_parts c.loop-k.k _ _ c.loop-k-test.true) in
    all_holds (are_alike_in c.args.place a b) c.loop-k.k _ _ c.loop-k-test.true is c.if-not-is_alike_in.false
    c.loop-k.invariant

pub returns : goal.returns
unfolding are_alike
returns c =
    let last : c.loop-k.k ≡ 13 = omega (arith, c.loop-k-test.false, c.loop-k.auto.k-end) in
    all_hold (are_alike_in c.args.place c.args.a.now c.args.b.now) c.loop-k.k _ last c.loop-k.invariant
