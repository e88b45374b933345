-- The line of one more refusal.
use Rattle.std.proofs.Common.{ap, List, ℕ, ◌++◌, refl, arith}
use Rattle.std.proofs.lemmas.Grind.{common_steps}
use Rattle.std.specs.List.{flat_map}
use Rattle.tomex_refusals.specs.Refusals.{line_of}
use Rattle.tomex_refusals.proofs.Found.{line_more}
use Rattle.tomex_refusals.proofs.explaining.lines_of.Goals as goal

pub loop-refusal-init : goal.loop-refusal-init
loop-refusal-init g c = ap (λ (text : List ℕ). text ++ flat_map line_of c.args.refusals.now) c.new-text.ensures.bytes

pub loop-refusal-preserved : goal.loop-refusal-preserved
loop-refusal-preserved g c =
    line_more line_of c.args.refusals.now c.loop-refusal.refusal-index _ _ c.loop-refusal-test.true refl
    c.in_ok-push_line.ensures c.loop-refusal.invariant

pub returns : goal.returns
returns = grind (arith, common_steps)
