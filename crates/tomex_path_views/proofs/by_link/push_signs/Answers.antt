-- The sign of one more cycle.
use Rattle.std.proofs.Common.{◌∙◌, ap, ℕ, List, ◌++◌}
use Rattle.std.specs.Prelude.{string_bytes}
use Rattle.tomex_path_views.proofs.Signs.{sign_more}
use Rattle.tomex_path_views.proofs.by_link.push_signs.Goals as goal

pub loop-cycle-preserved : goal.loop-cycle-preserved
loop-cycle-preserved c =
    sign_more c.args.at.now c.args.link.now.to c.loop-cycle.cycle (string_bytes c.loop-cycle.text)
    (string_bytes c.push_str.new.self) _ c.loop-cycle-test.true
    (c.in_ok-push_str.ensures.bytes ∙ ap (λ (z : List ℕ). string_bytes c.loop-cycle.text ++ z) c.sign_in.ensures)
    c.loop-cycle.invariant
