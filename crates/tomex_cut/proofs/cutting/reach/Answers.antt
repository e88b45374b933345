use Rattle.tomex_cut.proofs.Found.{reached_keeps}
use Rattle.tomex_cut.proofs.cutting.reach.Goals as goal

pub returns-clause-state : goal.returns-clause-state
returns-clause-state g c =
    (reached_keeps c.args.image.now c.saturating_sub.result c.in_ok-cpu.cpu c.skip.new.cpu
    c.fills_its_window.ensures c.in_ok-cpu.ensures c.in_ok-skip.ensures.ok).state

pub returns-clause-image : goal.returns-clause-image
returns-clause-image g c =
    (reached_keeps c.args.image.now c.saturating_sub.result c.in_ok-cpu.cpu c.skip.new.cpu
    c.fills_its_window.ensures c.in_ok-cpu.ensures c.in_ok-skip.ensures.ok).image
