-- One more register.
use Rattle.tomex_frames.specs.Blank.{blank_register}
use Rattle.tomex_snapshots.proofs.Lists.{number_more}
use Rattle.tomex_frames.proofs.blank.push_some_registers.Goals as goal

pub loop-register-preserved : goal.loop-register-preserved
loop-register-preserved g c =
    number_more blank_register c.loop-register.register c.args.to _ _ _ c.loop-register-test.true
    c.in_ok-push_blank_register.ensures c.loop-register.invariant
