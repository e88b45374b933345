-- No program takes more cycles than the machine advances to, so it has ended, in the last state.
use Rattle.std.proofs.Common.{◌∙◌}
use Rattle.tomex_sweep.proofs.Machines.{to_end}
use Rattle.tomex_plateaus.proofs.Totals.{ends_at_most}
use Rattle.tomex_texts.proofs.Ended.{filled}
use Rattle.tomex_report.proofs.Machines.{is_last}
use Rattle.tomex_report.proofs.program_ends.program_end.Goals as goal

pub finish-end-requires : goal.finish-end-requires
finish-end-requires g c =
    (to_end c.args.config.now c.args.program.now _ _ c.keeps_limits.ensures c.keeps_limits-2.ensures
    (rw c.image-2.ensures.value at c.in_ok-machine.ensures.start) c.advance.ensures.advances.after_ticks).ended

pub ranges_bytes-requires-clause-fills : goal.ranges_bytes-requires-clause-fills
ranges_bytes-requires-clause-fills g c =
    let ends = ends_at_most c.args.program.now c.keeps_limits-2.ensures in
    let ended = to_end c.args.config.now c.args.program.now _ _ c.keeps_limits.ensures c.keeps_limits-2.ensures
    (rw c.image-2.ensures.value at c.in_ok-machine.ensures.start) c.advance.ensures.advances.after_ticks in
    let last = is_last c.args.program.now.image _ c.finish-end.result ends ended.image c.finish-end.ensures.ends in
    let loaded = rw c.image.ensures.value at c.window-window.ensures.loaded in
    let window = rw c.image.ensures.value at c.window-window.ensures.value in
    rw (c.bytes.ensures.value, last.bytes, window) (filled c.args.program.now.image loaded ends)

pub returns : goal.returns
returns g c =
    let ends = ends_at_most c.args.program.now c.keeps_limits-2.ensures in
    let ended = to_end c.args.config.now c.args.program.now _ _ c.keeps_limits.ensures c.keeps_limits-2.ensures
    (rw c.image-2.ensures.value at c.in_ok-machine.ensures.start) c.advance.ensures.advances.after_ticks in
    let last = is_last c.args.program.now.image _ c.finish-end.result ends ended.image c.finish-end.ensures.ends in
    let window = rw c.image.ensures.value at c.window-window.ensures.value in
    record {
      total = c.cycle-total.ensures.value ∙ ended.cycle;
      kind = last.kind;
      pc = last.pc;
      steps = last.steps;
      regs = last.regs;
      watched = rw (c.bytes.ensures.value, last.bytes, window, c.watch.ensures.value) at c.in_ok-watched.ensures;
    }
