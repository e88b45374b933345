use Rattle.std.proofs.Common.{rules}
use Rattle.tomex_cycle.proofs.Words.{arith, refl}
use Rattle.tomex_cycle.proofs.Known.{clear_skipped, free_to, known_later}
use Rattle.tomex_cycle.proofs.skipping.skip_free.Goals as goal

pub returns : goal.returns
returns c =
    let clear = clear_skipped c.next.result _ _ c.skippable-skipped.result c.next.ensures
    c.skippable-skipped.ensures.skips in
    record {
      least = omega arith;
      most = omega (arith, c.skippable-skipped.ensures.most, c.requires.ahead);
      free = free_to c.args.cycle c.skippable-skipped.result c.requires.timetable c.requires.none_unsent clear;
      stops = search rules;
      timetable = known_later c.args.cycle c.skippable-skipped.result
          (record { wheel = c.pass.new.self; unsent = c.args.finishes.now.unsent }) c.requires.timetable
          c.requires.none_unsent clear c.pass.ensures refl;
      none_unsent = c.requires.none_unsent;
    }
