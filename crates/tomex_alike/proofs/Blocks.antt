-- The laws of one step and of a block of steps.
use Rattle.std.proofs.Common.{◌+◌, ◌≤◌, ◌≡◌, ◌∙◌, arith, refl, List, [], ◌∷◌}
use Rattle.tomex_rvexec.specs.declared.step.Step.{Step}
use Rattle.tomex_config.specs.Configuration.{Configuration}
use Rattle.tomex_timing.specs.Ahead.{one}
use Rattle.tomex_config.specs.declared.part.Part.{Part}
use Rattle.tomex_timing.specs.declared.times.Done.{Done}
use Rattle.tomex_timing.specs.History.{is_memory}
use Rattle.tomex_timing.specs.Needs.{peak}
use Rattle.tomex_timing.specs.Search.{times_of}
use Rattle.tomex_timing.proofs.Search.{times_are}
use Rattle.tomex_alike.specs.Laws.{next, after}
use Rattle.tomex_alike.specs.Laws.{StepsRepeat, BlocksRepeat}
use Rattle.tomex_alike.proofs.Next.{looks_again, first_far, far}
use Rattle.tomex_alike.proofs.Shift.{far_far}
use Rattle.tomex_alike.proofs.Totals.{total_far}
use Rattle.tomex_alike.proofs.Notes.{taken_alike, waits_alike}

pub steps_repeat : StepsRepeat
steps_repeat config w g h x y a b good in_g in_h like same p q = record {
  times = far config w g h good in_g in_h like x y same a b p q;
  alike = looks_again config w g h good in_g in_h like x y same a b p q;
  first = first_far config w g h good in_g in_h like x y same a b p q;
  taken = taken_alike config w g h good in_g in_h like x y same a b p q;
  waits = waits_alike config w g h good in_g in_h like x y same a b p q;
}

-- more steps take no less
peak_no_less : (config : Configuration) (part : Part) (h : List Done) (steps : List Step)
    → peak part h ≤ peak part (after config h steps)
peak_no_less config part h [] = omega arith
peak_no_less config part h (s ∷ steps) = omega (arith, peak_no_less config part (next config h s) steps)

pub blocks_repeat : BlocksRepeat
blocks_repeat config w g h [] [] good in_g in_h like same = record {
  alike = like;
  first = record { first = omega arith; second = omega arith; far = omega arith };
  total = total_far config w g h good in_g in_h like;
  stalls = λ part. omega arith;
  peak = λ part l. refl;
}
blocks_repeat config w g h [] (y ∷ ys) good in_g in_h like same = absurd same
blocks_repeat config w g h (x ∷ xs) [] good in_g in_h like same = absurd same
blocks_repeat config w g h (x ∷ xs) (y ∷ ys) good in_g in_h like same =
    let p = times_are config g x good in_g in
    let q = times_are config h y good in_h in
    let one_step = steps_repeat config w g h x y (times_of config g x) (times_of config h y) good in_g in_h like same.0
    p q in
    let rest = blocks_repeat config (w + one (is_memory x)) (next config g x) (next config h y) xs ys good (p, in_g)
    (q, in_h) one_step.alike same.1 in
    record {
      alike = rest.alike;
      first = far_far _ _ _ _ _ _ one_step.first rest.first;
      total = far_far _ _ _ _ _ _ one_step.first rest.total;
      stalls = λ part. omega (arith, rest.stalls part, one_step.waits part);
      peak = λ part l.
          let up = peak_no_less config part (next config g x) xs in
          let same_take = one_step.taken part in
          let e : peak part (next config h y) ≡ peak part h = omega (arith, up, same_take) in
          rest.peak part (omega (arith, e)) ∙ e;
    }
