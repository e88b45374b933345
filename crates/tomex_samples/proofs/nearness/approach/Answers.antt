use Rattle.std.proofs.Common.{◌≡◌, ◌<◌, ◌∙◌, ap, arith, length}
use Rattle.tomex_samples.specs.Leaders.{apart, counts_at, distance}
use Rattle.tomex_samples.specs.Stretches.{Run}
use Rattle.tomex_samples.specs.Tallied.{AreOf}
use Rattle.tomex_samples.proofs.Approached.{approached_no, approached_yes}
use Rattle.tomex_samples.proofs.nearness.approach.Goals as goal
use Rattle.tomex_samples.proofs.nearness.approach.Goals.{then-distance-index, else-distance-index}

pub loop-k-preserved : goal.loop-k-preserved
loop-k-preserved g c =
    let within : c.loop-k.k < length c.loop-k.near.items = omega arith in
    let far : (run : Run) → AreOf run c.args.stretches.now → c.distance-distance.result ≡ apart run c.loop-k.k
    c.args.leader =
    λ run of. c.distance-distance.ensures.value run of
    ∙ ap (distance 1 (counts_at run c.loop-k.k)) (c.as_slice.ensures.value ∙ c.in_ok-counts.ensures run of) in
    elim c.if-distance-index.branch [
      | then-distance-index w ↦
          approached_yes _ _ c.args.stretches.now _ _ _ c.loop-k.near.items _ c.index.result.now c.loop-k.invariant
          within
          c.index.ensures w.if-distance-index.true (ap (λ v. v.items) w.near-is) far c.distance-distance.ensures.small
      | else-distance-index w ↦
          approached_no _ _ c.args.stretches.now _ _ _ c.loop-k.near.items _ c.index.result.now c.loop-k.invariant
          within
          c.index.ensures w.if-distance-index.false (ap (λ v. v.items) w.near-is) far c.distance-distance.ensures.small
    ]
