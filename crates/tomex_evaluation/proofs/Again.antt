-- One block from the table: another one of its number was evaluated, and the run looked then as it looks now. So it
-- looks as it looked after that one, as many cycles have passed, and the block asks for nothing new.
use Rattle.std.proofs.Common.{ℕ, zero, suc, ◌+◌, ◌-◌, ◌≤◌, ◌≡◌, ◌==◌, ◌∙◌, arith, refl, sym, List, length, map}
use Rattle.std.proofs.Common.{false}
use Rattle.std.specs.List.{Contains}
use Rattle.std.proofs.lemmas.Bool.{ne_eqb}
use Rattle.tomex_rvexec.specs.declared.step.Step.{Step}
use Rattle.tomex_config.specs.Configuration.{Configuration}
use Rattle.tomex_config.specs.declared.part.Part.{Part}
use Rattle.tomex_timing.specs.declared.demands.Demands.{Demands}
use Rattle.tomex_timing.specs.Needs.{stalls}
use Rattle.tomex_timing.specs.Recent.{facts_of}
use Rattle.tomex_alike.specs.Laws.{AsksForNothingNew, ComesBack, first_issue_at, history_to, window_to}
use Rattle.tomex_alike.proofs.Runs.{no_less, runs_ask_for_nothing_new, runs_repeat}
use Rattle.tomex_alike.proofs.Same.{another_window, looks_sym, looks_trans}
use Rattle.tomex_repeats.specs.Blocks.{Blocks}
use Rattle.tomex_repeats.specs.declared.blocks.Block.{Block}
use Rattle.tomex_repeats.proofs.ComesBack.{blocks_come_back}
use Rattle.tomex_repeats.proofs.SameBlocks.{pair_of}
use Rattle.tomex_states.specs.States.{AreNoted}
use Rattle.tomex_evaluation.specs.Places.{IsBack, IsCut, WentThrough}
use Rattle.tomex_evaluation.proofs.Asked.{noted_still}
use Rattle.tomex_evaluation.proofs.Row.{block_is}

-- After a block the run looks as at place q, `passed` cycles after the first one before the block, and what was noted
-- before it holds still.
pub record IsAgain (config : Configuration) (steps : List Step) (q i end passed : ℕ) : Type 0 where
  pub after : IsBack config steps q end
  pub later : first_issue_at config steps end ≡ first_issue_at config steps i + passed
  pub noted : (demands : Demands) → AreNoted config (history_to config steps i) demands
      → AreNoted config (history_to config steps end) demands

-- two stretches of a run, of which the second repeats the first
module _ (config : Configuration) (steps : List Step) (run : Blocks) (cut : IsCut config steps run) where
  module _ (p i n : ℕ) (back : ComesBack config 4 steps p i n) where
    asks : (part : Part) → AsksForNothingNew config part steps p i n
    asks part = runs_ask_for_nothing_new config 4 part steps p i n cut.limits back

    -- it has stalls of the same parts
    stalls_same : (part : Part) → (stalls config part (history_to config steps (i + n)) == 0)
        ≡ (stalls config part (history_to config steps i) == 0)
    stalls_same part =
        let there = back.there in
        let more = (no_less config steps cut.limits i (i + n) (omega arith) there).stalled part in
        at (stalls config part (history_to config steps i)) (stalls config part (history_to config steps (i + n))) more
        (asks part).unstalled
      where
        at : (a b : ℕ) → a ≤ b → (a ≡ 0 → b ≡ 0) → (b == 0) ≡ (a == 0)
        at zero b l none = let e = none refl in rw e refl
        at (suc a) zero l none = absurd (omega arith)
        at (suc a) (suc b) l none =
            let x : (suc b == 0) ≡ false = ne_eqb (suc b) 0 (λ (e : suc b ≡ 0). absurd (omega arith)) in
            let y : (suc a == 0) ≡ false = ne_eqb (suc a) 0 (λ (e : suc a ≡ 0). absurd (omega arith)) in
            x ∙ sym y

    again : (q : ℕ) → IsBack config steps q (p + n)
        → IsAgain config steps q i (i + n) (first_issue_at config steps (p + n) - first_issue_at config steps p)
    again q at_q =
        let so = runs_repeat config 4 steps p i n cut.limits back in
        let within : p + n ≤ length steps = omega (arith, back.earlier, back.there) in
        let up = (no_less config steps cut.limits p (p + n) (omega arith) within).first in
        let state = another_window config 4 (window_to 4 steps p n) (history_to config steps (p + n))
        (history_to config steps (i + n)) (λ j l. (at_q.older j l).1) so.state in
        record {
          after = looks_trans config 4 _ _ _ at_q state;
          later = omega (arith, so.since, so.first, up);
          noted = λ demands noted. noted_still config (history_to config steps i) (history_to config steps (i + n))
              (λ part. (asks part).taken) stalls_same demands noted;
        }

  -- a block whose number has an entry
  pub block_again : (b : Block) (p q passed : ℕ) → Contains run.blocks b
      → WentThrough config steps run b.first p b.number q passed → IsBack config steps p b.first
      → IsAgain config steps q b.first b.end passed
  block_again b p q passed there went at_p =
      let a = went.block in
      let pair = pair_of steps (map facts_of steps) run a b cut.facts cut.blocks went.there there went.numbered in
      let is_a = block_is config steps run cut a went.there in
      let is_b = block_is config steps run cut b there in
      let n = a.end - a.first in
      let alike = looks_trans config 4 _ _ _ (looks_sym config 4 _ _ went.before) at_p in
      let back = blocks_come_back config steps (map facts_of steps) run a b cut.facts cut.blocks went.there there
      went.numbered (omega (arith, is_a.some, went.ended)) alike in
      let e : a.first + n ≡ a.end = omega (arith, is_a.some) in
      let f : b.first + n ≡ b.end = omega (arith, is_b.some, pair.same.long) in
      let c : first_issue_at config steps a.end - first_issue_at config steps a.first ≡ passed =
      omega (arith, went.later) in
      rw (e, f, c) at (again a.first b.first n back q (rw e went.after))
