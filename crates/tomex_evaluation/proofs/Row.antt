-- The blocks of a run and their places.
use Rattle.std.proofs.Common.{ℕ, ◌+◌, ◌<◌, ◌≤◌, ◌≡◌, ◌^◌, arith, List, drop, get_or, length, map, take}
use Rattle.std.specs.List.{Contains}
use Rattle.std.proofs.lemmas.List.{drop_more, length-map, length-take-le}
use Rattle.std.proofs.lemmas.List.Elements.{All-contains}
use Rattle.tomex_rvexec.specs.declared.step.Step.{Step}
use Rattle.tomex_config.specs.Configuration.{Configuration}
use Rattle.tomex_timing.specs.Recent.{facts_of}
use Rattle.tomex_timing.specs.History.{greatest_end}
use Rattle.tomex_timing.proofs.Histories.{are_timed, history_bound}
use Rattle.tomex_alike.specs.Laws.{first_issue_at, history_to}
use Rattle.tomex_alike.proofs.Totals.{first_by_end}
use Rattle.tomex_repeats.specs.Blocks.{AreInARow, Blocks}
use Rattle.tomex_repeats.specs.declared.blocks.Block.{Block}
use Rattle.tomex_repeats.proofs.SameBlocks.{row_within}
use Rattle.tomex_evaluation.specs.Places.{IsCut}

-- a block of the run, whose number has an entry in each row of the table
pub record IsBlock (steps : List Step) (run : Blocks) (b : Block) : Type 0 where
  pub some : b.first < b.end
  pub within : b.end ≤ length steps
  pub number : b.number < run.different

module _ (config : Configuration) (steps : List Step) (run : Blocks) (cut : IsCut config steps run) where
  pub as_long : length (map facts_of steps) ≡ length steps
  as_long = length-map steps facts_of

  pub block_is : (b : Block) → Contains run.blocks b → IsBlock steps run b
  block_is b there =
      let within = (row_within 0 run.blocks (length (map facts_of steps)) cut.blocks.row).1 in
      let P : Block → Type 0 = λ b. (b.first < b.end) × (b.end ≤ length (map facts_of steps)) in
      let at = All-contains P run.blocks b within there in
      record {
        some = at.0;
        within = omega (arith, at.1, as_long);
        number = All-contains (λ b. b.number < run.different) run.blocks b cut.blocks.numbers there;
      }

  -- no cycle is large
  pub end_at_most : (i : ℕ) → i ≤ length steps → greatest_end (history_to config steps i) < 2 ^ 62
  end_at_most i l =
      let bound = history_bound config (take i steps) cut.limits in
      let long = length-take-le i steps in
      omega (arith, bound, long, cut.few)

  pub first_at_most : (i : ℕ) → i ≤ length steps
      → first_issue_at config steps i ≤ greatest_end (history_to config steps i) + 1
  first_at_most i l =
      first_by_end config (history_to config steps i) cut.limits (are_timed config (take i steps) cut.limits)

-- the k-th block of a row begins at the place before it
pub row_next : (place to k : ℕ) (blocks : List Block) (z : Block) → k < length blocks
    → AreInARow place (drop k blocks) to
    → ((get_or blocks k z).first ≡ place) × AreInARow (get_or blocks k z).end (drop (k + 1) blocks) to
row_next place to k blocks z l row =
    let e = drop_more blocks k z l in
    let so = rw e at row in
    (so.0, so.3)
