-- One more row: its totals, and what it brings to the lists.
use Rattle.std.proofs.Common.{◌≤◌, ◌∙◌, ℕ, List, length, subst, sym, take}
use Rattle.std.specs.Prelude.{All}
use Rattle.std.proofs.lemmas.Option.{slice_get-get_or}
use Rattle.tomex_config.specs.Configuration.{plain}
use Rattle.tomex_study.specs.Cycles.{totals_on}
use Rattle.tomex_study.specs.Program.{IsProgram, Workload}
use Rattle.tomex_survey.proofs.Neighbours.{all_in_stretch, none_in_stretch, one_in_stretch}
use Rattle.tomex_choices.specs.Asking.{AreFound}
use Rattle.tomex_choices.proofs.RowLimits.{last_row, row_within}
use Rattle.tomex_choices.proofs.Finding.{row_more}
use Rattle.tomex_choices.proofs.searching.found_in_stretch.Goals as goal

pub loop-row-init : goal.loop-row-init
loop-row-init g c = record {
  programs = c.in_ok-knowledge.ensures.programs ∙ c.programs.ensures.value;
  totals = none_in_stretch (take (length c.args.study.now.programs)) (totals_on c.args.study.now.programs)
      c.args.study.now.rows _ c.args.stretch.first c.in_ok-found.ensures.totals;
  lists = c.in_ok-found.ensures.lists c.args.study.now c.args.stretch.first;
}

pub loop-row-preserved : goal.loop-row-preserved
loop-row-preserved g c =
    let low = row_within _ _ _ c.loop-row-test.true c.requires.within.within in
    record {
      programs = c.in_ok-ask_row.ensures.programs
          ∙ (c.in_ok-totals.ensures.programs ∙ c.loop-row.invariant.programs);
      totals = one_in_stretch (take (length c.args.study.now.programs)) (totals_on c.args.study.now.programs)
          c.args.study.now.rows _ _ c.args.stretch.first c.loop-row.row c.in_ok-totals.totals plain
          c.loop-row.auto.row low c.in_ok-push.ensures.items
          (c.in_ok-totals.ensures.totals _ (slice_get-get_or c.args.study.now.rows c.loop-row.row plain low))
          c.loop-row.invariant.totals;
      lists = row_more c.args.study.now c.args.stretch.first c.loop-row.row _ _ low c.loop-row.invariant.lists
          c.in_ok-ask_row.ensures.asked;
    }

pub returns : goal.returns
returns g c = record {
  totals = all_in_stretch (take (length c.args.study.now.programs)) (totals_on c.args.study.now.programs)
      c.args.study.now.rows _ c.args.stretch c.loop-row.row c.loop-row-test.false
      (c.loop-row.auto.row-end c.requires.within.order)
      c.loop-row.invariant.totals;
  lists =
      let last = last_row _ _ c.loop-row-test.false (c.loop-row.auto.row-end c.requires.within.order) in
      subst (λ (n : ℕ). AreFound c.args.study.now c.args.stretch.first n c.loop-row.found.lists.items) last
      c.loop-row.invariant.lists;
}

pub new-requires-clause-ends : goal.new-requires-clause-ends
new-requires-clause-ends g c =
    subst (λ (ps : List Workload). All IsProgram ps) (sym c.programs.ensures.value) c.keeps_limits.ensures.ends

pub new-requires-clause-few : goal.new-requires-clause-few
new-requires-clause-few g c =
    subst (λ (ps : List Workload). length ps ≤ 8) (sym c.programs.ensures.value) c.keeps_limits.ensures.few_programs

pub totals_on_row-requires-clause-row : goal.totals_on_row-requires-clause-row
totals_on_row-requires-clause-row g c = row_within _ _ _ c.loop-row-test.true c.requires.within.within

pub ask_row-requires-clause-row : goal.ask_row-requires-clause-row
ask_row-requires-clause-row g c = row_within _ _ _ c.loop-row-test.true c.requires.within.within

pub ask_row-requires-clause-programs : goal.ask_row-requires-clause-programs
ask_row-requires-clause-programs g c = c.in_ok-totals.ensures.programs ∙ c.loop-row.invariant.programs

pub ask_row-requires-clause-found : goal.ask_row-requires-clause-found
ask_row-requires-clause-found g c = c.loop-row.invariant.lists.count

pub ask_row-requires-clause-lists : goal.ask_row-requires-clause-lists
ask_row-requires-clause-lists g c = c.requires.lists
