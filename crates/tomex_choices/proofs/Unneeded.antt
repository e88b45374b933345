-- More of parts that no program waits for on a row changes no cycles.
use Rattle.std.proofs.Common.{◌≡◌, ◌≤◌, arith, sym, ◌∙◌, inl, inr}
use Rattle.std.proofs.lemmas.List.Elements.{All-contains}
use Rattle.tomex_config.specs.Configuration.{Configuration, IsWithinLimits}
use Rattle.tomex_plateaus.proofs.Totals.{total_within}
use Rattle.tomex_study.specs.Program.{IsProgram, Workload, steps_of}
use Rattle.tomex_study.specs.Study.{DesignSpace, IsStudy}
use Rattle.tomex_timing.proofs.Histories.{are_timed}
use Rattle.tomex_timing.proofs.SameTimes.{serves_runs}
use Rattle.tomex_timing.proofs.Taken.{peak_within}
use Rattle.tomex_timing.specs.Needs.{Serves, peak}
use Rattle.tomex_config.specs.Parts.{count_of}
use Rattle.tomex_timing.specs.Run.{total}
use Rattle.tomex_timing.specs.Search.{history}
use Rattle.tomex_choices.specs.Laws.{HasMoreUnneeded, MoreOfTheUnneededChangesNothing}
use Rattle.tomex_choices.specs.Passing.{Has}
use Rattle.tomex_choices.proofs.Passes.{contains_from}
use Rattle.tomex_choices.proofs.PriceFree.{same_cycles}

served : (s : DesignSpace) (c d : Configuration) (p : Workload) → IsWithinLimits c → HasMoreUnneeded s c d
    → Has s.programs p → Serves c d (history c (steps_of p))
served s c d p lawful more h = record {
  parts = λ part. elim (more.parts part) [
    | inl same ↦ inl same
    | inr w ↦
        let most : peak part (history c (steps_of p)) ≤ count_of c part =
        peak_within c (history c (steps_of p)) part (are_timed c (steps_of p) lawful) in
        let many : count_of c part ≤ count_of d part = w.0 in
        inr (w.1 p (contains_from s.programs p h), omega arith)
  ];
  latencies = λ unit. inl (more.latencies unit);
}

same_too : (s : DesignSpace) (c d : Configuration) (p : Workload) → IsStudy s → IsWithinLimits c → IsWithinLimits d
    → HasMoreUnneeded s c d → Has s.programs p → total d p.image ≡ total c p.image
same_too s c d p is lawful within more h =
    let own = All-contains IsProgram s.programs p is.ends (contains_from s.programs p h) in
    let runs = serves_runs c d (steps_of p) lawful within (served s c d p lawful more h) in
    total_within p d own ∙ (runs.1 ∙ sym (total_within p c own))

pub nothing_needed : MoreOfTheUnneededChangesNothing
nothing_needed s c d reweighted is row within images more =
    same_cycles reweighted s.programs d c images
    (λ p h. same_too s c d p is (All-contains IsWithinLimits s.rows c is.limits row) within more h)
