-- Machines of a study's programs that were asked to advance to a cycle, and stopped at their ends.
use Rattle.std.proofs.Common.{◌≡◌, ◌<◌, ℕ, List, arith, ap, ap₂, sym, subst, ◌∙◌, min}
use Rattle.tomex_image.specs.Image.{Loaded}
use Rattle.tomex_rvexec.specs.Run.{EndsWithin}
use Rattle.tomex_config.specs.Configuration.{Configuration}
use Rattle.tomex_timing.specs.Tables.{Tables}
use Rattle.tomex_timing.specs.Tables.{tables_of}
use Rattle.tomex_cycle.specs.declared.progress.Progress.TheVariants.{Running}
use Rattle.tomex_timing.specs.Run.{run_of, total}
use Rattle.tomex_cycle.specs.Seen.{Seen, seen_after}
use Rattle.tomex_study.specs.Program.{Workload, IsProgram}
use Rattle.tomex_sweep.proofs.Machines.{Advances, advanced_from}
use Rattle.tomex_plateaus.proofs.Totals.{ends_at_most}
use Rattle.tomex_texts.specs.TablesText.{tables_text_of}
use Rattle.tomex_command.specs.RunViews.{IsTextAfter}

-- the state of a machine of the program on the configuration after that
pub record HasAdvanced (config : Configuration) (p : Workload) (to : ℕ) (n : Seen) : Type 0 where
  pub image : n.image ≡ p.image
  pub config_is : n.config ≡ config
  pub cycle : n.cycle ≡ min to (total config p.image)

pub has_advanced : (config : Configuration) (p : Workload) (m n : Seen) (to : ℕ) → IsProgram p
    → m ≡ record { image = p.image; config = config; cycle = 0; status = Running } → Advances m n to
    → HasAdvanced config p to n
has_advanced config p m n to program is goes =
    let start : m.cycle ≡ 0 = ap (λ (s : Seen). s.cycle) is in
    let at : n ≡ seen_after p.image config to =
    advanced_from p config m n to program (ap (λ (s : Seen). s.image) is) (ap (λ (s : Seen). s.config) is)
    (omega (arith, start)) goes in
    record {
      image = ap (λ (s : Seen). s.image) at;
      config_is = ap (λ (s : Seen). s.config) at;
      cycle = ap (λ (s : Seen). s.cycle) at;
    }

-- if it reached the cycle, it shows the tables of that cycle
pub is_text : (config : Configuration) (p : Workload) (to : ℕ) (n : Seen) (t : Tables) (text : List ℕ) → IsProgram p
    → HasAdvanced config p to n → (n.cycle < to → ⊥)
    → (EndsWithin n.image 262144 → t ≡ tables_of n.cycle (run_of n.config n.image)) → text ≡ tables_text_of t
    → IsTextAfter config p to text
is_text config p to n t text program has not_short shows text_is =
    let cycle = has.cycle in
    let there : n.cycle ≡ to = omega (arith, cycle, not_short) in
    let ends : EndsWithin n.image 262144 =
    subst (λ (i : Loaded). EndsWithin i 262144) (sym has.image) (ends_at_most p program) in
    let same : t ≡ tables_of to (run_of config p.image) =
    shows ends ∙ (ap (λ (k : ℕ). tables_of k (run_of n.config n.image)) there
    ∙ ap₂ (λ (r : Configuration) (i : Loaded). tables_of to (run_of r i)) has.config_is has.image) in
    record {
      reached = omega (arith, cycle, there);
      tables = text_is ∙ ap tables_text_of same;
    }
