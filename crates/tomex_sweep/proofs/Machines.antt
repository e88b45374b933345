-- Machines that advance to a cycle.
use Rattle.std.proofs.Common.{◌≡◌, ℕ, ◌≤◌, arith, ap, sym, ◌∙◌, min, max, Bool, true, nat_lt, subst, cond}
use Rattle.std.proofs.lemmas.Bool.{le-ltb}
use Rattle.tomex_image.specs.Image.{Loaded}
use Rattle.tomex_rvexec.specs.Run.{EndsWithin}
use Rattle.tomex_config.specs.Configuration.{Configuration, IsWithinLimits}
use Rattle.tomex_cycle.specs.declared.progress.Progress.TheVariants.{Running, Ended}
use Rattle.tomex_timing.specs.Run.{most_cycles, total}
use Rattle.tomex_cycle.specs.Seen.{Seen, seen_after, is_end}
use Rattle.tomex_study.specs.Program.{Workload, IsProgram}
use Rattle.tomex_study.proofs.Bounds.{total_bound}
use Rattle.tomex_plateaus.proofs.Totals.{ends_at_most}

-- what the contract of a machine that advances to a cycle says
abbrev pub Advances : Seen → Seen → ℕ → Type 0
Advances m n to = EndsWithin m.image 262144 → n ≡ seen_after m.image m.config (max m.cycle to)

-- what it does with a program of a study
pub advanced_from : (p : Workload) (config : Configuration) (m n : Seen) (to : ℕ) → IsProgram p → m.image ≡ p.image
    → m.config ≡ config → m.cycle ≤ to → Advances m n to → n ≡ seen_after p.image config to
advanced_from p config m n to program image mine low goes =
    let ends : EndsWithin m.image 262144 =
    subst (λ (i : Loaded). EndsWithin i 262144) (sym image) (ends_at_most p program) in
    let most : max m.cycle to ≡ to = omega arith in
    goes ends ∙ (ap (λ (k : ℕ). seen_after m.image m.config k) most
    ∙ (ap (λ (r : Configuration). seen_after m.image r to) mine
    ∙ ap (λ (i : Loaded). seen_after i config to) image))

-- a machine that has ended
pub record HasEnded (config : Configuration) (p : Workload) (n : Seen) : Type 0 where
  pub image : n.image ≡ p.image
  pub cycle : n.cycle ≡ total config p.image
  pub ended : is_end n.status ≡ true

-- a machine that advances past the end of any program
pub to_end : (config : Configuration) (p : Workload) (m n : Seen) → IsWithinLimits config → IsProgram p
    → m ≡ record { image = p.image; config = config; cycle = 0; status = Running } → Advances m n most_cycles
    → HasEnded config p n
to_end config p m n lawful program is goes =
    let start : m.cycle ≡ 0 = ap (λ (s : Seen). s.cycle) is in
    let at : n ≡ seen_after p.image config most_cycles =
    advanced_from p config m n most_cycles program (ap (λ (s : Seen). s.image) is) (ap (λ (s : Seen). s.config) is)
    (omega arith) goes in
    let cycle : n.cycle ≡ min most_cycles (total config p.image) = ap (λ (s : Seen). s.cycle) at in
    let most : total config p.image ≤ most_cycles = total_bound config p.image lawful in
    let over : is_end (cond (nat_lt most_cycles (total config p.image)) Running Ended) ≡ true =
    ap (λ (b : Bool). is_end (cond b Running Ended)) (le-ltb most_cycles (total config p.image) most) in
    record {
      image = ap (λ (s : Seen). s.image) at;
      cycle = omega arith;
      ended = ap (λ (s : Seen). is_end s.status) at ∙ over;
    }
