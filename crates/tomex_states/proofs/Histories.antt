-- The histories of runs, and the facts of their steps.
use Rattle.std.proofs.Common.{ℕ, ◌<◌, ◌≡◌, ◌∙◌, refl, sym, ap, All, IfSome, List, [], ◌∷◌, ◌++◌, map, reverse, take}
use Rattle.std.proofs.lemmas.List.{map-append, reverse-append, take-map}
use Rattle.std.proofs.lemmas.List.Elements.{All-append, All-cons, All-head, All-nil, All-tail, All-take}
use Rattle.tomex_rvexec.specs.Steps.{step_dest}
use Rattle.tomex_rvexec.specs.declared.step.Step.{Step}
use Rattle.tomex_config.specs.Configuration.{Configuration, IsWithinLimits}
use Rattle.tomex_timing.specs.declared.recent.Facts.{Facts}
use Rattle.tomex_timing.specs.Recent.{AreFacts, AreInRange, facts_of}
use Rattle.tomex_timing.specs.Search.{history, times_of, timed_of}
use Rattle.tomex_timing.proofs.Histories.{are_timed}
use Rattle.tomex_states.specs.Reuse.{IsHistory}

-- the facts of a run's steps, back from the youngest, are those of its history
facts_timed : (config : Configuration) (steps : List Step)
    → map (λ d. facts_of d.step) (timed_of config steps) ≡ map facts_of steps
facts_timed config [] = refl
facts_timed config (s ∷ steps) = ap (λ facts. facts_of s ∷ facts) (facts_timed config steps)

reverse-map : (steps : List Step) → reverse (map facts_of steps) ≡ map facts_of (reverse steps)
reverse-map [] = refl
reverse-map (s ∷ steps) =
    reverse-append (facts_of s ∷ []) (map facts_of steps)
    ∙ (ap (λ facts. facts ++ (facts_of s ∷ [])) (reverse-map steps)
    ∙ (sym (map-append facts_of (reverse steps) (s ∷ [])) ∙ ap (map facts_of) (sym (reverse-append (s ∷ []) steps))))

pub facts_back : (config : Configuration) (steps : List Step) (facts : List Facts) → AreFacts steps facts
    → reverse facts ≡ map (λ d. facts_of d.step) (history config steps)
facts_back config steps facts are =
    rw are.are (reverse-map steps ∙ sym (facts_timed config (reverse steps)))

-- those of the steps before a place
pub facts_to : (steps : List Step) (facts : List Facts) (i : ℕ) → AreFacts steps facts
    → AreFacts (take i steps) (take i facts)
facts_to steps facts i are = record {
  are = ap (take i) are.are ∙ take-map facts_of i steps;
  range = All-take AreInRange i facts are.range;
}

-- Their registers are the machine's.

abbrev HasRegister : Step → Type 0
HasRegister s = IfSome (step_dest s) (λ r. r < 32)

registers_of : (steps : List Step) → All AreInRange (map facts_of steps) → All HasRegister steps
registers_of [] range = All-nil HasRegister
registers_of (s ∷ steps) range =
    All-cons HasRegister s steps (All-head AreInRange (facts_of s) (map facts_of steps) range).dest
    (registers_of steps (All-tail AreInRange (facts_of s) (map facts_of steps) range))

registers_back : (steps : List Step) → All HasRegister steps → All HasRegister (reverse steps)
registers_back [] all = All-nil HasRegister
registers_back (s ∷ steps) all =
    rw (reverse-append (s ∷ []) steps) (All-append HasRegister (reverse steps) (s ∷ [])
    (registers_back steps (All-tail HasRegister s steps all))
    (All-cons HasRegister s [] (All-head HasRegister s steps all) (All-nil HasRegister)))

registers_timed : (config : Configuration) (steps : List Step) → All HasRegister steps
    → All (λ d. HasRegister d.step) (timed_of config steps)
registers_timed config [] all = All-nil (λ d. HasRegister d.step)
registers_timed config (s ∷ steps) all =
    let older = timed_of config steps in
    All-cons (λ d. HasRegister d.step) (record { step = s; at = times_of config older s }) older
    (All-head HasRegister s steps all) (registers_timed config steps (All-tail HasRegister s steps all))

-- so a run's history is one of the machine
pub is_history : (config : Configuration) (steps : List Step) (facts : List Facts) → IsWithinLimits config
    → AreFacts steps facts → IsHistory config (history config steps)
is_history config steps facts good are = record {
  timed = are_timed config steps good;
  registers = registers_timed config (reverse steps)
      (registers_back steps (registers_of steps (rw are.are at are.range)));
}
