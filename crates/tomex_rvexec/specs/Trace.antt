-- The list of a run's steps, as a function.
use Rattle.std.specs.Prelude.{ℕ, zero, suc, List, [], ◌∷◌, Option, Some, None}
use Rattle.tomex_rvexec.specs.declared.step.Step.{Step}
use Rattle.tomex_rvexec.specs.Machine.{State, Outcome, Goes, Ends, Faults, step_of, coming_of}

abbrev pub onto : Option Step → List Step → List Step
onto None steps = steps
onto (Some x) steps = x ∷ steps

-- the steps after an outcome, given those after each state
abbrev pub steps_after : Outcome → (State → List Step) → List Step
steps_after (Goes s) next = next s
steps_after (Ends k) next = []
steps_after (Faults k) next = []

-- a limited number of steps from a state on; the one that ends the program is the last
abbrev pub steps_from : ℕ → State → List Step
steps_from zero s = []
steps_from (suc n) s = onto (coming_of s) (steps_after (step_of s) (steps_from n))
