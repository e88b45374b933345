-- The trace is the run of an image that ends, and its steps are few.
use Rattle.std.proofs.Common.{◌∙◌, arith, rules}
use Rattle.tomex_study.proofs.program.Program.new.Goals as goal

pub invariant_of-result : goal.invariant_of-result
invariant_of-result g c = (
  record {
    some_steps = c.requires.some_steps;
    few_steps = c.requires.few_steps;
    ends = c.in_ok-steps.ensures.ends;
    watch = c.requires.watch;
    some_weight = c.requires.some_weight;
    most_weight = c.requires.most_weight;
  },
  record {
    run = c.in_ok-run.ensures ∙ c.in_ok-steps.ensures.ok;
    few = rw c.in_ok-run.ensures (omega (arith, c.in_ok-steps.ensures.few, c.requires.few_steps));
  },
)

pub returns-clause-program : goal.returns-clause-program
returns-clause-program g c = record {
  some_steps = c.requires.some_steps;
  few_steps = c.requires.few_steps;
  ends = c.in_ok-steps.ensures.ends;
  watch = c.requires.watch;
  some_weight = c.requires.some_weight;
  most_weight = c.requires.most_weight;
}

pub returns-clause-parts : goal.returns-clause-parts
returns-clause-parts g c = search rules fits 100
