-- What the laws of its programs and its configurations say.
use Rattle.std.proofs.Common.{◌∙◌, ap, subst, All}
use Rattle.tomex_config.specs.Configuration.{IsWithinLimits}
use Rattle.tomex_study.specs.Program.{IsProgram}
use Rattle.tomex_study.specs.Study.{costs_of}
use Rattle.tomex_study.proofs.study.Study.new.Goals as goal

pub invariant_of-result : goal.invariant_of-result
invariant_of-result g c = record {
  some_programs = c.requires.some_programs;
  few_programs = c.requires.few_programs;
  ends = subst (All IsProgram) c.deref.ensures.value c.each_ends.ensures;
  some_rows = c.requires.some_rows;
  few_rows = c.requires.few_rows;
  limits = subst (All IsWithinLimits) c.deref-2.ensures.value c.in_ok-costs.ensures.limits;
  prices = c.keeps_limits.ensures;
  costs = c.in_ok-costs.ensures.costs ∙ ap (costs_of c.args.prices) c.deref-2.ensures.value;
}

pub returns-clause-study : goal.returns-clause-study
returns-clause-study g c = record {
  some_programs = c.requires.some_programs;
  few_programs = c.requires.few_programs;
  ends = subst (All IsProgram) c.deref.ensures.value c.each_ends.ensures;
  some_rows = c.requires.some_rows;
  few_rows = c.requires.few_rows;
  limits = subst (All IsWithinLimits) c.deref-2.ensures.value c.in_ok-costs.ensures.limits;
  prices = c.keeps_limits.ensures;
  costs = c.in_ok-costs.ensures.costs ∙ ap (costs_of c.args.prices) c.deref-2.ensures.value;
}
