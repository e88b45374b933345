-- All have the facts of one that loads zeros.
use Rattle.std.proofs.Common.{◌∙◌, sym}
use Rattle.tomex_drained.proofs.Machines.{same_machines}
use Rattle.tomex_drained.proofs.Whole.{prologue_has_its_times}
use Rattle.tomex_drained.proofs.laws.prologues_take_the_same.Goals as goal

pub returns : goal.returns
returns a = record {
  times = prologue_has_its_times;
  machines = same_machines;
  same = λ config i j from least f l file other good c d.
      prologue_has_its_times config i from least file good c
      ∙ sym (prologue_has_its_times config j f l other good d);
}
