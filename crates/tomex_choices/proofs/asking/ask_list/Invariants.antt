-- The numbers so far, from the most down, and the totals with the next one, if they are known.
use Rattle.std.proofs.Common.{◌≡◌, ◌+◌, ◌-◌}
use Rattle.tomex_config.specs.Parts.{part_at}
use Rattle.tomex_config.specs.Parts.{most_of}
use Rattle.tomex_choices.specs.Asking.{AreAskedTotals}
use Rattle.tomex_choices.proofs.Asked.{AreNumbersAsked}
use Rattle.tomex_choices.proofs.asking.ask_list.Given as goal

abbrev pub invariant-loop-fewer : goal.invariant-loop-fewer
invariant-loop-fewer g l = record {
  programs : l.knowledge.programs ≡ l.fn.knowledge.programs;
  totals : AreAskedTotals l.fn.knowledge.programs l.config (part_at l.entries.place)
      (most_of (part_at l.entries.place) - l.fewer) l.asked;
  asked : AreNumbersAsked l.study (part_at l.entries.place) l.config
      (most_of (part_at l.entries.place) - l.fewer + 1) l.fewer l.fn.found l.found;
}
