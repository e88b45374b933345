-- The programs are the same; the text so far, and the runs to come.
use Rattle.std.proofs.Common.{◌≡◌, ◌++◌, drop}
use Rattle.std.specs.Prelude.{string_bytes}
use Rattle.std.specs.List.{flat_map}
use Rattle.tomex_page.specs.Page.{run_block}
use Rattle.tomex_page.proofs.runs.push_runs.Given as goal

abbrev pub invariant-loop-place : goal.invariant-loop-place
invariant-loop-place g l = record {
  runs : l.floored.items ≡ l.fn.floored.items;
  text : string_bytes l.text ++ flat_map (run_block l.config) (drop l.place l.programs)
      ≡ string_bytes l.fn.text ++ flat_map (run_block l.config) l.programs;
}
