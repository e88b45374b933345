-- The records of the names so far are written.
use Rattle.std.proofs.Common.{take, string_bytes}
use Rattle.std.specs.List.{flat_map}
use Rattle.tomex_layout.specs.Csv.{IsReady, record_text}
use Rattle.tomex_layout.specs.Growth.{Writes}
use Rattle.tomex_functions.specs.Changes.{change_fields}
use Rattle.tomex_functions.proofs.report.put_names.Given as goal

abbrev pub invariant-loop-named : goal.invariant-loop-named
invariant-loop-named g l = record {
  ready : IsReady l.writer;
  text : Writes (flat_map (λ c. record_text (change_fields (string_bytes c.name) c.change))
      (take l.named-index l.changes)) l.fn.writer l.writer;
}
