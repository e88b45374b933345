-- The dashes so far are added.
use Rattle.std.proofs.Common.{◌≡◌, ◌++◌, []}
use Rattle.csv.specs.Records.{fields_of, partial_of}
use Rattle.tomex_loop_views.specs.Table.{dashes}
use Rattle.tomex_loop_views.proofs.fields.push_dashes.Given as goal

abbrev pub invariant-loop-field : goal.invariant-loop-field
invariant-loop-field l = record {
  fields : fields_of l.fields ≡ fields_of l.fn.fields ++ dashes l._field;
  whole : partial_of l.fields ≡ [];
}
