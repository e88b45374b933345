-- The dashes so far are in the record.
use Rattle.std.proofs.Common.{◌≡◌, ◌++◌, [], map, take}
use Rattle.csv.specs.Records.{fields_of, partial_of}
use Rattle.tomex_run_views.specs.ByPlace.{dashes}
use Rattle.tomex_run_views.proofs.places.push_dashes.Given as goal

abbrev pub invariant-loop-name : goal.invariant-loop-name
invariant-loop-name l = record {
  fields : fields_of l.fields ≡ fields_of l.fn.fields ++ dashes (map (λ n. n.now) (take l._name-index l.names));
  whole : partial_of l.fields ≡ [];
}
