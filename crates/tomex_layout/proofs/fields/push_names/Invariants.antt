-- The names so far are in the record.
use Rattle.std.proofs.Common.{◌≡◌, ◌++◌, [], take, map}
use Rattle.csv.specs.Records.{fields_of, partial_of}
use Rattle.tomex_layout.proofs.fields.push_names.Given as goal

abbrev pub invariant-loop-name : goal.invariant-loop-name
invariant-loop-name l = record {
  fields : fields_of l.fields ≡ fields_of l.fn.fields ++ map (λ name. name.now) (take l.name-index l.names);
  whole : partial_of l.fields ≡ [];
}
