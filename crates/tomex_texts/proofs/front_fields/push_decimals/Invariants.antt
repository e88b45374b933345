-- The numbers so far are in the record.
use Rattle.std.proofs.Common.{◌≡◌, ◌++◌, [], map, take}
use Rattle.std.specs.Fmt.{decimal}
use Rattle.csv.specs.Records.{fields_of, partial_of}
use Rattle.tomex_texts.proofs.front_fields.push_decimals.Given as goal

abbrev pub invariant-loop-number : goal.invariant-loop-number
invariant-loop-number l = record {
  fields : fields_of l.fields ≡ fields_of l.fn.fields ++ map decimal (take l.number-index l.numbers);
  whole : partial_of l.fields ≡ [];
}
