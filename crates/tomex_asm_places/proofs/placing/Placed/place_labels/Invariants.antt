-- What is defined so far, with the labels that are left, is what all labels define.
use Rattle.std.proofs.Common.{◌≡◌, drop}
use Rattle.tomex_asm_numbers.specs.Indexed.{definitions_in, IsIndexed}
use Rattle.tomex_asm_places.specs.Places.{with_labels}
use Rattle.tomex_asm_places.proofs.placing.Placed.place_labels.Given as goal

abbrev pub invariant-loop-token : goal.invariant-loop-token
invariant-loop-token g l =
    record {
      all :
          with_labels l.line l.here (drop l.token-index l.labels) (definitions_in l.self.table)
          ≡ with_labels l.line l.here l.labels (definitions_in l.fn.self.table);
      indexed : IsIndexed l.self.table;
      position : l.self.position ≡ l.fn.self.position;
    }
