-- What is read of the list.
use Rattle.std.proofs.Common.{◌∙◌, ap, map, subst}
use Rattle.std.specs.List.{range_with_len}
use Rattle.std.proofs.lemmas.List.{get_or_default}
use Rattle.tomex_config.specs.Parts.{all_parts}
use Rattle.tomex_config.specs.declared.part.Part.{Part}
use Rattle.tomex_config.specs.declared.part.Part.TheVariants.{Width}
use Rattle.tomex_choices.specs.Asking.{AreMostUnits, has_number}
use Rattle.tomex_choices.proofs.entries.Entries.new.Goals as goal

pub invariant_of-result : goal.invariant_of-result
invariant_of-result c =
    record {
      low = c.requires;
      numbers_are = c.numbers_of.ensures
          ∙ ap (λ (p : Part). map (has_number c.args.rows.now p) (range_with_len 0 17))
          (get_or_default all_parts c.args.place _ Width c.requires);
      options_are = subst (λ (p : Part). AreMostUnits c.args.rows.now p c.most_units.result)
          (get_or_default all_parts c.args.place _ Width c.requires) c.most_units.ensures.most;
      prices = c.most_units.ensures.range;
    }
