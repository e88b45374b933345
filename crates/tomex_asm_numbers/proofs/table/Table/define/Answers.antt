use Rattle.std.proofs.Common.{◌∙◌, ap, map}
use Rattle.std.proofs.lemmas.List.{map-append}
use Rattle.tomex_asm_numbers.specs.Indexed.{definition_of, definitions_in}
use Rattle.tomex_asm_numbers.proofs.Index.{one_more}
use Rattle.tomex_asm_numbers.proofs.table.Table.define.Goals as goal

pub returns-clause-indexed : goal.returns-clause-indexed
returns-clause-indexed g c = λ w.
    one_more w (definitions_in c.args.self.now) _ (definition_of c.args.definition) _ _ (c.requires w)
    (c.in_ok-add.ensures w)
    (ap (λ xs. map definition_of xs) c.in_ok-push.ensures.items
    ∙ map-append definition_of c.args.self.now.definitions.items _)
