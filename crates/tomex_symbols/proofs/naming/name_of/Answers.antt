-- The bytes are the first ones of the name.
use Rattle.std.proofs.Common.{◌∙◌}
use Rattle.tomex_symbols.proofs.Strings.{cut_string, part_is}
use Rattle.tomex_symbols.proofs.naming.name_of.Goals as goal

pub returns : goal.returns
returns c =
    c.before_zero.ensures
    ∙ cut_string c.args.most _ _ _
    (part_is c.args.symbol.now.name c.args.symbol.now.names_end _ _ c.args.bytes.now c.min-end.ensures
    c.min-start.ensures)
    c.min.ensures
