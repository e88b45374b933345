-- The flag is that of the text in the rows.
use Rattle.std.proofs.Common.{◌∙◌}
use Rattle.clap.specs.Words.{found_of}
use Rattle.clap.proofs.WalkLemmas.{one_text-rows}
use Rattle.tomex_arguments.proofs.values.flag_of.Goals as goal

pub returns : goal.returns
returns c =
    let in_rows = one_text-rows (found_of c.args.matches.now) c.args.name.now in
    record {
      yes = λ e. c.get_flag.ensures.value (in_rows ∙ e);
      no = λ e. c.get_flag.ensures.other (in_rows ∙ e);
      none = λ e. c.get_flag.ensures.none (in_rows ∙ e);
    }
