-- The word is in the rows.
use Rattle.std.proofs.Common.{◌∙◌, ap, sym, option_map}
use Rattle.clap.specs.Words.{found_of}
use Rattle.clap.proofs.WalkLemmas.{first_value-rows}
use Rattle.tomex_arguments.proofs.WhyRefused.{refused_if}
use Rattle.tomex_arguments.proofs.values.word_of.Goals as goal

pub returns-in-Some-clause-word : goal.returns-in-Some-clause-word
returns-in-Some-clause-word c =
    sym (first_value-rows (found_of c.args.matches.now) c.args.name.now) ∙ sym c.get_str.ensures
    ∙ ap (option_map (λ s. s.now)) c.in-Some.is

pub returns-in-None-clause-refused : goal.returns-in-None-clause-refused
returns-in-None-clause-refused c =
    refused_if _ c.refusal_of.result c.refusal_of.ensures (λ word is.
    let found = first_value-rows (found_of c.args.matches.now) c.args.name.now ∙ is in
    let none = sym c.get_str.ensures ∙ ap (option_map (λ s. s.now)) c.in-None.is in
    let bad = sym none ∙ found in absurd (cc))
