-- The words are in the rows.
use Rattle.std.proofs.Common.{◌∙◌, ap, sym, List, [], Option, map, option_map}
use Rattle.std.specs.Prelude.{string_bytes, unwrap_or}
use Rattle.std.proofs.lemmas.Result.{IfOk-weaker}
use Rattle.clap.specs.Words.{Text, found_of}
use Rattle.clap.proofs.WalkLemmas.{raw_values-rows}
use Rattle.tomex_arguments.proofs.values.each_of.Goals as goal

pub returns-in-Some : goal.returns-in-Some
returns-in-Some c =
    let found = sym (raw_values-rows (found_of c.args.matches.now) c.args.name.now) ∙ sym c.get_strs.ensures
    ∙ ap (option_map (λ s. map (λ v. v.now) s.now)) c.in-Some.is in
    IfOk-weaker c.copies_of.result _ _ (λ made is. is ∙ sym (ap (λ (o : Option (List Text)). unwrap_or o []) found))
    c.copies_of.ensures

pub returns-in-None : goal.returns-in-None
returns-in-None c =
    let found = sym (raw_values-rows (found_of c.args.matches.now) c.args.name.now) ∙ sym c.get_strs.ensures
    ∙ ap (option_map (λ s. map (λ v. v.now) s.now)) c.in-None.is in
    ap (map string_bytes) c.new.ensures.items ∙ sym (ap (λ (o : Option (List Text)). unwrap_or o []) found)
