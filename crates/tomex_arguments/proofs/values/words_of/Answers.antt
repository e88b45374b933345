-- The words are in the rows.
use Rattle.std.proofs.Common.{◌≡◌, ◌∙◌, ◌++◌, ap, sym, refl, codes, List, [], ◌∷◌, Some, map, option_map}
use Rattle.std.specs.Borrow.{Bor}
use Rattle.std.specs.List.{flat_map, join_by}
use Rattle.clap.specs.Words.{Text, found_of}
use Rattle.clap.proofs.WalkLemmas.{raw_values-rows}
use Rattle.tomex_arguments.specs.Values.{words_text}
use Rattle.tomex_arguments.proofs.values.words_of.Goals as goal

rest_is : (between : Text) (words : List (Bor Text)) → flat_map (λ (w : Bor Text). between ++ w.now) words
    ≡ flat_map (λ (word : Text). between ++ word) (map (λ (w : Bor Text). w.now) words)
rest_is between [] = refl
rest_is between (w ∷ ws) = ap (λ (rest : Text). (between ++ w.now) ++ rest) (rest_is between ws)

-- words joined in place are their texts joined
joined_is : (between : Text) (words : List (Bor Text)) → join_by (λ (w : Bor Text). w.now) between words
    ≡ join_by (λ (word : Text). word) between (map (λ (w : Bor Text). w.now) words)
joined_is between [] = refl
joined_is between (w ∷ ws) = ap (λ (rest : Text). w.now ++ rest) (rest_is between ws)

pub returns-in_ok-join-in-Some : goal.returns-in_ok-join-in-Some
returns-in_ok-join-in-Some c =
    let found = sym (raw_values-rows (found_of c.args.matches.now) c.args.name.now) ∙ sym c.get_strs.ensures
    ∙ ap (option_map (λ s. map (λ v. v.now) s.now)) c.in-Some.is in
    ap Some (c.in_ok-join-in-Some.ensures.ok ∙ joined_is (codes " ") c.in-Some.words.now)
    ∙ sym (ap (option_map words_text) found)

pub returns-in-None : goal.returns-in-None
returns-in-None c =
    let found = sym (raw_values-rows (found_of c.args.matches.now) c.args.name.now) ∙ sym c.get_strs.ensures
    ∙ ap (option_map (λ s. map (λ v. v.now) s.now)) c.in-None.is in
    sym (ap (option_map words_text) found)
