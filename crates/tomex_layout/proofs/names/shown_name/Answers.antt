-- All characters of the name were shown.
use Rattle.std.proofs.Common.{◌∙◌, ◌++◌, ℕ, List, [], ◌∷◌, ap, sym}
use Rattle.std.specs.List.{flat_map}
use Rattle.std.proofs.lemmas.Iterator.{YieldsList-from_chars}
use Rattle.std.proofs.lemmas.Iterator.Consumers.{YieldsList-end}
use Rattle.std.proofs.lemmas.Grind.{flat_map-append}
use Rattle.std.proofs.lemmas.List.{append-nil, map-id}
use Rattle.tomex_layout.specs.Names.{shown_char}
use Rattle.tomex_layout.proofs.names.shown_name.Goals as goal

pub loop-letter-preserved : goal.loop-letter-preserved
loop-letter-preserved c =
    let letter = c.in-Some.letter in
    c.in_ok-push_shown.ensures
    ∙ (ap (λ (shown : List ℕ). shown ++ shown_char letter) c.loop-letter.invariant
    ∙ (ap (λ (last : List ℕ). flat_map shown_char c.loop-letter.yielded ++ last) (sym (append-nil (shown_char letter)))
    ∙ sym (flat_map-append shown_char c.loop-letter.yielded (letter ∷ []))))

pub returns : goal.returns
returns c =
    let letters = YieldsList-from_chars c.args.name.now c.utf8.name cc in
    let end = YieldsList-end letters c.loop-letter.yielded _ c.loop-letter.yielded_by _ _ c.in-None.is
    c.next.ensures.steps in
    c.loop-letter.invariant ∙ ap (flat_map shown_char) (sym (map-id c.loop-letter.yielded) ∙ end.0)
