-- All characters of the name were shown.
use Rattle.std.proofs.Common.{◌∙◌, ◌++◌, ℕ, List, [], ◌∷◌, ap, append_assoc, string_bytes, sym}
use Rattle.std.specs.List.{flat_map}
use Rattle.std.proofs.lemmas.Iterator.{YieldsList-from_chars}
use Rattle.std.proofs.lemmas.Iterator.Consumers.{YieldsList-end}
use Rattle.std.proofs.lemmas.Grind.{flat_map-append}
use Rattle.std.proofs.lemmas.List.{append-nil, map-id}
use Rattle.tomex_html.specs.Html.{html_char, html_name}
use Rattle.tomex_html.proofs.names.push_name.Goals as goal

pub loop-letter-preserved : goal.loop-letter-preserved
loop-letter-preserved g c =
    let letter = c.in-Some.letter in
    let before = string_bytes c.args.text.now in
    c.in_ok-push_char.ensures
    ∙ (ap (λ (shown : List ℕ). shown ++ html_char letter) c.loop-letter.invariant
    ∙ (append_assoc before (flat_map html_char c.loop-letter.yielded) (html_char letter)
    ∙ ap (λ (z : List ℕ). before ++ z)
    (ap (λ (last : List ℕ). flat_map html_char c.loop-letter.yielded ++ last) (sym (append-nil (html_char letter)))
    ∙ sym (flat_map-append html_char c.loop-letter.yielded (letter ∷ [])))))

pub returns : goal.returns
unfolding html_name
returns g c =
    let letters = YieldsList-from_chars c.args.name.now c.utf8.name cc in
    let end = YieldsList-end letters c.loop-letter.yielded _ c.loop-letter.yielded_by _ _ c.in-None.is
    c.next.ensures.steps in
    c.loop-letter.invariant
    ∙ ap (λ (z : List ℕ). string_bytes c.args.text.now ++ flat_map html_char z)
    (sym (map-id c.loop-letter.yielded) ∙ end.0)
