-- The text of each mark.
use Rattle.std.proofs.Common.{◌∙◌, ap, ℕ, ◌+◌, List, ◌++◌}
use Rattle.std.specs.Prelude.{codes, string_bytes}
use Rattle.std.specs.Fmt.{decimal}
use Rattle.std.proofs.lemmas.Result.{on_ok_weaker}
use Rattle.tomex_front_views.specs.Plot.{mark_at}
use Rattle.tomex_front_views.proofs.plot.marks.push_mark_at.Goals as goal

pub returns-in-CyclesLine : goal.returns-in-CyclesLine
unfolding mark_at
returns-in-CyclesLine g c =
    let text : ℕ → List ℕ = λ (y : ℕ). codes "<path d=\"M112 " ++ (decimal y ++ codes "H696\"/>\n") in
    rw (c.in-CyclesLine.is) (on_ok_weaker c.write-in-CyclesLine.result
    (λ h. h ∙ ap (λ (y : ℕ). string_bytes c.args.text.now ++ text y) c.y_of-y.ensures.is)
    c.write-in-CyclesLine.ensures.bytes)

pub returns-in-CyclesNumber : goal.returns-in-CyclesNumber
unfolding mark_at
returns-in-CyclesNumber g c =
    let text : ℕ → List ℕ = λ (y : ℕ).
    codes "<text x=\"104\" y=\"" ++ (decimal (y + 4) ++ (codes "\">" ++ (decimal c.args.value ++ codes "</text>\n"))) in
    rw (c.in-CyclesNumber.is) (on_ok_weaker c.write-in-CyclesNumber.result
    (λ h. h ∙ ap (λ (y : ℕ). string_bytes c.args.text.now ++ text y) c.y_of-y.ensures.is)
    c.write-in-CyclesNumber.ensures.bytes)
