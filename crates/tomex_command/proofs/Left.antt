-- A text that isn't made leaves the output as it was: none of its failures is that the output failed.
use Rattle.std.proofs.Common.{◌≡◌, ◌∙◌, ◌&&◌, Bool, true, false, List, ℕ, ap, refl, sym, subst}
use Rattle.tomex_command_line.specs.declared.line.Line.{Line}
use Rattle.tomex_command_line.specs.declared.line.Line.TheVariants.{Run, Parts, Cut, Times}
use Rattle.tomex_command_line.specs.declared.line.Line.TheVariants.{Stalls, Path, Loops, Pipeline}
use Rattle.tomex_command_line.specs.declared.line.Line.TheVariants.{Tables, Animate, All, Explore, Front, Plot, Rows}
use Rattle.tomex_command_line.specs.declared.line.Line.TheVariants.{Worth, Choices, Prices, Weights}
use Rattle.tomex_command_line.specs.declared.line.Line.TheVariants.{Compare, Functions, Page, Find, Explain}
use Rattle.tomex_streams.specs.Files.{Known}
use Rattle.tomex_streams.specs.Sinks.{Seen}
use Rattle.tomex_command.specs.Commands.{IsFailure, IsLeft, IsUnfit, prints_image}
use Rattle.tomex_command.specs.declared.failure.Failure.{Failure}
use Rattle.tomex_command.specs.declared.failure.Failure.TheVariants as failures

not_written : (file : List ℕ → Known) (line : Line) → IsFailure file line failures.CannotWrite → ⊥
not_written file (Run line) is = is
not_written file (Parts line) is = is
not_written file (Cut line) is = is
not_written file (Times line) is = is
not_written file (Stalls line) is = is
not_written file (Path line) is = is
not_written file (Loops line) is = is
not_written file (Pipeline line) is = is
not_written file (Tables line) is = is
not_written file (Animate line) is = is
not_written file (All line) is = is
not_written file (Explore line) is = is
not_written file (Front line) is = is
not_written file (Plot line) is = is
not_written file (Rows line) is = is
not_written file (Worth line) is = is
not_written file (Choices line) is = is
not_written file (Prices line) is = is
not_written file (Weights line) is = is
not_written file (Compare line) is = is
not_written file (Functions line) is = is
not_written file (Page line) is = is
not_written file (Find line) is = is
not_written file (Explain line) is = is

not_shown : (file : List ℕ → Known) (line : Line) → IsFailure file line failures.OnTerminal → ⊥
not_shown file (Run line) is = is
not_shown file (Parts line) is = is
not_shown file (Cut line) is = is
not_shown file (Times line) is = is
not_shown file (Stalls line) is = is
not_shown file (Path line) is = is
not_shown file (Loops line) is = is
not_shown file (Pipeline line) is = is
not_shown file (Tables line) is = is
not_shown file (Animate line) is = is
not_shown file (All line) is = is
not_shown file (Explore line) is = is
not_shown file (Front line) is = is
not_shown file (Plot line) is = is
not_shown file (Rows line) is = is
not_shown file (Worth line) is = is
not_shown file (Choices line) is = is
not_shown file (Prices line) is = is
not_shown file (Weights line) is = is
not_shown file (Compare line) is = is
not_shown file (Functions line) is = is
not_shown file (Page line) is = is
not_shown file (Find line) is = is
not_shown file (Explain line) is = is

left : (file : List ℕ → Known) (terminal : Bool) (line : Line) (failure : Failure) (seen : Seen)
    → (IsUnfit terminal line → ⊥) → IsFailure file line failure → IsLeft file terminal line failure seen seen
left file terminal line failures.BadWindow seen fits is = (fits, is, refl)
left file terminal line (failures.Run refusal) seen fits is = (fits, is, refl)
left file terminal line (failures.Study error) seen fits is = (fits, is, refl)
left file terminal line failures.NoSuchRow seen fits is = (fits, is, refl)
left file terminal line (failures.SeveralRows n) seen fits is = (fits, is, refl)
left file terminal line failures.NoSuchProgram seen fits is = (fits, is, refl)
left file terminal line failures.NoSymbols seen fits is = (fits, is, refl)
left file terminal line failures.CyclePastEnd seen fits is = (fits, is, refl)
left file terminal line failures.NoSuchStep seen fits is = (fits, is, refl)
left file terminal line failures.NoEnd seen fits is = (fits, is, refl)
left file terminal line failures.CodeOverwritten seen fits is = (fits, is, refl)
left file terminal line failures.NoRoom seen fits is = (fits, is, refl)
left file terminal line failures.PictureTooLarge seen fits is = (fits, is, refl)
left file terminal line failures.TableTooLarge seen fits is = (fits, is, refl)
left file terminal line (failures.NoSuchChoice choice) seen fits is = (fits, is, refl)
left file terminal line failures.NoSuchRefusal seen fits is = (fits, is, refl)
left file terminal line (failures.CannotRead name) seen fits is = (fits, is, refl)
left file terminal line failures.CannotWrite seen fits is = absurd (not_written file line is)
left file terminal line failures.OnTerminal seen fits is = absurd (not_shown file line is)
left file terminal line failures.Memory seen fits is = (fits, is, refl)
left file terminal line failures.Worker seen fits is = (fits, is, refl)

pub nothing_left : (file : List ℕ → Known) (terminal : Bool) (line : Line) (failure same : Failure) (seen : Seen)
    → (IsUnfit terminal line → ⊥) → IsFailure file line failure → same ≡ failure
    → IsLeft file terminal line same seen seen
nothing_left file terminal line failure same seen fits is e =
    left file terminal line same seen fits (subst (λ (f : Failure). IsFailure file line f) (sym e) is)

-- a line that isn't unfit for the output
pub is_fit : (terminal unfit shown : Bool) (line : Line) → unfit ≡ (shown && prints_image line) → shown ≡ terminal
    → unfit ≡ false → IsUnfit terminal line → ⊥
is_fit terminal unfit shown line is at none unfit_for =
    let shown_is : (shown && prints_image line) ≡ (terminal && prints_image line) =
    ap (λ b. b && prints_image line) at in
    let both : (terminal && prints_image line) ≡ false = sym shown_is ∙ (sym is ∙ none) in
    let bad : false ≡ true = sym both ∙ unfit_for in absurd (cc)
