-- The failure if a program's run has no picture, no log, no page, or no report by function.
use Rattle.std.proofs.Common.{◌≡◌, false, sym, subst}
use Rattle.tomex_run_views.specs.Chart.{IsUnpictured}
use Rattle.tomex_run_views.specs.declared.picture_error.PictureError.{PictureError}
use Rattle.tomex_run_views.specs.declared.picture_error.PictureError.TheVariants.{NoSuchStep, TooLarge, Memory}
use Rattle.tomex_run_views.specs.Excerpt.{HasNoExcerpt}
use Rattle.tomex_run_views.specs.declared.excerpt_error.ExcerptError.{ExcerptError}
use Rattle.tomex_run_views.specs.declared.excerpt_error.ExcerptError.TheVariants as excerpts
use Rattle.tomex_animate.specs.Page.{IsUnanimated}
use Rattle.tomex_animate.specs.declared.animation_error.AnimationError.{AnimationError}
use Rattle.tomex_animate.specs.declared.animation_error.AnimationError.TheVariants as animations
use Rattle.tomex_command_line.specs.declared.line.animate.AnimateLine.{AnimateLine}
use Rattle.tomex_command_line.specs.declared.line.pipeline.PipelineLine.{PipelineLine}
use Rattle.tomex_command.specs.Chosen.{RunChoice, steps_in}
use Rattle.tomex_command.specs.RunViews.{IsNotShown}
use Rattle.tomex_command.specs.Statuses.{failure_of_animation, failure_of_excerpt, failure_of_picture}
use Rattle.tomex_command.specs.declared.commands.run_view.RunView.TheVariants.{Pipeline, Animate}
use Rattle.tomex_command.specs.declared.failure.Failure.{Failure}

pub undrawn : (line : PipelineLine) (choice : RunChoice) (error : PictureError) (failure : Failure)
    → IsUnpictured choice.config (steps_in choice) line.from line.steps error
    → line.konata ≡ false → failure ≡ failure_of_picture error → IsNotShown failure (Pipeline line) choice
undrawn line choice NoSuchStep failure why drawn is =
    subst (λ (f : Failure). IsNotShown f (Pipeline line) choice) (sym is) why
undrawn line choice TooLarge failure why drawn is =
    subst (λ (f : Failure). IsNotShown f (Pipeline line) choice) (sym is) (drawn, why)
undrawn line choice Memory failure why drawn is =
    subst (λ (f : Failure). IsNotShown f (Pipeline line) choice) (sym is) tt

pub unlogged : (line : PipelineLine) (choice : RunChoice) (error : ExcerptError) (failure : Failure)
    → HasNoExcerpt (steps_in choice) line.from error → failure ≡ failure_of_excerpt error
    → IsNotShown failure (Pipeline line) choice
unlogged line choice excerpts.NoSuchStep failure why is =
    subst (λ (f : Failure). IsNotShown f (Pipeline line) choice) (sym is) why
unlogged line choice excerpts.Memory failure why is =
    subst (λ (f : Failure). IsNotShown f (Pipeline line) choice) (sym is) tt

pub unanimated : (line : AnimateLine) (choice : RunChoice) (error : AnimationError) (failure : Failure)
    → IsUnanimated choice.config (steps_in choice) line.from error → failure ≡ failure_of_animation error
    → IsNotShown failure (Animate line) choice
unanimated line choice animations.PastEnd failure why is =
    subst (λ (f : Failure). IsNotShown f (Animate line) choice) (sym is) why
unanimated line choice animations.Memory failure why is =
    subst (λ (f : Failure). IsNotShown f (Animate line) choice) (sym is) tt
