-- The page of the steps that are in its views is that of all.
use Rattle.tomex_animate.proofs.Pages.{animated}
use Rattle.tomex_animate.proofs.page.animation.Goals as goal

pub returns : goal.returns
returns g c = record {
  text = (
    _,
    c.in_ok-last.ensures.last,
    animated c.steps-steps.ensures.steps c.run.ensures.steps c.in_ok-run.ensures.times c.as_slice.ensures.value
        c.total-total.ensures c.in_ok-run.ensures.exact c.as_slice-3.ensures.value c.in_ok-page.ensures.page
        c.requires.first c.requires.count c.in_ok-entries.ensures
        c.as_slice-4.ensures.value c.stretch.ensures (rw c.name.ensures.value at c.in_ok-page_text.ensures),
  );
  refused = tt;
}
