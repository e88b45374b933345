-- The whole run of a cut's image.
use Rattle.std.proofs.Common.{◌≡◌, ℕ, zero, suc, ◌+◌, ◌<◌, ◌≤◌, List, ◌++◌, Option, Some, None, Ok, ◌∙◌, ap, arith}
use Rattle.std.specs.Prelude.{slice_index}
use Rattle.tomex_cut.specs.After.{after}
use Rattle.tomex_cut.specs.Cut.{IsCut}
use Rattle.tomex_cut.specs.Laws.{EndsAs, IsPrologueAndPart, moved}
use Rattle.tomex_cut.specs.Part.{most_part}
use Rattle.tomex_image.specs.Image.{IsLoaded, Loaded}
use Rattle.tomex_image.specs.Window.{IsWindow}
use Rattle.tomex_rvexec.specs.declared.outcome.EndKind.TheVariants.{Ebreak}
use Rattle.tomex_rvexec.specs.declared.step.Step.{Step}
use Rattle.tomex_rvexec.specs.Machine.{State}
use Rattle.tomex_rvexec.specs.Run.{EndsWithin, Leads, most_steps, start_of}
use Rattle.tomex_rvexec.specs.Trace.{steps_from}
use Rattle.tomex_cut.proofs.Entry.{after_joined, enters}
use Rattle.tomex_cut.proofs.Replay.{replays}
use Rattle.tomex_cut.proofs.Walks.{came_from, joined}

leads : (n : ℕ) (s t : State) → after s n ≡ Ok t → Leads s n t
leads zero s t e = let same : t ≡ s = cc in same
leads (suc n) s t e = let f = came_from s n t e in (f.before, leads n s f.before f.reached, f.goes)

within : (end : Option ℕ) (j : Loaded) (t : State) (count : ℕ) → after (start_of j) 64 ≡ Ok t → count ≤ most_part
    → EndsAs end t count → EndsWithin j most_steps
within None j t count entered few e =
    let reached = after_joined e.0 64 (start_of j) t entered ∙ e.4 in
    (64 + e.0, e.1, e.2, omega (arith, e.3), record { leads = leads (64 + e.0) (start_of j) e.1 reached; ends = e.5 })
within (Some a) j t count entered few e =
    let reached = after_joined count 64 (start_of j) t entered ∙ e.1 in
    (64 + count, e.0, Ebreak, omega arith, record { leads = leads (64 + count) (start_of j) e.0 reached; ends = e.3 })

pub whole : (i : Loaded) (from least : ℕ) (file : List ℕ) → IsWindow i.window.base i.window.size
    → IsLoaded i.window i.memory i.entry → ((k : ℕ) → slice_index i.memory k < 256) → (c : IsCut i from least file)
    → IsPrologueAndPart c.part (record { window = i.window; memory = c.memory.bytes; entry = c.place })
whole i from least file limits loaded bytes c =
    let j : Loaded = record { window = i.window; memory = c.memory.bytes; entry = c.place } in
    let entered = enters i from least file limits loaded bytes c in
    let r = replays i from least file limits loaded c in
    record {
      count = r.count;
      steps = joined 64 r.count (start_of j) (moved c.part.start j) entered
          ∙ ap (λ (xs : List Step). steps_from 64 (start_of j) ++ xs) r.steps;
      within = within c.part.end j (moved c.part.start j) r.count entered r.few r.ends;
    }
