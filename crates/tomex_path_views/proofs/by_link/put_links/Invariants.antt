-- The records of the links so far are written.
use Rattle.std.proofs.Common.{◌≡◌, ◌++◌, ℕ, List, take}
use Rattle.std.specs.List.{flat_map}
use Rattle.std.specs.Prelude.{All}
use Rattle.tomex_rvexec.specs.declared.step.Step.{Step}
use Rattle.tomex_layout.specs.Csv.{IsReady, text_written}
use Rattle.tomex_path_views.specs.ByLink.{link_record}
use Rattle.tomex_path_views.proofs.by_link.put_links.Given as goal

abbrev pub invariant-loop-link : goal.invariant-loop-link
invariant-loop-link g l = record {
  ready : IsReady l.writer;
  text : (own : Step → List (List ℕ)) → All (λ s. g.C.StepColumns.shows l.columns s (own s)) l.steps
      → text_written (λ v. v.items) l.writer
      ≡ text_written (λ v. v.items) l.fn.writer
      ++ flat_map (link_record own l.steps l.times) (take l.link-index l.path);
}
