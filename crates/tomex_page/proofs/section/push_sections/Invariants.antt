-- The runs are the same; the text so far, and the views to come.
use Rattle.std.proofs.Common.{◌≡◌, ◌++◌, drop, None}
use Rattle.std.specs.Prelude.{string_bytes}
use Rattle.tomex_page.specs.Page.{row_sections}
use Rattle.tomex_page.proofs.section.push_sections.Given as goal

abbrev pub invariant-loop-place : goal.invariant-loop-place
invariant-loop-place g l = record {
  runs : l.floored.items ≡ l.fn.floored.items;
  text : string_bytes l.text ++ row_sections l.surveyed l.hull l.shown l.before (drop l.place l.shown)
      ≡ string_bytes l.fn.text ++ row_sections l.surveyed l.hull l.shown None l.shown;
}
