-- One piece after the other.
use Rattle.std.proofs.lemmas.Result.{on_ok_weaker}
use Rattle.tomex_layout.proofs.Pieces.{◌▸◌, last_piece}
use Rattle.std.proofs.Common.{sym}
use Rattle.tomex_page.specs.Page.{section_tables}
use Rattle.tomex_page.proofs.section.push_tables.Goals as goal

pub returns : goal.returns
unfolding section_tables
returns g c =
    on_ok_weaker c.push_prices_table.result (λ last.
    (c.in_ok-push_against.ensures ▸ (rw (c.prices.ensures.value, c.study.ensures) at c.in_ok-push_parts_table.ensures)
    ▸ c.in_ok-push_changes_table.ensures ▸ last_piece last).is)
    (rw (sym c.requires.here) at c.push_prices_table.ensures)
