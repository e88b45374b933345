-- One piece after the other.
use Rattle.std.proofs.lemmas.Result.{on_ok_weaker}
use Rattle.tomex_layout.proofs.Pieces.{◌▸◌, last_piece}
use Rattle.tomex_page_tables.specs.Front.{front_row_start}
use Rattle.tomex_page_tables.proofs.front.push_row_start.Goals as goal

pub returns : goal.returns
unfolding front_row_start
returns g c =
    on_ok_weaker c.write-2.result (λ last.
    ((rw c.hull_mark-mark.ensures at c.in_ok-write.ensures.bytes) ▸ c.in_ok-push_row_link.ensures ▸ last_piece last).is)
    c.write-2.ensures.bytes
