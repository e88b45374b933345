-- One part of the table after the other.
use Rattle.std.proofs.lemmas.Result.{on_ok_weaker}
use Rattle.tomex_layout.specs.Csv.{record_text}
use Rattle.tomex_layout.proofs.Pieces.{◌▸◌, last_piece}
use Rattle.tomex_loop_views.specs.Table.{line_fields, line_of}
use Rattle.tomex_loop_views.proofs.RowsOrder.{through}
use Rattle.tomex_loop_views.proofs.table.put_table.Goals as goal

pub returns : goal.returns
returns g c =
    on_ok_weaker c.put_rest-2.result (λ last. (c.in_ok-put_header.ensures.text
    ▸ (rw (through line_of (λ line. record_text (line_fields c.args.file.now line)) c.args.rows.now)
    at c.in_ok-put_rows.ensures.text)
    ▸ c.in_ok-put_rest.ensures.text ▸ last_piece last).is) c.put_rest-2.ensures.text
