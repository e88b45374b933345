-- One piece after the other.
use Rattle.std.proofs.lemmas.Result.{on_ok_weaker}
use Rattle.tomex_layout.proofs.Pieces.{◌▸◌, last_piece}
use Rattle.tomex_html.specs.Tables.{column_head}
use Rattle.tomex_page_tables.proofs.settings.push_setting_head.Goals as goal

pub returns : goal.returns
unfolding column_head
returns g c =
    on_ok_weaker c.write.result (λ last.
    (c.in_ok-push_str.ensures.bytes ▸ c.in_ok-push_name_of_setting.ensures ▸ last_piece last).is) c.write.ensures.bytes
