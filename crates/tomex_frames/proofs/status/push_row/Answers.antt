-- One piece after the other.
use Rattle.std.proofs.Common.{◌∙◌, ◌++◌, ap, Option}
use Rattle.std.specs.Prelude.{codes, string_bytes}
use Rattle.std.proofs.lemmas.Result.{on_ok_weaker}
use Rattle.tomex_frames.specs.Cells.{doing_text}
use Rattle.tomex_frames.specs.Status.{step_row}
use Rattle.tomex_frames.specs.declared.doing.Doing.{Doing}
use Rattle.tomex_layout.proofs.Pieces.{◌▸◌, last_piece}
use Rattle.tomex_frames.proofs.status.push_row.Goals as goal

pub returns : goal.returns
unfolding step_row
returns g c =
    let doing = ap (λ (d : Option Doing). string_bytes c.push_row_cells.new.text
    ++ (codes "<td>" ++ (doing_text d ++ codes "</td></tr>\n"))) c.doing_in.ensures in
    on_ok_weaker c.write.result (λ last.
    (c.in_ok-push_row_head.ensures ▸ c.in_ok-push_row_cells.ensures ▸ last_piece (last ∙ doing)).is)
    c.write.ensures.bytes
