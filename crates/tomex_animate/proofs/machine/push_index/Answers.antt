-- One piece after the other.
use Rattle.std.proofs.lemmas.Result.{on_ok_weaker}
use Rattle.tomex_animate.specs.Machine.{index}
use Rattle.tomex_layout.proofs.Pieces.{◌▸◌, last_piece}
use Rattle.tomex_animate.proofs.machine.push_index.Goals as goal

pub returns : goal.returns
unfolding index
returns g c =
    on_ok_weaker c.write.result (λ last.
    (c.in_ok-push_str.ensures.bytes ▸ c.in_ok-push_index_links.ensures ▸ last_piece last).is) c.write.ensures.bytes
