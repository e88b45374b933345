-- One piece after the other.
use Rattle.std.proofs.lemmas.Result.{on_ok_weaker}
use Rattle.tomex_layout.proofs.Pieces.{◌▸◌, last_piece}
use Rattle.tomex_page_rows.specs.Sentence.{floor_sentence}
use Rattle.tomex_page_rows.proofs.sentence.push_floor_sentence.Goals as goal

pub returns : goal.returns
unfolding floor_sentence
returns g c =
    on_ok_weaker c.write-2.result (λ last.
    (c.in_ok-write.ensures.bytes ▸ c.in_ok-push_str.ensures.bytes ▸ c.in_ok-push_floor.ensures
    ▸ c.in_ok-push_str-2.ensures.bytes ▸ c.in_ok-push_floor-2.ensures ▸ last_piece last).is)
    c.write-2.ensures.bytes
