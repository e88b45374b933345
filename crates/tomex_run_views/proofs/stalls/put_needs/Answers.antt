-- One part of the report after the other.
use Rattle.std.proofs.lemmas.Result.{on_ok_weaker}
use Rattle.tomex_layout.proofs.Pieces.{◌▸◌, last_piece}
use Rattle.tomex_config.specs.Configuration.{latency_of}
use Rattle.tomex_run_views.proofs.stalls.put_needs.Goals as goal

pub returns : goal.returns
returns g c =
    on_ok_weaker c.put_floors.result (λ last steps is.
    (c.in_ok-put_header.ensures.text ▸ c.in_ok-put_parts.ensures.text ▸ c.in_ok-put_others.ensures.text
    ▸ last_piece (last (latency_of c.args.config.now) steps is)).is) c.put_floors.ensures
