-- The configuration's fields, the program's name, and its end.
use Rattle.std.proofs.Common.{◌∙◌, ap, sym}
use Rattle.tomex_study.specs.Watch.{watched_bytes}
use Rattle.tomex_layout.proofs.Pieces.{◌▸◌, last_piece}
use Rattle.tomex_texts.proofs.Records.{record_is, watched_long}
use Rattle.tomex_texts.proofs.front_fields.fill_record.Goals as goal

pub push_end-requires-clause-watched : goal.push_end-requires-clause-watched
push_end-requires-clause-watched g c =
    let loaded = rw c.image.ensures.value at c.fills_its_window.ensures in
    watched_long c.args.config.now c.args.program.now c.args.end.now c.keeps_limits.ensures loaded c.requires
    ∙ ap watched_bytes (sym c.watch.ensures.value)

pub returns : goal.returns
returns g c =
    let loaded = rw c.image.ensures.value at c.fills_its_window.ensures in
    let name = c.as_bytes.ensures.value ∙ c.name.ensures.value in
    let weight = c.from.ensures ∙ c.weight.ensures.value in
    record_is c.args.wide c.args.front c.keeps_limits.ensures loaded c.requires c.clear.ensures.fields
    (c.in_ok-push_row.ensures.fields
    ▸ (rw (c.in_ok-push_row.ensures.whole, name) at c.in_ok-push_field.ensures.fields)
    ▸ (rw weight at c.in_ok-push_if_wide.ensures.fields)
    ▸ last_piece (rw c.watch.ensures.value at c.in_ok-push_end.ensures.fields))
