-- One piece after the other; each line is that of the row at the place.
use Rattle.std.proofs.Common.{◌∙◌, ◌++◌, ◌<◌, ap, subst, sym, List, ℕ, length, All}
use Rattle.std.specs.Prelude.{string_bytes}
use Rattle.std.specs.List.{flat_map}
use Rattle.std.proofs.lemmas.List.{get_or_default}
use Rattle.std.proofs.lemmas.List.Elements.{All-get_or}
use Rattle.std.proofs.lemmas.Result.{on_ok_weaker}
use Rattle.tomex_prices.specs.Percent.{percent_of}
use Rattle.tomex_layout.proofs.Pieces.{◌▸◌, last_piece}
use Rattle.tomex_page_rows.specs.Stays.{PriceRanges, prices_table, range_row_at, shown_prices}
use Rattle.tomex_page_tables.specs.Shown.{no_row}
use Rattle.tomex_page_rows.proofs.PriceLines.{lines_at, ranges_long}
use Rattle.tomex_page_rows.proofs.stays.push_prices_table.Goals as goal

pub push_range_rows-requires : goal.push_range_rows-requires
push_range_rows-requires g c =
    let P : PriceRanges → Type 0 = λ p. c.args.place < length p.ranges in
    λ k d within. All-get_or P _ k d within
    (subst (All P) (sym (c.ranges-2.ensures.value ∙ c.requires.book.ranges))
    (ranges_long c.args.surveyed.now c.args.shown.now c.args.place c.requires.place (shown_prices c.args.surveyed.now)))

pub returns : goal.returns
unfolding prices_table
returns g c =
    let lines = c.in_ok-push_range_rows.ensures
    ∙ ap (λ (z : List ℕ). string_bytes c.push_table_head.new.text ++ z)
    (ap (flat_map (range_row_at c.args.place)) (c.ranges-2.ensures.value ∙ c.requires.book.ranges)
    ∙ lines_at c.args.surveyed.now c.args.shown.now c.args.place c.requires.place (shown_prices c.args.surveyed.now)) in
    let own = get_or_default c.args.shown.now c.args.place _ no_row c.requires.place in
    let percent = c.percent.ensures.percent ∙ ap (percent_of c.args.surveyed.now) own in
    on_ok_weaker c.push_off.result (λ last.
    (c.in_ok-push_str.ensures.bytes ▸ c.in_ok-push_table_head.ensures ▸ lines ▸ c.in_ok-push_table_end.ensures
    ▸ (rw (c.relevant.ensures.value, c.requires.book.relevant) at c.in_ok-push_more.ensures) ▸ last_piece last).is)
    (rw percent at c.push_off.ensures)
