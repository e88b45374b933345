-- Each step that is left out is past, or later.
use Rattle.std.proofs.Common.{◌-◌, drop, length, refl, take}
use Rattle.std.proofs.lemmas.List.{take_rest}
use Rattle.tomex_animate.proofs.Pages.{stretch_is}
use Rattle.tomex_animate.proofs.stretch.stretch.Goals as goal

pub returns : goal.returns
returns c =
    let all = c.args.entries.now in
    let first = c.count_past-first.result in
    let count = c.without_later-count.result in
    let rest = take (length all - first) (drop first all) in
    stretch_is c.args.page all rest (take count rest) first count c.count_past-first.ensures.past (take_rest all first)
    c.without_later-count.ensures.later refl
