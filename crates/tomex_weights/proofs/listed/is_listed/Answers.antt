-- A row's spans stand at its number.
use Rattle.std.proofs.Common.{◌≡◌, ◌∙◌, ◌<◌, ◌||◌, ap, get_or, length, subst, sym, true, false, All, Bool, List}
use Rattle.std.specs.List.{list_any}
use Rattle.std.proofs.lemmas.Bool.{or_left}
use Rattle.tomex_pareto.specs.Front.{is_on}
use Rattle.tomex_pareto.specs.declared.front_row.FrontRow.{FrontRow}
use Rattle.tomex_study.specs.StudyFront.{front_of_study}
use Rattle.tomex_pareto.specs.Spans.{no_values}
use Rattle.tomex_weights.specs.Listed.{ProgramSpans, has_weights, is_listed}
use Rattle.tomex_weights.specs.Programs.{relevant_programs_of}
use Rattle.tomex_weights.specs.Spans.{span_of}
use Rattle.tomex_weights.proofs.Listing.{comes_is, spans_long}
use Rattle.tomex_weights.proofs.listed.is_listed.Goals as goal

pub comes_by_weights-requires : goal.comes_by_weights-requires
comes_by_weights-requires g c =
    subst (All (λ (p : ProgramSpans). c.args.row.row < length p.spans)) (sym c.requires.columns)
    (spans_long c.args.surveyed.now c.args.row c.keeps_limits.ensures c.requires.row)

pub returns-then-is_on : goal.returns-then-is_on
unfolding is_listed
returns-then-is_on g c =
    let s = c.args.surveyed.now in
    let on : is_on (front_of_study s) c.args.row.row ≡ true =
    sym (c.is_on.ensures ∙ ap (λ (front : List FrontRow). is_on front c.args.row.row) c.front.ensures.value)
    ∙ c.if-is_on.true in
    c.if-is_on.true ∙ sym (or_left (is_on (front_of_study s) c.args.row.row)
    (list_any (λ place. has_weights (span_of s place c.args.row)) (relevant_programs_of s)) on)

pub returns-else-is_on : goal.returns-else-is_on
unfolding is_listed
returns-else-is_on g c =
    let s = c.args.surveyed.now in
    let off : is_on (front_of_study s) c.args.row.row ≡ false =
    sym (c.is_on.ensures ∙ ap (λ (front : List FrontRow). is_on front c.args.row.row) c.front.ensures.value)
    ∙ c.if-is_on.false in
    c.comes_by_weights.ensures
    ∙ (ap (list_any (λ (p : ProgramSpans). has_weights (get_or p.spans c.args.row.row no_values))) c.requires.columns
    ∙ (comes_is s c.args.row c.keeps_limits.ensures c.requires.row
    ∙ sym (ap (λ (b : Bool).
    b || list_any (λ place. has_weights (span_of s place c.args.row)) (relevant_programs_of s)) off)))
