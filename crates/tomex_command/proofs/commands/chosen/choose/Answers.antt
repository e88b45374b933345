-- The program and its file are found at one place, which is inside both lists.
use Rattle.std.proofs.Common.{◌<◌, ◌∙◌, ap, arith, sym, ℕ, Bool, List, length, Some}
use Rattle.std.specs.Option.{ok_or, option_map}
use Rattle.std.specs.Str.{bytes_eq}
use Rattle.std.proofs.lemmas.Option.{slice_get-get_or, slice_get-map}
use Rattle.std.proofs.lemmas.Result.{err_from_is_err_and}
use Rattle.tomex_study.specs.Program.{Workload}
use Rattle.tomex_command.specs.declared.failure.Failure.TheVariants as failures
use Rattle.tomex_views.proofs.Placed.{found_at, place_inside}
use Rattle.tomex_command.proofs.Placed.{row_unchosen, without_program}
use Rattle.tomex_command.proofs.commands.chosen.choose.Goals as goal

-- a program has this name
abbrev pub has_name : List ℕ → Workload → Bool
has_name name p = bytes_eq p.name name

pub returns-in_err-number-clause-unchosen : goal.returns-in_err-number-clause-unchosen
returns-in_err-number-clause-unchosen g c =
    let p = err_from_is_err_and c.from_residual.result c.from_residual.ensures.1 in
    rw (p.1) (row_unchosen c.args.studied.now.study c.args.run _ p.0
    (rw c.row_name.ensures at c.in_err-number.ensures.refused) p.2)

pub returns-in_err-place-clause-unchosen : goal.returns-in_err-place-clause-unchosen
returns-in_err-place-clause-unchosen g c =
    let p = err_from_is_err_and c.from_residual-in_err-place.result c.from_residual-in_err-place.ensures.1 in
    rw (p.1) (without_program c.args.studied.now.study c.args.run c.in_ok-number.number p.0 c.in_err-place.field-0.0
    (rw c.row_name.ensures at c.in_ok-number.ensures.row)
    (sym c.place_of.ensures ∙ c.in_err-place.ensures.ok_part) p.2
    (c.in_err-place.ensures.value ∙ ap (λ o. ok_or o failures.NoSuchProgram) c.in_err-place.ensures.ok_part))

pub offset_bounds-programs-place : goal.offset_bounds-programs-place
offset_bounds-programs-place g c =
    let inside = place_inside (has_name c.args.run.program.now) c.args.studied.now.study.programs c.in_ok-place.place
    (sym c.place_of.ensures ∙ c.in_ok-place.ensures.ok_part) in
    rw (c.programs.ensures.value) (omega (arith, inside))

pub bounds-programs-place : goal.bounds-programs-place
bounds-programs-place g c =
    rw (c.programs.ensures.value) (place_inside (has_name c.args.run.program.now) c.args.studied.now.study.programs
    c.in_ok-place.place (sym c.place_of.ensures ∙ c.in_ok-place.ensures.ok_part))

pub index-requires : goal.index-requires
index-requires g c =
    let inside = place_inside (has_name c.args.run.program.now) c.args.studied.now.study.programs c.in_ok-place.place
    (sym c.place_of.ensures ∙ c.in_ok-place.ensures.ok_part) in
    let all = c.args.studied.now.files.ok.0 in
    let as_many = c.requires in
    omega (arith, inside, all, as_many)

pub returns-clause-chosen : goal.returns-clause-chosen
returns-clause-chosen g c =
    let at = sym c.place_of.ensures ∙ c.in_ok-place.ensures.ok_part in
    let rows = c.args.studied.now.study.rows in
    let programs = c.args.studied.now.study.programs in
    let files = c.args.studied.now.files.items in
    let inside = place_inside (has_name c.args.run.program.now) programs c.in_ok-place.place at in
    let as_many = c.requires in
    let here : c.in_ok-place.place < length files = omega (arith, inside, as_many) in
    record {
      row_is = rw c.row_name.ensures at c.in_ok-number.ensures.row;
      config_is = slice_get-get_or rows c.in_ok-number.number c.index-rows-number.result c.in_ok-number.ensures.inside
          ∙ ap Some (sym (rw (c.rows.ensures.value) at c.index-rows-number.is));
      program_is = found_at (has_name c.args.run.program.now) programs c.in_ok-place.place at
          ∙ (slice_get-get_or programs c.in_ok-place.place c.index-programs-place.result inside
          ∙ ap Some (sym (rw (c.programs.ensures.value) at c.index-programs-place.is)));
      of_program = record {
        place = c.in_ok-place.place;
        place_is = at;
        bytes_are = slice_get-map (λ bytes. bytes.items) files c.in_ok-place.place
            ∙ (ap (λ o. option_map (λ bytes. bytes.items) o)
            (slice_get-get_or files c.in_ok-place.place c.index.result.now here ∙ ap Some (sym c.index.ensures))
            ∙ ap Some (sym c.as_slice.ensures.value));
      };
    }
