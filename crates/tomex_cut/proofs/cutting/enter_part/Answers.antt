use Rattle.std.proofs.Common.{inl, inr, refl, sym, ◌∙◌, arith}
use Rattle.std.proofs.lemmas.Grind.{common_steps}
use Rattle.std.proofs.lemmas.Result.{err_from_is_err_and}
use Rattle.tomex_cut.proofs.Fitting.{end_fits, fits}
use Rattle.tomex_cut.proofs.Found.{prologue_is, refused_by_part}
use Rattle.tomex_cut.proofs.cutting.enter_part.Goals as goal

pub returns-in_err-part-clause-err : goal.returns-in_err-part-clause-err
returns-in_err-part-clause-err g c =
    let p = err_from_is_err_and c.from_residual.result c.from_residual.ensures.1 in
    rw (p.1, p.2) (refused_by_part c.args.image.now c.args.from c.args.least c.in_err-part.field-0.0
    c.in_err-part.ensures.err)

pub returns-in_default-clause-err : goal.returns-in_default-clause-err
returns-in_default-clause-err g c =
    let p = c.in_ok-part.ensures.ok in
    (p.part, p.is_part, sym p.changed ∙ c.if-part.false, inl (c.in_default.ensures.none p.part (sym p.at) p.free))

pub returns-in_default-place-clause-err : goal.returns-in_default-place-clause-err
returns-in_default-place-clause-err g c =
    let p = c.in_ok-part.ensures.ok in (
      p.part,
      p.is_part,
      sym p.changed ∙ c.if-part.false,
      inr (
        c.in-Some.hook,
        c.in-Some.ensures.some p.part (sym p.at) p.free,
        c.in_default-place.ensures.none p.part p.free,
      ),
    )

pub write_prologue-requires-clause-room : goal.write_prologue-requires-clause-room
write_prologue-requires-clause-room g c =
    let p = c.in_ok-part.ensures.ok in
    let hook = c.in-Some.ensures.some p.part (sym p.at) p.free in
    let place = c.in-Some-place.ensures.some p.part p.free in
    rw (p.before, p.at) (fits p.part _ _ p.state (rw (p.image) p.window) hook place)

pub write_prologue-requires-clause-end : goal.write_prologue-requires-clause-end
write_prologue-requires-clause-end g c =
    let p = c.in_ok-part.ensures.ok in
    let hook = c.in-Some.ensures.some p.part (sym p.at) p.free in
    let place = c.in-Some-place.ensures.some p.part p.free in
    rw (p.before, p.ends) (end_fits p.part _ _ p.state hook place p.end_word)

pub returns-clause-ok : goal.returns-clause-ok
returns-clause-ok g c =
    let p = c.in_ok-part.ensures.ok in
    record {
      cut = record {
        part = p.part;
        is_part = p.is_part;
        kept = sym p.changed ∙ c.if-part.false;
        hook = c.in-Some.hook;
        is_hook = c.in-Some.ensures.some p.part (sym p.at) p.free;
        place = c.in-Some-place.place;
        is_place = c.in-Some-place.ensures.some p.part p.free;
        memory = c.write_prologue.new.memory;
        is_memory = prologue_is _ _ c.write_prologue.new.memory _ _ _ _ _ _ _ _ p.before p.at p.registers p.ends
            c.write_prologue.ensures;
        is_file = refl;
      };
      at = refl;
      holds = refl;
    }

pub returns-then-part-clause-err : goal.returns-then-part-clause-err
returns-then-part-clause-err = grind (arith, common_steps)

pub returns-clause-size : goal.returns-clause-size
returns-clause-size = grind (arith, common_steps)
