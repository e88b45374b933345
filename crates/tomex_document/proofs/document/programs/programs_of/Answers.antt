-- A fault of one program is the fault of them all.
use Rattle.std.proofs.lemmas.Grind.{common_steps}
use Rattle.std.proofs.Common.{◌∙◌, add-one, arith, refl, sym}
use Rattle.std.proofs.lemmas.Result.{err_from_is_err_and}
use Rattle.toml.specs.View.{table_view}
use Rattle.tomex_document.proofs.Programs.{programs_of-end, programs_of-fault, programs_of-next}
use Rattle.tomex_document.proofs.document.programs.programs_of.Goals as goal

pub returns-in_err-clone : goal.returns-in_err-clone
returns-in_err-clone g c =
    let p = err_from_is_err_and c.from_residual.result c.from_residual.ensures.1 in
    rw (p.1, p.2) (λ other. absurd (other refl))

pub returns-in_err-push : goal.returns-in_err-push
returns-in_err-push g c =
    let p = err_from_is_err_and c.from_residual-in_err-push.result c.from_residual-in_err-push.ensures.1 in
    rw (p.1, p.2) (λ other. absurd (other refl))

pub returns-in_err-entry : goal.returns-in_err-entry
returns-in_err-entry g c =
    let p = err_from_is_err_and c.from_residual-in_err-entry.result c.from_residual-in_err-entry.ensures.1 in
    rw (p.1, p.2) (λ other.
    let fault = rw c.as_slice.ensures.value at (c.in_err-entry.ensures other) in
    let table = rw c.in-Some.is at c.as_table.ensures in
    rw (← c.loop-value.invariant.1)
    (programs_of-fault c.loop-value.number c.loop-value.value-index c.loop-value.entries.items
    c.args.values.now c.value-item.result (table_view c.in-Some.table.now) c.in_err-entry.field-0.0
    c.loop-value-test.true c.value-item.is table fault))

pub loop-value-preserved : goal.loop-value-preserved
loop-value-preserved g c =
    let done = rw c.as_slice.ensures.value at c.in_ok-entry.ensures in
    let table = rw c.in-Some.is at c.as_table.ensures in
    let next = programs_of-next c.loop-value.number c.loop-value.value-index c.loop-value.entries.items _
    c.args.values.now c.value-item.result (table_view c.in-Some.table.now) c.in_ok-entry.entry
    c.loop-value-test.true c.value-item.is table done c.in_ok-push.ensures.items in (
      omega (arith, c.loop-value.invariant.0),
      rw (add-one c.loop-value.value-index)
          (sym next ∙ c.loop-value.invariant.1),
    )

pub returns : goal.returns
returns g c = sym c.loop-value.invariant.1
    ∙ programs_of-end c.loop-value.number c.loop-value.value-index c.loop-value.entries.items c.args.values.now
    c.loop-value-test.false

pub returns-in_default : goal.returns-in_default
returns-in_default = grind (arith, common_steps)
