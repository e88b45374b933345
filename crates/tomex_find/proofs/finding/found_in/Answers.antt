-- A row that has all choices, or not.
use Rattle.std.proofs.Common.{◌∙◌, ◌<◌, ap, arith, length, map, sym, ℕ, []}
use Rattle.std.specs.Prelude.{string_bytes}
use Rattle.std.proofs.lemmas.List.Elements.{All-append, All-cons, All-nil}
use Rattle.tomex_find.specs.Find.{has_all}
use Rattle.tomex_find.proofs.FoundLoops.{all_kept, dropped, kept}
use Rattle.tomex_find.proofs.finding.found_in.Goals as goal
use Rattle.tomex_find.proofs.finding.found_in.Goals.{then-branch+in_ok-push, else-branch}

pub loop-row-preserved : goal.loop-row-preserved
loop-row-preserved g c =
    let n = length c.args.study.now.rows in
    let p = has_all c.args.study.now (map string_bytes c.args.words.now) in
    let l = c.loop-row-test.true in
    let e = ap length c.rows-row-end.ensures.value in
    let within : c.loop-row.row < n = omega (arith, l, e) in
    let P : ℕ → Type 0 = λ k. k < n in
    elim c.if-branch.branch [
      | then-branch+in_ok-push w ↦ record {
        found = kept p c.loop-row.row n c.loop-row.rows.items _ _ within
            (sym c.in_ok-has_all.ensures ∙ w.if-branch.true) (rw w.rows-is w.in_ok-push.ensures.items)
            c.loop-row.invariant.found;
        within = rw (w.rows-is, w.in_ok-push.ensures.items) (All-append P c.loop-row.rows.items _
            c.loop-row.invariant.within (All-cons P c.loop-row.row [] within (All-nil P)));
      }
      | else-branch w ↦ record {
        found = rw w.rows-is (dropped p c.loop-row.row n c.loop-row.rows.items _ within
            (sym c.in_ok-has_all.ensures ∙ w.if-branch.false) c.loop-row.invariant.found);
        within = rw w.rows-is c.loop-row.invariant.within;
      }
    ]

pub returns-clause-found : goal.returns-clause-found
returns-clause-found g c =
    let n = length c.args.study.now.rows in
    let l = c.loop-row-test.false in
    let e = ap length c.rows-row-end.ensures.value in
    all_kept (has_all c.args.study.now (map string_bytes c.args.words.now)) c.loop-row.row n c.loop-row.rows.items _
    (omega (arith, l, e)) c.loop-row.invariant.found
