-- The files of the programs so far, and of all of them at the end.
use Rattle.std.proofs.Common.{◌∙◌, ap, arith, sym, refl}
use Rattle.std.proofs.lemmas.Grind.{common_steps}
use Rattle.std.proofs.lemmas.Iterator.Adapters.{YieldsList-from_vec}
use Rattle.std.proofs.lemmas.Iterator.Consumers.{YieldsList-end}
use Rattle.std.proofs.lemmas.List.{map-id}
use Rattle.tomex_document.specs.Document.{files_of}
use Rattle.tomex_document.proofs.names.files_of.Goals as goal

pub loop-program-preserved : goal.loop-program-preserved
loop-program-preserved g c = grind (arith, common_steps)

pub loop-program-init : goal.loop-program-init
loop-program-init g c = rw c.new-files.ensures.items refl

pub returns : goal.returns
returns g c =
    let given = c.into_iter-program-iterator.ensures.into_iter_gives in
    let entries = YieldsList-from_vec {s = c.into_iter-program-iterator.result} c.args.programs.items given.0
    (omega (arith, given.1, c.args.programs.ok.0)) in
    let end = YieldsList-end entries c.loop-program.yielded _ c.loop-program.yielded_by _ c.next.new.self
    c.in-None.is c.next.ensures.steps in
    c.loop-program.invariant ∙ ap files_of (sym (map-id c.loop-program.yielded) ∙ end.0)
