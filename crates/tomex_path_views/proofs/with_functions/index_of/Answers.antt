-- The symbols are those of the file, and the steps those of the run.
use Rattle.std.proofs.lemmas.Result.{IfOk-weaker}
use Rattle.tomex_path_views.proofs.Reports.{index_is}
use Rattle.tomex_symbols.specs.Symbols.{symbols_of}
use Rattle.tomex_path_views.proofs.with_functions.index_of.Goals as goal

pub returns : goal.returns
returns g c = IfOk-weaker c.new.result _ _ (λ index is. index_is (symbols_of c.args.file.now) _
    c.args.run.now _ index c.in_ok-symbols.ensures.value c.steps.ensures is) c.new.ensures
