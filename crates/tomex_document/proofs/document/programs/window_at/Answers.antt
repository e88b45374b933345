use Rattle.std.proofs.Common.{rules}
use Rattle.tomex_document.proofs.document.programs.window_at.Goals as goal

pub unreachable-requires : goal.unreachable-requires
unreachable-requires c = search rules fits 100

pub returns-in_err-size : goal.returns-in_err-size
unfolding Rattle.tomex_document.specs.Program.window_at
returns-in_err-size c = search rules fits 100

pub returns : goal.returns
unfolding Rattle.tomex_document.specs.Program.window_at
returns c = search rules fits 100
