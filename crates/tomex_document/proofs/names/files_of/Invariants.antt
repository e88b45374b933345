-- The files of the programs so far.
use Rattle.std.proofs.Common.{◌≡◌, map, string_bytes}
use Rattle.tomex_document.specs.Document.{files_of}
use Rattle.tomex_document.proofs.names.files_of.Given as goal

abbrev pub invariant-loop-program : goal.invariant-loop-program
invariant-loop-program g l = map string_bytes l.files.items ≡ files_of l.yielded
