-- The files so far are those of the names so far.
use Rattle.std.proofs.Common.{take, map, string_bytes}
use Rattle.tomex_command.specs.Reading.{AreRead}
use Rattle.tomex_command.proofs.commands.reading.read_all.Given as goal

abbrev pub invariant-loop-name : goal.invariant-loop-name
invariant-loop-name g l =
    AreRead (g.F.Files.file l.files) (take l.name-index (map string_bytes l.names))
    (map (λ v. v.items) l.contents.items)
