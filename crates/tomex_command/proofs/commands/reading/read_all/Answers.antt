-- The file with the current name is one more.
use Rattle.std.proofs.Common.{arith, string_bytes}
use Rattle.std.proofs.lemmas.Grind.{common_steps}
use Rattle.tomex_command.proofs.Reading.{one_more_of}
use Rattle.tomex_command.proofs.commands.reading.read_all.Goals as goal

pub loop-name-preserved : goal.loop-name-preserved
loop-name-preserved g c =
    one_more_of string_bytes (λ bytes. bytes.items) (g.F.Files.file c.args.files.now) c.args.names.now
    c.loop-name.name-index c.loop-name.contents.items c.in_ok-read.field-0 c.loop-name-test.true c.name-item.is
    c.as_str.ensures.value c.loop-name.invariant c.in_ok-read.ensures.read c.in_ok-push.ensures.items

pub returns-clause-read : goal.returns-clause-read
returns-clause-read = grind (arith, common_steps)
