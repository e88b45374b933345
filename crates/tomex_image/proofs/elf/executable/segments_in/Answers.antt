-- The return with the refusal of a header: it is the first test that fails.
use Rattle.std.proofs.Common.{rules, sym, ◌∙◌}
use Rattle.tomex_image.proofs.Refusals.{fails_next, headers_end, headers_next, passes_at}
use Rattle.tomex_image.proofs.elf.executable.segments_in.Goals as goal

pub returns-in-Some-clause-err : goal.returns-in-Some-clause-err
returns-in-Some-clause-err c = rw c.loop-k.invariant.tests
    (fails_next _ c.args.bytes.now _ c.loop-k.offset _ _ c.loop-k-test.true c.as_slice.ensures.value
    c.read_program_header-header.ensures (sym c.header_refusal.ensures ∙ c.in-Some.is))

pub returns-clause-passed : goal.returns-clause-passed
returns-clause-passed c = search rules fits 100

pub returns-clause-entry : goal.returns-clause-entry
returns-clause-entry c = search rules fits 100

pub loop-k-preserved : goal.loop-k-preserved
loop-k-preserved c = search (rules, passes_at, headers_next, headers_end)
