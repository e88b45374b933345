-- What is pushed, and the names that are left, are all.
use Rattle.std.proofs.Common.{◌≡◌, ◌++◌, drop, map}
use Rattle.tomex_asm_words.specs.Outputs.{remark_of}
use Rattle.tomex_asm_words.specs.Words.{bound}
use Rattle.tomex_asm_words.proofs.output.push_bound.Given as goal

abbrev pub invariant-loop-token : goal.invariant-loop-token
invariant-loop-token g l =
    map remark_of l.remarks.items ++ bound l.line l.binding (drop l.token-index l.names)
    ≡ map remark_of l.fn.remarks.items ++ bound l.line l.binding l.names
