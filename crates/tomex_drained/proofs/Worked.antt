-- Short runs, computed by the definitions.
use Rattle.std.proofs.Common.{◌≡◌, arith, refl, List, [], ◌∷◌, ◌++◌, Some, None}
use Rattle.tomex_rvdec.specs.declared.op.Op.TheVariants.{Beq, Jalr}
use Rattle.tomex_rvexec.specs.declared.step.Step.{Step}
use Rattle.tomex_config.specs.Configuration.{plain}
use Rattle.tomex_timing.specs.History.{greatest_end}
use Rattle.tomex_timing.specs.Issue.{branch_finish}
use Rattle.tomex_timing.specs.Search.{history, times_of}
use Rattle.tomex_timing.proofs.Programs.{addi, instr, step, two_alu_stations}
use Rattle.tomex_drained.specs.Drained.{IsDrained, cycles}
use Rattle.tomex_drained.specs.Parts.{and_its_end, hook, loads, prologue_cycles}

-- addi x1,x0,5; beq x1,x1 to an instruction after it
abbrev waits : List Step
waits = addi 0 1 0 5 0 ∷ step 4 (instr Beq 0 1 1 8) 5 5 ∷ []

-- the branch finishes in cycle 4, after the result's end in cycle 3
branch_is_last : (greatest_end (history plain waits) ≡ 4) × (branch_finish (history plain waits) ≡ 4)
unfolding times_of
branch_is_last = (refl, refl)

-- so what follows takes 3 cycles there, as in a run of its own
follows : (cycles plain (waits ++ (addi 12 2 0 1 0 ∷ [])) ≡ 7) × (cycles plain (addi 12 2 0 1 0 ∷ []) ≡ 3)
unfolding times_of
follows = (refl, refl)

-- but jalr x1,0(x0) finishes in cycle 2, and its own result ends in cycle 3
result_of_a_jump : IsDrained (history plain (step 0 (instr Jalr 1 0 0 0) 0 0 ∷ [])) → ⊥
unfolding times_of
result_of_a_jump l = absurd (omega (arith, l))

-- prologues of fewer registers, and the whole one
short_prologues : (cycles plain (loads 1 ++ hook) ≡ 15) × (cycles plain (loads 2 ++ hook) ≡ 21)
    × (cycles two_alu_stations (loads 2 ++ hook) ≡ 14)
unfolding times_of
short_prologues = (refl, refl, refl)

whole_prologue : prologue_cycles plain ≡ 189
unfolding times_of
whole_prologue = refl

-- an EBREAK at the end of a part adds a cycle after a branch, and none after an addition, whose result ends later
end_after_a_branch : (cycles plain (and_its_end None waits) ≡ 4) × (cycles plain (and_its_end (Some 12) waits) ≡ 5)
unfolding times_of
end_after_a_branch = (refl, refl)

end_after_an_addition : cycles plain (and_its_end (Some 4) (addi 0 1 0 5 0 ∷ [])) ≡ 3
unfolding times_of
end_after_an_addition = refl
