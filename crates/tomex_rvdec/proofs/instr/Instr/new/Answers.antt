use Rattle.std.proofs.Common.{◌<◌, ◌≤◌, ◌⊎◌, inl, inr, arith}
use Rattle.tomex_rvdec.specs.Instruction.{Instruction}
use Rattle.tomex_rvdec.specs.Meaning.{IsMeant, with_operands}
use Rattle.tomex_rvdec.proofs.Fitting.{fitting, finds_none, is_the_meant, meant_registers}
use Rattle.tomex_rvdec.proofs.instr.Instr.new.Goals as goal

above : (x : Instruction) → (32 ≤ x.rd) ⊎ ((x.rd < 32) × (32 ≤ x.rs1)) ⊎ ((x.rd < 32) × (x.rs1 < 32) × (32 ≤ x.rs2))
    → IsMeant x → ⊥
above x (inl rd) m = let low = meant_registers x m in omega arith
above x (inr (inl rs1)) m = let low = meant_registers x m in omega arith
above x (inr (inr rs2)) m = let low = meant_registers x m in omega arith

pub returns-then-rd-ge32-clause-none : goal.returns-then-rd-ge32-clause-none
returns-then-rd-ge32-clause-none c =
    above (with_operands c.args.op c.args.rd c.args.rs1 c.args.rs2 c.args.imm) c.then-rd-ge32.either

pub not_found : (c : goal.After-from_residual)
    → IsMeant (with_operands c.args.op c.args.rd c.args.rs1 c.args.rs2 c.args.imm) → ⊥
not_found c =
    finds_none (with_operands c.args.op c.args.rd c.args.rs1 c.args.rs2 c.args.imm) c.word_of-word.result
    c.decode.result (λ w m. c.word_of-word.ensures w (rw (c.from.ensures, c.from-2.ensures, c.from-3.ensures) m))
    c.decode.ensures.none c.in_err-instr.was

pub returns-in_err-instr-clause-none : goal.returns-in_err-instr-clause-none
returns-in_err-instr-clause-none c = rw c.from_residual.ensures (not_found c)

pub returns-in_err-instr-clause-fits : goal.returns-in_err-instr-clause-fits
returns-in_err-instr-clause-fits c = λ fits. absurd (not_found c (fitting _ fits))

another : (c : goal.Else-has_parts)
    → IsMeant (with_operands c.args.op c.args.rd c.args.rs1 c.args.rs2 c.args.imm) → ⊥
another c meant =
    c.has_parts.ensures.other c.if-has_parts.false
    (is_the_meant (with_operands c.args.op c.args.rd c.args.rs1 c.args.rs2 c.args.imm) _ c.word_of-word.result
    (λ w m. c.word_of-word.ensures w (rw (c.from.ensures, c.from-2.ensures, c.from-3.ensures) m))
    c.in_ok-instr.ensures.some meant)

pub returns-else-has_parts-clause-none : goal.returns-else-has_parts-clause-none
returns-else-has_parts-clause-none c = another c

pub returns-else-has_parts-clause-fits : goal.returns-else-has_parts-clause-fits
returns-else-has_parts-clause-fits c = λ fits. absurd (another c (fitting _ fits))
