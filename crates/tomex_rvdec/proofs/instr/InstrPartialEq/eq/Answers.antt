-- Two instructions are equal if their five parts are: the tests, joined in another order.
use Rattle.std.proofs.Common.{◌≡◌, Bool, ◌&&◌, arith, rules}
use Rattle.tomex_rvdec.proofs.instr.InstrPartialEq.eq.Goals as goal

regrouped : (op : Bool) {rd : Bool} (rs1 rs2 imm : Bool) {one two three four five : Bool} → one ≡ rd
    → two ≡ (one && rs1) → three ≡ (two && rs2) → four ≡ (three && imm) → five ≡ (four && op)
    → five ≡ (op && (rd && (rs1 && (rs2 && imm))))
regrouped op rs1 rs2 imm a b c d e = grind arith

pub returns : goal.returns
returns c =
    let five = regrouped _ _ _ _ c.eq.ensures c.and_eq.ensures c.and_eq-2.ensures c.and_eq-3.ensures
    c.and_eq-4.ensures in
    search (rules, five)
