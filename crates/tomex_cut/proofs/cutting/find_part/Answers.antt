use Rattle.std.proofs.Common.{arith}
use Rattle.std.proofs.lemmas.Grind.{common_steps}
use Rattle.tomex_rvexec.specs.Run.{start_of}
use Rattle.tomex_cut.proofs.Found.{memory_is, part_found, words_after}
use Rattle.tomex_cut.proofs.Walks.{Keeps}
use Rattle.tomex_cut.proofs.cutting.find_part.Goals as goal

pub returns-clause-ok : goal.returns-clause-ok
returns-clause-ok g c =
    let cpu = c.in_ok-cpu.ensures in
    let keeps : Keeps (start_of c.args.image.now) c.in_ok-cpu.cpu = record { state = cpu.state; image = cpu.image } in
    let window = c.window-window.ensures.value in
    let same = c.in_ok-found.ensures.same in
    rw (c.mark_end.ensures.base) (part_found c.args.image.now _ _ _ _ _ _ _ _ c.find_end.new.words.marks.items
    c.mark_end.new.self.marks.items c.in_ok-cpu.cpu cpu.reached keeps (rw (window) at c.keeps_limits.ensures)
    c.pc-pc.ensures c.registers-registers.ensures
    (memory_is c.args.image.now c.in_ok-cpu.cpu _ _ c.in_ok-memory.memory c.in_ok-memory.ensures window cpu.image
    c.memory.ensures) c.in_ok-found.ensures.ok
    (words_after c.args.image.now c.in_ok-cpu.cpu _ _ _ _ _ window cpu.image c.keeps_limits.ensures
    c.in_ok-words.ensures.base c.in_ok-words.ensures.marks same.0 same.1) c.mark_end.ensures.marks)

pub find_end-requires-clause-state : goal.find_end-requires-clause-state
find_end-requires-clause-state = grind (arith, common_steps)

pub copy_memory-requires : goal.copy_memory-requires
copy_memory-requires = grind (arith, common_steps)

pub find_end-requires-clause-words : goal.find_end-requires-clause-words
find_end-requires-clause-words = grind (arith, common_steps)

pub find_end-requires-clause-window : goal.find_end-requires-clause-window
find_end-requires-clause-window = grind (arith, common_steps)
