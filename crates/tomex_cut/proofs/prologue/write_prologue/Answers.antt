use Rattle.std.proofs.Common.{arith}
use Rattle.std.proofs.lemmas.Grind.{common_steps}
use Rattle.tomex_cut.proofs.Prologues.{with_end, without_end}
use Rattle.tomex_cut.proofs.prologue.write_prologue.Goals as goal

pub returns-in-Some : goal.returns-in-Some
returns-in-Some g c =
    rw (c.in-Some.is) (with_end _ _ _ _ _ _ _ _ _ c.requires.room (rw (c.in-Some.is) at c.requires.end)
    c.write_place.ensures.place c.write_place.ensures.others c.write_hook.ensures.hook c.write_hook.ensures.others
    c.write_ebreak.ensures.word c.write_ebreak.ensures.others)

pub returns-in_default : goal.returns-in_default
returns-in_default g c =
    rw (c.in_default.is) (without_end _ _ _ _ _ _ _ c.requires.room c.write_place.ensures.place
    c.write_place.ensures.others c.write_hook.ensures.hook c.write_hook.ensures.others)

pub write_ebreak-requires : goal.write_ebreak-requires
write_ebreak-requires = grind (arith, common_steps)
