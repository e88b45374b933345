-- Refusals of programs whose runs fault.
use Rattle.std.specs.Prelude.{ℕ, List, ◌++◌, codes}
use Rattle.tomex_refusals.specs.declared.faults.FaultRefusal.{FaultRefusal}
use Rattle.tomex_refusals.specs.declared.faults.FaultRefusal.TheVariants as those

-- the words that all such refusals have
abbrev pub words_of : FaultRefusal → List ℕ
words_of those.Fetch = codes "fault: fetch"
words_of those.Illegal = codes "fault: illegal"
words_of those.MisalignedTarget = codes "fault: misaligned target"
words_of those.Access = codes "fault: access"

-- their forms, with names in place of the parts that vary
abbrev pub form_of : FaultRefusal → List ℕ
form_of those.Fetch = codes "fault: fetch at PC"
form_of those.Illegal = codes "fault: illegal at PC"
form_of those.MisalignedTarget = codes "fault: misaligned target at PC"
form_of those.Access = codes "fault: access at PC"

abbrev pub fetch : List ℕ
fetch =
    codes "The program ran to PC, which is outside memory. The usual causes: `_start`\n"
    ++ (codes "returned (at the start the return address is 0, and there is nobody to return\n"
    ++ codes "to: end by EBREAK, or link examples/start.s), or a jump through a bad pointer.\n")

abbrev pub illegal : List ℕ
illegal =
    codes "The word at PC is no instruction of RV32IM. The usual causes: code for more\n"
    ++ (codes "than that, as compressed code, floating point or CSRs (compile with\n"
    ++ (codes "`-march=rv32im -mabi=ilp32`; `llvm-objdump -d FILE` shows what is at PC), or\n"
    ++ (codes "data that is run. At the first address it is mostly a file that is no program:\n"
    ++ (codes "a text, a C source or a study is taken as a flat image.\n"
    ++ (codes "Of an ELF file it is mostly one without `_start`: the linker warned of it, and\n"
    ++ (codes "the file has no entry, or a wrong one. Link examples/start.s. `readelf -h FILE`\n"
    ++ codes "says the entry, `readelf -s FILE` where `_start` is.\n"))))))

abbrev pub misaligned_target : List ℕ
misaligned_target =
    codes "A jump goes to an address that is no multiple of 4: mostly it is compressed\n"
    ++ codes "code (compile with `-march=rv32im`), or a jump through a bad pointer.\n"

abbrev pub access : List ℕ
access =
    codes "The instruction at PC loads or stores outside memory. The usual causes: a bad\n"
    ++ (codes "pointer; a stack that grew out of memory (more `--size`, or less recursion); or\n"
    ++ (codes "a program of GNU ld whose start code loads no `gp` (link examples/start.s, or\n"
    ++ codes "use -Wl,--no-relax). `llvm-objdump -d FILE` shows the instruction.\n"))

-- the advice on each: its meaning, the usual causes, and what to do
abbrev pub advice_of : FaultRefusal → List ℕ
advice_of those.Fetch = fetch
advice_of those.Illegal = illegal
advice_of those.MisalignedTarget = misaligned_target
advice_of those.Access = access
