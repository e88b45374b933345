-- Refusals of images.
use Rattle.std.specs.Prelude.{ℕ, List, ◌++◌, codes}
use Rattle.tomex_refusals.specs.declared.images.ImageRefusal.{ImageRefusal}
use Rattle.tomex_refusals.specs.declared.images.ImageRefusal.TheVariants as those

-- the words that all such refusals have
abbrev pub words_of : ImageRefusal → List ℕ
words_of those.Empty = codes "image: empty"
words_of those.TooLarge = codes "image: too large"
words_of those.Truncated = codes "image: truncated"
words_of those.NotRiscv = codes "image: not RISC-V"
words_of those.NotExecutable = codes "image: not executable"
words_of those.HeaderSize = codes "image: header size"
words_of those.Dynamic = codes "image: dynamic"
words_of those.TooManySegments = codes "image: too many segments"
words_of those.Segment = codes "image: segment"
words_of those.Overlap = codes "image: overlap"
words_of those.Entry = codes "image: entry"

abbrev pub empty : List ℕ
empty =
    codes "The file is empty, or it is an ELF file with nothing to load.\n"
    ++ codes "Give the linked program, not an object file or an empty one.\n"

abbrev pub too_large : List ℕ
too_large =
    codes "A flat file has more bytes than memory.\n"
    ++ codes "Give memory more bytes: `--size N`, or `size = N` in a study, 1048576 at most.\n"

abbrev pub truncated : List ℕ
truncated =
    codes "The ELF file says that it is longer than it is: it was cut, or is still being\n"
    ++ codes "written. Build it again.\n"

abbrev pub not_riscv : List ℕ
not_riscv =
    codes "The ELF file is for another machine, or for 64-bit RISC-V.\n"
    ++ (codes "Compile with `-march=rv32im -mabi=ilp32`; clang also needs `--target=riscv32`.\n"
    ++ codes "`readelf -h FILE` must say `ELF32` and `RISC-V`.\n")

abbrev pub not_executable : List ℕ
not_executable =
    codes "The file is an object file (.o), a shared one (.so), or an executable that is\n"
    ++ (codes "independent of its position (PIE). `readelf -h FILE` says its type, which must\n"
    ++ codes "be EXEC. Link it with `-static -no-pie`.\n")

abbrev pub header_size : List ℕ
header_size =
    codes "The ELF file says that its headers have another size than the format gives\n"
    ++ codes "them: it is damaged. Build it again.\n"

abbrev pub dynamic : List ℕ
dynamic =
    codes "The program asks for a dynamic linker, and there is none. Link with `-static`.\n"

abbrev pub too_many_segments : List ℕ
too_many_segments =
    codes "The ELF file has more than 16 segments to load. `readelf -l FILE` lists them\n"
    ++ codes "(LOAD). Mend the linker script, so that sections share segments.\n"

abbrev pub segment : List ℕ
segment =
    codes "A part of the file lies outside memory, which is one window: `--size` bytes\n"
    ++ (codes "from `--base` on, 65536 from 0 if nothing else is said. Linkers place programs\n"
    ++ (codes "from 65536 on unless they are told otherwise, so this is the usual cause.\n"
    ++ (codes "`readelf -l FILE` says where the parts (LOAD) are: `--base` is at most the least\n"
    ++ (codes "VirtAddr, and base + size at least the greatest VirtAddr + MemSiz, with room for\n"
    ++ (codes "the stack after it. All numbers on the command line are decimal:\n"
    ++ (codes "  tomex run FILE --base 65536 --size 262144\n"
    ++ (codes "A study says it in the program's table: base = 65536, size = 262144. Or link the\n"
    ++ codes "program to begin at 0: -Wl,-Ttext-segment=0 (GNU ld), -Wl,--image-base=0 (lld).\n")))))))

abbrev pub overlap : List ℕ
overlap =
    codes "Two segments share a byte. `readelf -l FILE` lists them (LOAD). Mend the linker\n"
    ++ codes "script.\n"

abbrev pub entry : List ℕ
entry =
    codes "The address where the program begins is no multiple of 4, or lies outside\n"
    ++ (codes "memory. `readelf -h FILE` says it (Entry point address). The usual causes:\n"
    ++ (codes "compressed code (compile with `-march=rv32im`), or no symbol `_start`, from\n"
    ++ codes "which linkers take it (or name another: `-Wl,-e,NAME`).\n"))

-- the advice on each: its meaning, the usual causes, and what to do
abbrev pub advice_of : ImageRefusal → List ℕ
advice_of those.Empty = empty
advice_of those.TooLarge = too_large
advice_of those.Truncated = truncated
advice_of those.NotRiscv = not_riscv
advice_of those.NotExecutable = not_executable
advice_of those.HeaderSize = header_size
advice_of those.Dynamic = dynamic
advice_of those.TooManySegments = too_many_segments
advice_of those.Segment = segment
advice_of those.Overlap = overlap
advice_of those.Entry = entry
