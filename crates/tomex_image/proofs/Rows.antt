-- The definitions of refusal and placing, computed on files whose answers are known.
use Rattle.std.proofs.Common.{ℕ, zero, suc, ◌+◌, ◌/◌, ◌%◌, ◌≡◌, refl, List, [], ◌∷◌, ◌++◌, Option, Some, None, take}
use Rattle.std.proofs.Common.{length}
use Rattle.std.specs.Prelude.{slice_set}
use Rattle.tomex_image.specs.declared.error.ImageError.{ImageError}
use Rattle.tomex_image.specs.declared.error.ImageError.TheVariants.{Empty, TooLarge, Truncated, NotRiscv, NotExec}
use Rattle.tomex_image.specs.declared.error.ImageError.TheVariants.{HeaderSize, Dynamic, Segment, Overlap}
use Rattle.tomex_image.specs.declared.error.ImageError.TheVariants.{TooManySegments, Entry}
use Rattle.tomex_image.specs.FileHeader.{entry_of}
use Rattle.tomex_image.specs.Placing.{byte_of}
use Rattle.tomex_image.specs.ProgramHeader.{segments_of}
use Rattle.tomex_image.specs.Loading.{refused}

-- words, low byte first
abbrev pub word : ℕ → List ℕ
word n = n % 256 ∷ n / 256 % 256 ∷ n / 65536 % 256 ∷ n / 16777216 ∷ []

abbrev pub words : List ℕ → List ℕ
words [] = []
words (n ∷ ns) = word n ++ words ns

-- `addi x1,x0,5; addi x2,x0,7; mul x3,x1,x2; ebreak`
abbrev pub program : List ℕ
program = words (0x00500093 ∷ 0x00700113 ∷ 0x022081b3 ∷ 0x00100073 ∷ [])

-- an executable for RISC-V with `count` program headers, entered at 0x10000
abbrev pub file_header : ℕ → List ℕ
file_header count = words (0x464c457f ∷ 0x00010101 ∷ 0 ∷ 0 ∷ 0x00f30002 ∷ 1 ∷ 0x00010000 ∷ 0x00000034 ∷ 0 ∷ 0
    ∷ 0x00200034 ∷ count ∷ 0 ∷ [])

-- a loadable segment of 16 bytes in the file and 32 in memory
abbrev pub header : ℕ → ℕ → List ℕ
header offset address = words (1 ∷ offset ∷ address ∷ address ∷ 16 ∷ 32 ∷ 5 ∷ 4 ∷ [])

-- a header of that type with those sizes
abbrev pub other_header : ℕ → ℕ → ℕ → ℕ → List ℕ
other_header kind address file_size memory_size =
    words (kind ∷ 0 ∷ address ∷ address ∷ file_size ∷ memory_size ∷ 5 ∷ 4 ∷ [])

-- one segment with the program, 100 bytes
abbrev pub elf : List ℕ
elf = file_header 1 ++ header 0x54 0x00010000 ++ program

-- headers of segments one after another
abbrev pub rising : ℕ → ℕ → ℕ → List ℕ
rising offset address zero = []
rising offset address (suc n) = header offset address ++ rising offset (address + 0x20) n

-- the refusal in the window of 65,536 bytes from 0x10000 on
abbrev pub answer : List ℕ → Option ImageError
answer bytes = refused bytes (record { base = 65536; size = 65536 })

abbrev pub with_byte : ℕ → ℕ → List ℕ → List ℕ
with_byte place value bytes = slice_set bytes place value

-- the bytes of the file
pub bytes_of : elf ≡ 0x7f ∷ 0x45 ∷ 0x4c ∷ 0x46 ∷ 0x01 ∷ 0x01 ∷ 0x01 ∷ 0x00 ∷ 0x00 ∷ 0x00 ∷ 0x00 ∷ 0x00 ∷ 0x00 ∷ 0x00
    ∷ 0x00 ∷ 0x00 ∷ 0x02 ∷ 0x00 ∷ 0xf3 ∷ 0x00 ∷ 0x01 ∷ 0x00 ∷ 0x00 ∷ 0x00 ∷ 0x00 ∷ 0x00 ∷ 0x01 ∷ 0x00 ∷ 0x34 ∷ 0x00
    ∷ 0x00 ∷ 0x00 ∷ 0x00 ∷ 0x00 ∷ 0x00 ∷ 0x00 ∷ 0x00 ∷ 0x00 ∷ 0x00 ∷ 0x00 ∷ 0x34 ∷ 0x00 ∷ 0x20 ∷ 0x00 ∷ 0x01 ∷ 0x00
    ∷ 0x00 ∷ 0x00 ∷ 0x00 ∷ 0x00 ∷ 0x00 ∷ 0x00 ∷ 0x01 ∷ 0x00 ∷ 0x00 ∷ 0x00 ∷ 0x54 ∷ 0x00 ∷ 0x00 ∷ 0x00 ∷ 0x00 ∷ 0x00
    ∷ 0x01 ∷ 0x00 ∷ 0x00 ∷ 0x00 ∷ 0x01 ∷ 0x00 ∷ 0x10 ∷ 0x00 ∷ 0x00 ∷ 0x00 ∷ 0x20 ∷ 0x00 ∷ 0x00 ∷ 0x00 ∷ 0x05 ∷ 0x00
    ∷ 0x00 ∷ 0x00 ∷ 0x04 ∷ 0x00 ∷ 0x00 ∷ 0x00 ∷ 0x93 ∷ 0x00 ∷ 0x50 ∷ 0x00 ∷ 0x13 ∷ 0x01 ∷ 0x70 ∷ 0x00 ∷ 0xb3 ∷ 0x81
    ∷ 0x20 ∷ 0x02 ∷ 0x73 ∷ 0x00 ∷ 0x10 ∷ 0x00 ∷ []
bytes_of = refl

pub length_of_elf : length elf ≡ 100
length_of_elf = refl

pub elf_is_loaded : answer elf ≡ None
elf_is_loaded = refl

pub no_bytes : answer [] ≡ Some Empty
no_bytes = refl

pub beginning_of_magic_is_flat : answer (take 3 elf) ≡ None
beginning_of_magic_is_flat = refl

pub flat_fills_window : refused program (record { base = 0; size = 16 }) ≡ None
flat_fills_window = refl

pub flat_larger_than_window : refused program (record { base = 0; size = 12 }) ≡ Some TooLarge
flat_larger_than_window = refl

pub magic_alone : answer (take 4 elf) ≡ Some Truncated
magic_alone = refl

pub file_header_cut_off : answer (take 51 elf) ≡ Some Truncated
file_header_cut_off = refl

pub last_byte_cut_off : answer (take 99 elf) ≡ Some Truncated
last_byte_cut_off = refl

pub class_of_64_bits : answer (with_byte 4 0x02 elf) ≡ Some NotRiscv
class_of_64_bits = refl

pub other_machine : answer (with_byte 18 0x3e elf) ≡ Some NotRiscv
other_machine = refl

pub shared_object : answer (with_byte 16 0x03 elf) ≡ Some NotExec
shared_object = refl

pub header_size_of_40 : answer (with_byte 42 0x28 elf) ≡ Some HeaderSize
header_size_of_40 = refl

pub headers_behind_end : answer (with_byte 44 0x02 elf) ≡ Some Truncated
headers_behind_end = refl

pub no_headers : answer (with_byte 44 0x00 elf) ≡ Some Empty
no_headers = refl

pub no_loadable_segment : answer (with_byte 52 0x02 elf) ≡ Some Empty
no_loadable_segment = refl

pub no_segment_in_memory : answer (with_byte 68 0x00 (with_byte 72 0x00 elf)) ≡ Some Empty
no_segment_in_memory = refl

pub entry_no_multiple_of_4 : answer (with_byte 24 0x02 elf) ≡ Some Entry
entry_no_multiple_of_4 = refl

abbrev pub elf_with_headers : List ℕ
elf_with_headers = with_byte 24 0x54 (with_byte 56 0x00 (with_byte 68 0x64 (with_byte 72 0x64 elf)))

pub headers_loaded_too : answer elf_with_headers ≡ None
headers_loaded_too = refl

pub entry_behind_headers : entry_of elf_with_headers ≡ 0x00010054
entry_behind_headers = refl

pub segment_outside_window : refused elf (record { base = 0; size = 65536 }) ≡ Some Segment
segment_outside_window = refl

-- the segment's 32 bytes fill a window of 32, and not one of 28
pub segment_fills_window : refused elf (record { base = 65536; size = 32 }) ≡ None
segment_fills_window = refl

pub segment_longer_than_window : refused elf (record { base = 65536; size = 28 }) ≡ Some Segment
segment_longer_than_window = refl

pub longer_in_file_than_in_memory : answer (with_byte 68 0x21 elf) ≡ Some Segment
longer_in_file_than_in_memory = refl

pub interpreter : answer (with_byte 52 0x03 elf) ≡ Some Dynamic
interpreter = refl

abbrev pub two : ℕ → List ℕ
two address = file_header 2 ++ header 0x74 0x00010000 ++ header 0x74 address ++ program

pub length_of_two : length (two 0x00010000) ≡ 132
length_of_two = refl

pub same_address_twice : answer (two 0x00010000) ≡ Some Overlap
same_address_twice = refl

pub side_by_side : answer (two 0x00010020) ≡ None
side_by_side = refl

abbrev pub sixteen_segments_elf : List ℕ
sixteen_segments_elf = file_header 16 ++ rising 0x234 0x00010000 16 ++ program

pub length_of_sixteen : length sixteen_segments_elf ≡ 580
length_of_sixteen = refl

pub sixteen_segments : answer sixteen_segments_elf ≡ None
sixteen_segments = refl

abbrev pub seventeen_segments_elf : List ℕ
seventeen_segments_elf = file_header 17 ++ rising 0x254 0x00010000 17 ++ program

pub length_of_seventeen : length seventeen_segments_elf ≡ 612
length_of_seventeen = refl

pub seventeen_segments : answer seventeen_segments_elf ≡ Some TooManySegments
seventeen_segments = refl

-- the bytes in memory: the program, then zeros
pub placed_first : byte_of elf (segments_of elf) 65536 ≡ 0x93
placed_first = refl

pub placed_inside : byte_of elf (segments_of elf) 65542 ≡ 0x70
placed_inside = refl

pub placed_late : byte_of elf (segments_of elf) 65550 ≡ 0x10
placed_late = refl

pub rest_is_zero : byte_of elf (segments_of elf) 65552 ≡ 0
rest_is_zero = refl

-- sums don't wrap at 2^32
pub end_in_file_above_32_bits : answer
    (with_byte 56 0xff (with_byte 57 0xff (with_byte 58 0xff (with_byte 59 0xff elf)))) ≡ Some Truncated
end_in_file_above_32_bits = refl

pub end_of_headers_above_32_bits : answer
    (with_byte 28 0xf0 (with_byte 29 0xff (with_byte 30 0xff (with_byte 31 0xff elf)))) ≡ Some Truncated
end_of_headers_above_32_bits = refl

pub end_in_memory_above_32_bits : answer
    (with_byte 60 0xf0 (with_byte 61 0xff (with_byte 62 0xff (with_byte 63 0xff elf)))) ≡ Some Segment
end_in_memory_above_32_bits = refl

-- a segment with neither bytes nor memory is skipped, wherever it lies
pub nothing_outside_window : answer (file_header 2 ++ header 0x74 0x00010000 ++ other_header 1 0 0 0 ++ program) ≡ None
nothing_outside_window = refl

pub bytes_but_no_memory : answer (file_header 2 ++ header 0x74 0x00010000 ++ other_header 1 0x00010020 1 0 ++ program)
    ≡ Some Segment
bytes_but_no_memory = refl

-- an entry in the window, but in no segment
pub entry_outside_segments : answer (with_byte 25 0x80 elf) ≡ None
entry_outside_segments = refl

-- of the seventeenth segment: its place is tested first, then the number, then what it shares
abbrev pub sixteen_and : List ℕ → List ℕ
sixteen_and last = file_header 17 ++ rising 0x254 0x00010000 16 ++ last ++ program

pub seventeenth_outside_window : answer (sixteen_and (other_header 1 0 0 32)) ≡ Some Segment
seventeenth_outside_window = refl

pub seventeenth_overlaps : answer (sixteen_and (other_header 1 0x00010000 0 32)) ≡ Some TooManySegments
seventeenth_overlaps = refl

pub seventeenth_names_interpreter : answer (sixteen_and (other_header 3 0x00010000 0 32)) ≡ Some Dynamic
seventeenth_names_interpreter = refl

pub seventeenth_is_not_loadable : answer (sixteen_and (other_header 2 0x00010000 0 32)) ≡ None
seventeenth_is_not_loadable = refl
