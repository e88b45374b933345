-- How a function's name is shown in a text: a line stays one line, and a long name is cut.
use Rattle.std.specs.Prelude.{ℕ, List, [], ◌++◌, Option, Some, None, codes, false, length, nat_lt, take, if◌then◌else◌}
use Rattle.std.specs.Fmt.{digits}
use Rattle.std.specs.List.{flat_map}
use Rattle.std.specs.Str.{is_utf8}
use Rattle.tomex_layout.specs.Names.{shown_char, shown_name}
use Rattle.tomex_symbols.specs.declared.symbol.Symbol.{Symbol}
use Rattle.tomex_symbols.specs.Names.{name_of}

-- a byte of a name that isn't UTF-8
abbrev pub shown_byte : ℕ → List ℕ
shown_byte b = if nat_lt b 128 then shown_char b else codes "\\x" ++ digits 16 false b

-- UTF-8 as names of files are shown, all else byte by byte
abbrev pub shown_bytes : List ℕ → List ℕ
shown_bytes bs = if is_utf8 bs then shown_name bs else flat_map shown_byte bs

-- the first 256 bytes, and two dots after them if there are more
abbrev pub cut_name : List ℕ → List ℕ
cut_name name = shown_bytes (take 256 name) ++ (if nat_lt 256 (length name) then codes ".." else [])

-- the name of a symbol of a file
abbrev pub shown_function : List ℕ → Symbol → List ℕ
shown_function bytes s = cut_name (name_of bytes s)

-- and of one that there may be
abbrev pub name_field : List ℕ → Option Symbol → List ℕ
name_field bytes None = codes "-"
name_field bytes (Some s) = shown_function bytes s
