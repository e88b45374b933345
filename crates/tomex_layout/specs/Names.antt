-- The text of a name in a line.
use Rattle.std.specs.Prelude.{ℕ, ◌==◌, false, List, ◌++◌, codes, if◌then◌else◌}
use Rattle.std.specs.Char.{encode_utf8, is_control}
use Rattle.std.specs.Fmt.{digits}
use Rattle.std.specs.List.{flat_map}
use Rattle.std.specs.Str.{chars}

-- a control character as Rust's `char::escape_debug` writes it, any other as it is
abbrev pub shown_char : ℕ → List ℕ
shown_char c =
    if c == 0 then codes "\\0"
    else (if c == 9 then codes "\\t"
    else (if c == 10 then codes "\\n"
    else (if c == 13 then codes "\\r"
    else (if is_control c then codes "\\u{" ++ (digits 16 false c ++ codes "}")
    else encode_utf8 c))))

-- each character of the name
abbrev pub shown_name : List ℕ → List ℕ
shown_name name = flat_map shown_char (chars name)
