-- A text without its comments: each byte of a comment is a space, and newlines stay, so lines and columns do too.
--
-- A comment is from `#` or `//` to the end of the line, or from `/*` to the next `*/` after these two bytes. No comment
-- begins in quotes, which are from `"` or `'` to the next quote of the same kind, or to the end of the line; a quote or
-- a `\` after a `\` in them doesn't count. A `/*` without its `*/` stays.
use Rattle.std.specs.Prelude.{ℕ, List, [], ◌∷◌, drop, Option, Some, None, slice_get, Bool, true, false, nat_eq, not}
use Rattle.std.specs.Prelude.{◌&&◌, ◌||◌, if◌then◌else◌}
use Rattle.tomex_asm_tokens.specs.declared.mode.Mode.{Mode}
use Rattle.tomex_asm_tokens.specs.declared.mode.Mode.TheVariants.{Code, Quoted, Escaped, Line, Open, Block, Close}
use Rattle.tomex_asm_tokens.specs.Characters.{newline, space, hash, star, slash, backslash, is_quote}

-- the byte is there
abbrev pub is_byte : Option ℕ → ℕ → Bool
is_byte None b = false
is_byte (Some c) b = nat_eq c b

-- a `*/` is next
abbrev pub begins_end : List ℕ → Bool
begins_end [] = false
begins_end (c ∷ rest) = nat_eq c star && is_byte (slice_get rest 0) slash

-- a `*/` comes
abbrev pub has_end : List ℕ → Bool
has_end [] = false
has_end (c ∷ rest) = begins_end (c ∷ rest) || has_end rest

-- where the text is after the byte c, if the byte next follows, and then a `*/` if is_closed
abbrev pub mode_after : Mode → ℕ → Option ℕ → Bool → Mode
mode_after Code c next is_closed =
    if nat_eq c hash || nat_eq c slash && is_byte next slash then Line
    else (if nat_eq c slash && is_byte next star && is_closed then Open
    else (if is_quote c then Quoted c
    else Code))
mode_after (Quoted q) c next is_closed =
    if nat_eq c backslash then Escaped q else (if nat_eq c q || nat_eq c newline then Code else Quoted q)
mode_after (Escaped q) c next is_closed = if nat_eq c newline then Code else Quoted q
mode_after Line c next is_closed = if nat_eq c newline then Code else Line
mode_after Open c next is_closed = Block
mode_after Block c next is_closed = if nat_eq c star && is_byte next slash then Close else Block
mode_after Close c next is_closed = Code

abbrev pub is_comment : Mode → Bool
is_comment Code = false
is_comment (Quoted q) = false
is_comment (Escaped q) = false
is_comment _ = true

-- what is left of the byte c between two modes
abbrev pub bare_byte : Mode → Mode → ℕ → ℕ
bare_byte before after c = if not (nat_eq c newline) && (is_comment before || is_comment after) then space else c

abbrev pub bare_from : Mode → List ℕ → List ℕ
bare_from before [] = []
bare_from before (c ∷ rest) =
    let after = mode_after before c (slice_get rest 0) (has_end (drop 1 rest)) in
    bare_byte before after c ∷ bare_from after rest

unfoldable pub bare : List ℕ → List ℕ
bare text = bare_from Code text
