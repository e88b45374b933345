-- The pieces that pages have in common.
-- Source: the HTML Living Standard, 13.1.4 (character references), 4.9 (tables), 4.6 (links).
use Rattle.std.specs.Prelude.{ℕ, ◌==◌, nat_lt, Bool, true, false, not, ◌&&◌, if◌then◌else◌, List, [], ◌++◌}
use Rattle.std.specs.Prelude.{codes, length, Option, Some, None, option_map}
use Rattle.std.specs.Fmt.{decimal}
use Rattle.std.specs.List.{flat_map}
use Rattle.std.specs.Str.{bytes_eq, chars}
use Rattle.tomex_layout.specs.Names.{shown_char}
use Rattle.tomex_html.specs.Constants.{base_css, frame_css, head_html}
use Rattle.tomex_html.specs.declared.links.Anchor.{Anchor}
use Rattle.tomex_html.specs.declared.links.Anchor.TheVariants.{Next, Previous}
use Rattle.tomex_html.specs.declared.links.Links.{Links}

-- a character of a name: its reference if HTML reads it as markup, and a control character as refusals show it
unfoldable pub html_char : ℕ → List ℕ
html_char c =
    if c == 38 then codes "&amp;"
    else (if c == 60 then codes "&lt;"
    else (if c == 62 then codes "&gt;"
    else (if c == 34 then codes "&quot;"
    else shown_char c)))

-- each character of a name
unfoldable pub html_name : List ℕ → List ℕ
html_name name = flat_map html_char (chars name)

-- the start of a page, from its first byte into its body
unfoldable pub page_start : List ℕ → List ℕ → List ℕ
page_start title style =
    head_html ++ (title ++ (codes "</title>\n<style>\n" ++ (base_css ++ (frame_css ++ (style
    ++ codes "</style>\n</head>\n<body>\n")))))

unfoldable pub page_end : List ℕ
page_end = codes "</body>\n</html>\n"

-- a cell, which is marked if its content is new
abbrev pub cell_start : Bool → List ℕ
cell_start true = codes "<td class=\"n\">"
cell_start false = codes "<td>"

abbrev pub cell : Bool → List ℕ → List ℕ
cell new text = cell_start new ++ (text ++ codes "</td>")

abbrev pub td : List ℕ → List ℕ
td text = cell false text

-- the content has changed, and isn't empty now
abbrev pub is_new : List ℕ → List ℕ → Bool
is_new was now = not (bytes_eq was now) && nat_lt 0 (length now)

abbrev pub changed_cell : List ℕ → List ℕ → List ℕ
changed_cell was now = cell (is_new was now) now

unfoldable pub table_end : List ℕ
table_end = codes "</tbody></table></div>\n"

-- the link *next* of view N is `nN`, its link *previous* `pN`
abbrev pub anchor_text : Anchor → List ℕ
anchor_text (Next view) = codes "n" ++ decimal view
anchor_text (Previous view) = codes "p" ++ decimal view

abbrev pub id_text : Option Anchor → List ℕ
id_text None = []
id_text (Some id) = codes " id=\"" ++ (anchor_text id ++ codes "\"")

-- a link, or its text if it leads nowhere
abbrev pub link_or_text : Option Anchor → Option Anchor → List ℕ → List ℕ
link_or_text id (Some to) text =
    codes "<a" ++ (id_text id ++ (codes " href=\"#" ++ (anchor_text to ++ (codes "\">" ++ (text ++ codes "</a>\n")))))
link_or_text id None text = codes "<span" ++ (id_text id ++ (codes ">" ++ (text ++ codes "</span>\n")))

-- A view's links. *next* leads to the next view's *next*, *previous* to the *previous* of the one before, so that a
-- browser gives the focus to the link that leads further.
unfoldable pub links : Links → List ℕ
links view =
    codes "<nav>\n"
    ++ (link_or_text None (option_map (λ _. Next view.first) view.before) (codes "first")
    ++ (link_or_text (Some (Previous view.here)) (option_map Previous view.before) (codes "previous")
    ++ (link_or_text (Some (Next view.here)) (option_map Next view.after) (codes "next")
    ++ (link_or_text None (option_map (λ _. Previous view.last) view.after) (codes "last")
    ++ codes "</nav>\n"))))
