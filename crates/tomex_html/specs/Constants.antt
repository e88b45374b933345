-- The constant pieces of all pages.
use Rattle.std.specs.Prelude.{ℕ, List, ◌++◌, codes}

-- the start of every page, up to the text of its title
unfoldable pub head_html : List ℕ
head_html =
    codes "<!DOCTYPE html>\n"
    ++ (codes "<html lang=\"en\">\n"
    ++ (codes "<head>\n"
    ++ (codes "<meta charset=\"utf-8\"/>\n"
    ++ (codes "<meta name=\"viewport\" content=\"width=device-width,initial-scale=1\"/>\n"
    ++ (codes "<meta http-equiv=\"Content-Security-Policy\" content=\"default-src 'none';style-src "
    ++ (codes "'unsafe-inline'\"/>\n"
    ++ codes "<title>"))))))

-- the style of texts, tables and links
unfoldable pub base_css : List ℕ
base_css =
    codes ":root{color-scheme:light dark;--page:#fff;--ink:#1c2126;--soft:#59636e;--line:#d8dee4;"
    ++ (codes "--link:#1f5fa8;--new:#fff0b8;--mark:#a86a00}\n"
    ++ (codes "@media screen and (prefers-color-scheme:dark){:root{--page:#15181c;--ink:#e3e7eb;--soft:#9ba6b1;"
    ++ (codes "--line:#333b43;--link:#82b6f2;--new:#4a3c08;--mark:#e0aa3e}}\n"
    ++ (codes "*{box-sizing:border-box}\n"
    ++ (codes "body{margin:0 auto;padding:1rem 1.5rem 3rem;max-width:80rem;background:var(--page);"
    ++ (codes "color:var(--ink);font:.94rem/1.5 system-ui,-apple-system,\"Segoe UI\",Roboto,\"Helvetica Neue\","
    ++ (codes "Arial,sans-serif}\n"
    ++ (codes "h1{margin:.2rem 0;font-size:1.35rem;font-weight:600;overflow-wrap:anywhere}\n"
    ++ (codes "h2{margin:0;font-size:1.15rem;font-weight:600}\n"
    ++ (codes "h3,caption,dt{font-size:.85rem;font-weight:600;color:var(--soft)}\n"
    ++ (codes "p{margin:.3rem 0;max-width:46rem}\n"
    ++ (codes "a{color:var(--link);text-underline-offset:.15em}\n"
    ++ (codes ":focus-visible{outline:2px solid var(--link);outline-offset:2px}\n"
    ++ (codes "table{border-collapse:collapse;font-variant-numeric:tabular-nums}\n"
    ++ (codes "caption{padding:.2rem 0;text-align:left;white-space:nowrap}\n"
    ++ (codes "th,td{padding:.15rem .4rem;border-bottom:1px solid var(--line);text-align:left;"
    ++ (codes "white-space:nowrap}\n"
    ++ (codes "th{font-weight:500}\n"
    ++ (codes "thead th{font-size:.85rem;color:var(--soft);border-bottom:1px solid var(--soft)}\n"
    ++ (codes ".w{overflow-x:auto}\n"
    ++ codes "summary{cursor:pointer}\n"))))))))))))))))))))

-- the style of views, of which one is shown at a time
unfoldable pub frame_css : List ℕ
frame_css =
    codes "nav{display:flex;flex-wrap:wrap;gap:.4rem .5rem}\n"
    ++ (codes "nav>*{padding:.1rem .7rem;border:1px solid var(--line);border-radius:.3rem;text-decoration:none}"
    ++ (codes "\n"
    ++ (codes "nav>span{color:var(--soft)}\n"
    ++ (codes "nav>a:hover{border-color:var(--link)}\n"
    ++ (codes "section{display:grid;gap:.8rem 2.5rem;margin:.6rem 0 2rem;align-items:start}\n"
    ++ (codes "section>header{display:flex;flex-wrap:wrap;gap:.5rem 2rem;align-items:center;grid-column:1/-1}\n"
    ++ (codes "h2 small{font-weight:400;color:var(--soft)}\n"
    ++ (codes ".n{background:var(--new);box-shadow:inset 0 -2px var(--mark)}\n"
    ++ (codes ".n dt{color:inherit}\n"
    ++ (codes "@media(forced-colors:active){.n{border-bottom:2px solid Highlight}}\n"
    ++ (codes "tbody td,tbody th,dd{font-family:ui-monospace,SFMono-Regular,Menlo,Consolas,\"DejaVu Sans "
    ++ (codes "Mono\",monospace;font-size:.82rem}\n"
    ++ (codes "@supports selector(:has(*)){@media screen{.v>section{display:none}.v>section:target,.v>"
    ++ (codes "section:has(:target),.v:not(:has(:target))>section:first-of-type{display:grid}}}\n"
    ++ (codes "@page{size:landscape;margin:12mm}\n"
    ++ (codes "@media print{:root{font-size:11px}body{padding:0;max-width:none}nav{display:none}section,tr,"
    ++ codes "svg{break-inside:avoid}.n{font-weight:700}}\n"))))))))))))))))
