-- The constant pieces of a page.
use Rattle.std.specs.Prelude.{ℕ, List, ◌++◌, codes}

-- the style of a study's report
unfoldable pub page_css : List ℕ
page_css =
    codes ":root{--shade:#edf3fa;--dot:#a9b8c9;--bar:#7ba3d0}\n"
    ++ (codes "@media screen and (prefers-color-scheme:dark){:root{--shade:#1c2733;--dot:#5b6b7c;--bar:#4678ad}"
    ++ (codes "}\n"
    ++ (codes ".c,.l{display:grid;gap:1rem 2.5rem;align-items:start}\n"
    ++ (codes ".w+.w{margin-top:1rem}\n"
    ++ (codes ".c>*,section>*,.l>*{min-width:0}\n"
    ++ (codes ".a td,.a thead th{text-align:right}\n"
    ++ (codes ".a th:first-child{text-align:left}\n"
    ++ (codes ".x td{white-space:normal}\n"
    ++ (codes "svg{max-width:100%;height:auto;fill:var(--ink)}\n"
    ++ (codes "svg rect[fill=\"#ffffff\"]{fill:none}\n"
    ++ (codes "svg path[fill=\"#edf3fa\"]{fill:var(--shade)}\n"
    ++ (codes "svg g[stroke=\"#dddddd\"]{stroke:var(--line)}\n"
    ++ (codes "svg rect[stroke=\"#999999\"]{stroke:var(--soft)}\n"
    ++ (codes "svg path[stroke=\"#1f5fa8\"]{stroke:var(--link)}\n"
    ++ (codes "svg path[stroke=\"#a9b8c9\"]{stroke:var(--dot)}\n"
    ++ (codes "svg g[fill=\"#1f5fa8\"]{fill:var(--link)}\n"
    ++ (codes "svg a{fill:var(--link)}\n"
    ++ (codes "svg circle[fill]{fill:var(--page);stroke:var(--link)}\n"
    ++ (codes "svg a:hover circle,svg a:focus-visible circle{stroke:var(--ink);stroke-width:3}\n"
    ++ (codes "#front tr:not(.h)>td:not(.n){color:var(--soft)}\n"
    ++ (codes "section{padding-top:1rem;border-top:1px solid var(--line)}\n"
    ++ (codes "section :target{scroll-margin-top:3rem}\n"
    ++ (codes "section>p,.l{grid-column:1/-1}\n"
    ++ (codes ".t{width:100%}\n"
    ++ (codes ".t td,.t th{padding-top:0;padding-bottom:0}\n"
    ++ (codes ".t td:last-child{width:45%;padding-right:0}\n"
    ++ (codes ".t th:last-child{text-align:left}\n"
    ++ (codes ".t i,.t b{display:block;height:.75em;background:var(--bar);print-color-adjust:exact;"
    ++ (codes "-webkit-print-color-adjust:exact}\n"
    ++ (codes ".t b{margin-top:-.75em;background:var(--link)}\n"
    ++ (codes ".t th[scope=rowgroup]{padding-top:.6rem;font:inherit;font-size:.85rem;color:var(--soft)}\n"
    ++ (codes "pre{margin:.3rem 0;overflow-x:auto;font-size:.75rem;line-height:1.35}\n"
    ++ (codes "footer{border-top:1px solid var(--line);padding-top:1rem}\n"
    ++ (codes "@media print,(min-width:40rem){.l{grid-template-columns:repeat(auto-fit,minmax(27rem,1fr))}}\n"
    ++ (codes "@media print,(min-width:76rem){.c{grid-template-columns:45rem 1fr}section{grid-template-columns:"
    ++ (codes "auto auto 1fr;column-gap:4rem}}\n"
    ++ (codes "@media screen and (max-width:48rem){body{padding:.7rem .7rem 2rem}th,td{padding:.15rem .3rem}}\n"
    ++ (codes "@media print{section:not(.h){display:none}}\n"
    ++ (codes "@media print{section{break-inside:auto;break-before:page}."
    ++ codes "w,details{break-inside:avoid}}\n")))))))))))))))))))))))))))))))))))))))

-- the explanation of the page
unfoldable pub page_help : List ℕ
page_help =
    codes "<footer><h2>How to read this</h2>\n"
    ++ (codes "<p>A row is a configuration, by its number. It is on the front if no other one costs as much or "
    ++ (codes "less and takes as many cycles or fewer, and is better in one of the two. Dots are rows that "
    ++ (codes "aren't. A row of the front is a step worth taking if no mix of a cheaper and a dearer one beats "
    ++ (codes "it: these are filled points, and have a rate in the table, the cycles that each unit of cost "
    ++ (codes "saves from the one of them before. Hollow points are the others; printed, they have no page of "
    ++ (codes "their own. A point of the picture, or a row's number, leads to the row; there, follow "
    ++ (codes "<i>next</i> once, then Enter goes on.</p>\n"
    ++ (codes "<p>A unit option is written units@latency. Without the choices on no front row the front is the "
    ++ (codes "same. Rate of a part changed: of two rows that are a trade, cycles for each unit of cost. A "
    ++ (codes "price stays within A..B: with any value from A to B, all other prices as stated, the row is on "
    ++ (codes "the front.</p>\n"
    ++ (codes "<p>A cycle in which an instruction waits counts once, for the first thing that is wanting. "
    ++ (codes "Before its issue: an older branch, the issue width, a station. In its station: an operand, its "
    ++ (codes "address, an older access to its bytes, a unit, at last a bus. Drain is the time after the last "
    ++ (codes "issue. Peak is how many of a part were ever in use at once: a part without stalls is large "
    ++ (codes "enough, and any number of it down to its peak costs no cycle.</p>\n"
    ++ (codes "<p>No machine with the row's latencies and width takes fewer cycles than the floor: there, more "
    ++ (codes "of anything but width saves nothing. Else try first the part with the most cycles on the path, "
    ++ (codes "which stand out in its bar: for so long the instructions of the run's critical path had waited "
    ++ (codes "for it. That foretells well what one more of it saves; it is no bound.</p>\n"
    ++ (codes "<p>In charts an instruction issues (I), computes its address (A), is in its unit (E), has its "
    ++ codes "result on a bus (W), waits for a bus (-) or for anything else (=).</p>\n")))))))))))))))))))))

-- that of the choices which the lists lack
unfoldable pub choices_help : List ℕ
choices_help =
    codes "<p>Would join the front: choices that a list lacks, with which some row's machine would be on "
    ++ (codes "it; more units at the price of the most that are there. With all of them the cycles that a cost "
    ++ (codes "buys fall by that percentage at most, first at the cost beside it. From enough on no greater "
    ++ (codes "number changes any program's cycles on any row. Each list is asked alone: what several bring "
    ++ codes "together, the floor alone bounds.</p>\n")))

-- where the numbers are from
unfoldable pub commands_help : List ℕ
commands_help =
    codes "<p>Each number is one that a command of tomex prints: front, worth, prices, choices, stalls, "
    ++ codes "path, pipeline.</p></footer>\n"
