-- The constant pieces of a page.
use Rattle.std.specs.Prelude.{ℕ, List, ◌++◌, codes}

-- the style of a view
unfoldable pub animate_css : List ℕ
animate_css =
    codes "h2{min-width:11rem}\n"
    ++ (codes "dl,dd{margin:0}\n"
    ++ (codes "dt{font-weight:500}\n"
    ++ (codes ".e{display:grid;grid-template-columns:repeat(5,1fr);grid-column:1/-1;min-height:4.6rem;"
    ++ (codes "border:1px solid var(--line);border-radius:.3rem}\n"
    ++ (codes ".e>div{padding:.35rem .7rem}\n"
    ++ (codes ".e>div+div{border-left:1px solid var(--line)}\n"
    ++ (codes ".q{grid-column:1/-1}\n"
    ++ (codes ".q h3{margin:0 0 .2rem}\n"
    ++ (codes ".r{display:grid;grid-template-columns:repeat(16,1fr)}\n"
    ++ (codes ".r>div{padding:.05rem .35rem;min-height:2.9rem;border-bottom:1px solid var(--line)}\n"
    ++ (codes ".r dt{font-size:.75rem}\n"
    ++ (codes ".f>*,.o>*{color:var(--soft)}\n"
    ++ (codes ".f td:last-child{color:inherit}\n"
    ++ (codes "header>p{flex:1 1 26rem;margin:0 -.4rem}\n"
    ++ (codes "header>p>span{padding:.15rem .4rem}\n"
    ++ (codes ".p{outline:1.5px solid var(--ink);outline-offset:-1px}\n"
    ++ (codes "footer{display:grid;gap:1rem 2.5rem;align-items:start;padding-top:1rem;border-top:1px solid "
    ++ (codes "var(--line)}\n"
    ++ (codes "footer h2{font-size:.95rem}\n"
    ++ (codes ".i{line-height:2}\n"
    ++ (codes "@media print,(min-width:70rem){section,footer{grid-template-columns:auto 1fr}"
    ++ (codes "section{column-gap:1.5rem}\n"
    ++ (codes ".s th:nth-child(2){min-width:10rem}.s th:nth-child(3),.t th:nth-child(3){min-width:3.9rem}.t "
    ++ (codes "th:nth-child(6),.t th:nth-child(7){min-width:3.7rem}\n"
    ++ (codes ".s th:nth-child(6),.t th:nth-child(4),.t th:nth-child(5),.t th:nth-child(8){min-width:4.75rem}"
    ++ (codes ".s th:nth-child(8){min-width:8.2rem}}\n"
    ++ (codes "@media screen and (max-width:48rem){body{padding:.7rem .7rem 2rem}th,td{padding:.15rem .3rem}"
    ++ (codes "tbody td,tbody th{font-size:.75rem}.e{grid-template-columns:1fr;min-height:0}.e>"
    ++ (codes "div{display:flex;flex-wrap:wrap;gap:0 .5rem;min-height:2.1rem}.e>div+div{border-left:0;"
    ++ (codes "border-top:1px solid var(--line)}.e dt{width:6rem}.r{grid-template-columns:repeat(auto-fill,"
    ++ (codes "minmax(4rem,1fr))}}\n"
    ++ (codes "@supports selector(:has(*)){@media screen{section,section :target{scroll-margin-top:100vh}}}\n"
    ++ codes "@media print{footer{break-before:page}}\n"))))))))))))))))))))))))))))))))

-- what the style of a view to be filled in has more: room to write
unfoldable pub blank_css : List ℕ
blank_css =
    codes ".s td,.t td{height:2.2rem;border:1px solid var(--line)}\n"
    ++ codes ".r>div{border-right:1px solid var(--line)}\n"

-- the explanation of a page
unfoldable pub animate_help : List ℕ
animate_help =
    codes "<div><h2>How to read this</h2>\n"
    ++ (codes "<p>Each view is the machine after a cycle. What has changed in the cycle is marked. Follow <i>"
    ++ (codes "next</i> once, then Enter goes on from cycle to cycle; so it does with <i>previous</i>.</p>\n"
    ++ (codes "<p>An instruction issues to a station and stays there to its end. V is the value of an operand, "
    ++ (codes "Q the station that will have it. A is the offset of a load or store, and after its address "
    ++ (codes "cycle its address. Qi is the station whose result a register waits for. A result on a bus goes "
    ++ (codes "to all that wait for its station; a register waits for the youngest instruction issued so far "
    ++ (codes "that writes it.</p>\n"
    ++ (codes "<p>What an instruction waits for is the first that is wanting: before its issue an older branch,"
    ++ (codes " the issue width, a station; before its start an operand, its address, an older access to its "
    ++ (codes "bytes, a unit; at last a bus.</p>\n"
    ++ (codes "<p>Each cycle of the run belongs to one instruction, which works in it: its row has a frame. "
    ++ (codes "These instructions are the critical path, and their cycles add up to the total. Beside the links "
    ++ (codes "stand the cycles that belong to it, after which instruction it could go on, and what it had waited "
    ++ codes "for; (order) is no wait but its turn.</p></div>\n")))))))))))))

-- that of a page to be filled in
unfoldable pub blank_help : List ℕ
blank_help =
    codes "<div><h2>How to read this</h2>\n"
    ++ (codes "<p>Each view is the machine after a cycle, to be filled in. Follow <i>"
    ++ (codes "next</i> once, then Enter goes on from cycle to cycle; so it does with <i>previous</i>.</p>\n"
    ++ (codes "<p>An instruction issues to a station and stays there to its end. V is the value of an operand, "
    ++ (codes "Q the station that will have it. A is the offset of a load or store, and after its address "
    ++ (codes "cycle its address. Qi is the station whose result a register waits for. A result on a bus goes "
    ++ (codes "to all that wait for its station; a register waits for the youngest instruction issued so far "
    ++ (codes "that writes it.</p>\n"
    ++ (codes "<p>What an instruction waits for is the first that is wanting: before its issue an older branch,"
    ++ (codes " the issue width, a station; before its start an operand, its address, an older access to its "
    ++ codes "bytes, a unit; at last a bus.</p></div>\n")))))))))

-- the head of the machine's table
unfoldable pub machine_head : List ℕ
machine_head =
    codes "<table>\n"
    ++ (codes "<caption>The machine</caption>\n"
    ++ (codes "<thead><tr><th scope=\"col\">Part</th><th scope=\"col\">alu</th><th scope=\"col\">mul</th><th "
    ++ (codes "scope=\"col\">div</th><th scope=\"col\">load</th><th scope=\"col\">store</th><th scope=\"col\">"
    ++ (codes "bru</th></tr></thead>\n"
    ++ codes "<tbody>\n"))))
