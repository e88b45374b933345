-- The constant pieces of a view.
use Rattle.std.specs.Prelude.{ℕ, List, ◌++◌, codes}

-- the head of the table of instructions
unfoldable pub status_head : List ℕ
status_head =
    codes "<div class=\"w\"><table class=\"s\">\n"
    ++ (codes "<caption>Instruction status</caption>\n"
    ++ (codes "<thead><tr><th scope=\"col\">#</th><th scope=\"col\">Instruction</th><th scope=\"col\">"
    ++ (codes "Station</th><th scope=\"col\">Issue</th><th scope=\"col\">Address</th><th scope=\"col\">"
    ++ (codes "Execute</th><th scope=\"col\">Write result</th><th scope=\"col\">In this cycle</th></tr></thead>"
    ++ (codes "\n"
    ++ codes "<tbody>\n")))))

-- the head of the table of stations
unfoldable pub station_head : List ℕ
station_head =
    codes "<div class=\"w\"><table class=\"t\">\n"
    ++ (codes "<caption>Reservation stations</caption>\n"
    ++ (codes "<thead><tr><th scope=\"col\">Name</th><th scope=\"col\">Busy</th><th scope=\"col\">Op</th><th "
    ++ (codes "scope=\"col\">Vj</th><th scope=\"col\">Vk</th><th scope=\"col\">Qj</th><th scope=\"col\">Qk</th>"
    ++ (codes "<th scope=\"col\">A</th></tr></thead>\n"
    ++ codes "<tbody>\n"))))
