-- What exit statuses other than 0 say.
use Rattle.std.specs.Prelude.{ℕ, List, ◌++◌, codes}
use Rattle.tomex_refusals.specs.declared.statuses.ExitStatus.{ExitStatus}
use Rattle.tomex_refusals.specs.declared.statuses.ExitStatus.TheVariants as those

-- the words by which a status is known
abbrev pub words_of : ExitStatus → List ℕ
words_of those.Input = codes "exit status 1"
words_of those.Line = codes "exit status 2"
words_of those.System = codes "exit status 3"

abbrev pub input : List ℕ
input =
    codes "The study, one of its programs or what was asked of them was refused. Standard\n"
    ++ codes "error has a line that says why: `tomex explain` and its words say more.\n"

abbrev pub line : List ℕ
line =
    codes "The command line was refused, before any file was read: a word is missing or\n"
    ++ (codes "isn't known, or a number is outside its range. Standard error says which, and\n"
    ++ codes "`tomex COMMAND --help` what the command takes.\n")

abbrev pub system : List ℕ
system =
    codes "The system refused a file, memory, a thread or the standard output. Standard\n"
    ++ (codes "error has a line that says which: `cannot read NAME`, `out of memory`, `thread\n"
    ++ codes "refused` or `cannot write`.\n")

-- the advice on each: its meaning, and what to do
abbrev pub advice_of : ExitStatus → List ℕ
advice_of those.Input = input
advice_of those.Line = line
advice_of those.System = system
