-- Refusals by commands themselves.
use Rattle.std.specs.Prelude.{ℕ, List, ◌++◌, codes}
use Rattle.tomex_refusals.specs.declared.commands.CommandRefusal.{CommandRefusal}
use Rattle.tomex_refusals.specs.declared.commands.CommandRefusal.TheVariants as those

-- the words that all such refusals have
abbrev pub words_of : CommandRefusal → List ℕ
words_of those.CannotRead = codes "cannot read"
words_of those.NoSuchChoice = codes "no such choice"
words_of those.BadWindow = codes "bad window"
words_of those.TooLong = codes "too long"
words_of those.NoSuchRow = codes "no such row"
words_of those.SeveralRows = codes "several rows"
words_of those.NoSuchProgram = codes "no such program"
words_of those.NoSymbols = codes "no symbols"
words_of those.NoSuchStep = codes "no such step"
words_of those.NoEnd = codes "no end"
words_of those.CodeOverwritten = codes "code overwritten"
words_of those.NoRoom = codes "no room"
words_of those.PictureTooLarge = codes "picture too large"
words_of those.TableTooLarge = codes "table too large"
words_of those.CyclePastEnd = codes "cycle past the end"
words_of those.CannotWrite = codes "cannot write"
words_of those.OnTerminal = codes "output is a terminal"
words_of those.ThreadRefused = codes "thread refused"
words_of those.OutOfMemory = codes "out of memory"
words_of those.NoSuchRefusal = codes "no such refusal"

-- their forms, with names in place of the parts that vary
abbrev pub form_of : CommandRefusal → List ℕ
form_of those.CannotRead = codes "cannot read NAME"
form_of those.NoSuchChoice = codes "no such choice: CHOICE"
form_of those.SeveralRows = codes "several rows: N"
form_of other = words_of other

abbrev pub cannot_read : List ℕ
cannot_read =
    codes "The file NAME can't be read: there is none, it is a folder, it may not be read,\n"
    ++ (codes "or it has more than 256 MiB. Names, those in a study too, are taken from the\n"
    ++ (codes "folder in which tomex is started, and not from the study's: `cd` to the folder\n"
    ++ codes "of the study, or write the names as they are seen from where you are.\n"))

abbrev pub no_such_choice : List ℕ
no_such_choice =
    codes "No configuration of the study has CHOICE. A choice is NAME=NUMBER, as alu=4: a\n"
    ++ (codes "name of a column of `tomex find STUDY` or `tomex explore STUDY`, and a number\n"
    ++ (codes "that some configuration has there, as it is printed. For `tomex find` each\n"
    ++ (codes "choice is a word of its own; in CONFIG commas join them, without spaces. A\n"
    ++ codes "unit's option is two choices: mul_units=1 and mul_latency=3.\n")))

abbrev pub bad_window : List ℕ
bad_window =
    codes "The address of memory, `--base`, or its number of bytes, `--size`, is no\n"
    ++ codes "multiple of 4, or memory would end after address 2^32.\n"

abbrev pub too_long : List ℕ
too_long =
    codes "The program didn't end within its limit of instructions: `--limit`, or `limit`\n"
    ++ (codes "in a study, 262144 if nothing else is said, and no more than that. It has to end\n"
    ++ (codes "by ECALL or EBREAK. Give it less to do, or explore parts of its run: `tomex\n"
    ++ (codes "parts` says which stand for it, and `tomex cut` makes a program of each. If it\n"
    ++ codes "waits for something, it waits for ever.\n")))

abbrev pub no_such_row : List ℕ
no_such_row =
    codes "CONFIG is no configuration of the study. They are numbered from 0: `tomex find\n"
    ++ (codes "STUDY` lists them all, and `tomex front STUDY` those on the front. If CONFIG\n"
    ++ codes "has choices, or `tomex find` says so, no configuration has all of them at once.\n")

abbrev pub several_rows : List ℕ
several_rows =
    codes "The choices that CONFIG names fit N configurations of the study. `tomex find\n"
    ++ (codes "STUDY` lists them, with the same choices as words of their own: add one in\n"
    ++ codes "which they differ, as alu=4,buses=1, or write a configuration's number.\n")

abbrev pub no_such_program : List ℕ
no_such_program =
    codes "PROGRAM is the `name` of one of the study's programs, as written there, and not\n"
    ++ (codes "the name of its file. `tomex compare` and `tomex functions` take two, and the\n"
    ++ codes "study may lack either of them.\n")

abbrev pub no_symbols : List ℕ
no_symbols =
    codes "`--by-function` takes the names of functions from the program's file, which has\n"
    ++ (codes "none: it is a flat file, or an ELF file whose symbols were stripped. Link without\n"
    ++ (codes "`-s`, don't `strip` it, and name the ELF file in the study. `readelf -s FILE`\n"
    ++ codes "lists the symbols (FUNC). `tomex functions` needs those of both its programs.\n"))

abbrev pub no_such_step : List ℕ
no_such_step =
    codes "The program ends before the instruction that `--from`, or FROM of `tomex cut`,\n"
    ++ (codes "names, or has fewer than STEPS of `tomex parts`. `tomex times STUDY CONFIG\n"
    ++ codes "PROGRAM` numbers them, from 1.\n")

abbrev pub no_end : List ℕ
no_end =
    codes "A part of a run, from its step STEPS on, ends if the run ends, or before an\n"
    ++ (codes "instruction in a word of memory that none of its steps has used. After 262,079\n"
    ++ (codes "steps there was none: the program goes on in a loop. Cut it at another step, or\n"
    ++ codes "with fewer steps. `tomex parts` found none for any part: try fewer steps.\n"))

abbrev pub code_overwritten : List ℕ
code_overwritten =
    codes "The program wrote instructions of the part before the part begins. An image runs\n"
    ++ (codes "what its file has, so this part can't be cut: cut it at an earlier step, or a\n"
    ++ codes "part that doesn't run that code.\n")

abbrev pub no_room : List ℕ
no_room =
    codes "The 64 instructions before a part need 61 words of memory in a row, and three\n"
    ++ (codes "near its first instruction, that the part doesn't use. Give the program more\n"
    ++ codes "memory, by `--size`; or cut fewer steps, or at another step.\n")

abbrev pub picture_too_large : List ℕ
picture_too_large =
    codes "The instructions shown, times the cycles from the first one's issue to the last\n"
    ++ (codes "one's end, are more than 16777216. Take fewer, by `--from` and `--steps`, or use\n"
    ++ codes "`--konata`, which has no limit.\n")

abbrev pub table_too_large : List ℕ
table_too_large =
    codes "The rows of the front times the prices that have a column in `tomex prices` are\n"
    ++ (codes "more than 262144. Take a study with fewer configurations, or with fewer options\n"
    ++ codes "of a kind of unit.\n")

abbrev pub cycle_past_end : List ℕ
cycle_past_end =
    codes "CYCLE, of `tomex tables` or of `tomex animate --from`, is greater than the run's\n"
    ++ codes "total, which is in the last line of `tomex times STUDY CONFIG PROGRAM`.\n"

abbrev pub cannot_write : List ℕ
cannot_write =
    codes "The standard output didn't take the whole text: it is closed, its device is\n"
    ++ codes "full, or the program that reads it ended, as `head` does.\n"

abbrev pub on_terminal : List ℕ
on_terminal =
    codes "An image isn't text, and a terminal shows nothing of it. Write it to a file:\n"
    ++ codes "`tomex cut IMAGE FROM STEPS > part.elf`.\n"

abbrev pub thread_refused : List ℕ
thread_refused =
    codes "The system didn't start a thread. Use fewer: `--workers N`. `ulimit -u` and\n"
    ++ codes "`ulimit -v` say what is allowed.\n"

abbrev pub out_of_memory : List ℕ
out_of_memory =
    codes "The system gave no more memory. `ulimit -v` says what is allowed. A study takes\n"
    ++ codes "less with fewer configurations or programs, or with fewer `--workers`.\n"

abbrev pub no_such_refusal : List ℕ
no_such_refusal =
    codes "What `tomex explain` was given has the words of no refusal, and no line of the\n"
    ++ (codes "list has one of them. Without words it lists all refusals. A command line that\n"
    ++ codes "is refused (status 2) says itself why.\n")

-- the advice on each: its meaning, the usual causes, and what to do
abbrev pub advice_of : CommandRefusal → List ℕ
advice_of those.CannotRead = cannot_read
advice_of those.NoSuchChoice = no_such_choice
advice_of those.BadWindow = bad_window
advice_of those.TooLong = too_long
advice_of those.NoSuchRow = no_such_row
advice_of those.SeveralRows = several_rows
advice_of those.NoSuchProgram = no_such_program
advice_of those.NoSymbols = no_symbols
advice_of those.NoSuchStep = no_such_step
advice_of those.NoEnd = no_end
advice_of those.CodeOverwritten = code_overwritten
advice_of those.NoRoom = no_room
advice_of those.PictureTooLarge = picture_too_large
advice_of those.TableTooLarge = table_too_large
advice_of those.CyclePastEnd = cycle_past_end
advice_of those.CannotWrite = cannot_write
advice_of those.OnTerminal = on_terminal
advice_of those.ThreadRefused = thread_refused
advice_of those.OutOfMemory = out_of_memory
advice_of those.NoSuchRefusal = no_such_refusal
