-- Refusals of studies.
use Rattle.std.specs.Prelude.{ℕ, List, ◌++◌, codes}
use Rattle.tomex_refusals.specs.declared.studies.StudyRefusal.{StudyRefusal}
use Rattle.tomex_refusals.specs.declared.studies.StudyRefusal.TheVariants as those

-- the words that all such refusals have
abbrev pub words_of : StudyRefusal → List ℕ
words_of those.NotToml = codes "study: not TOML"
words_of those.UnknownKey = codes "unknown key"
words_of those.Missing = codes "missing"
words_of those.WrongKind = codes "of wrong kind"
words_of those.OutOfRange = codes "out of range"
words_of those.TooMany = codes "study: too many configurations"
words_of those.NumberOfFiles = codes "study: wrong number of files"

-- their forms, with names in place of the parts that vary
abbrev pub form_of : StudyRefusal → List ℕ
form_of those.UnknownKey = codes "study: PLACE: unknown key"
form_of those.Missing = codes "study: PLACE: KEY missing"
form_of those.WrongKind = codes "study: PLACE: KEY of wrong kind"
form_of those.OutOfRange = codes "study: PLACE: KEY out of range"
form_of other = words_of other

abbrev pub not_toml : List ℕ
not_toml =
    codes "The file can't be read as TOML: a comma, a quote or a bracket is missing, a key\n"
    ++ (codes "or a table is there twice, or it isn't UTF-8 (a letter with an accent as Latin-1\n"
    ++ (codes "is enough, in a comment too). This line says the line and the column:\n"
    ++ (codes "  python3 -c 'import tomllib; tomllib.load(open(\"study.toml\", \"rb\"))'\n"
    ++ (codes "Python refuses a little more: an inline table, `{ .. }`, that goes over several\n"
    ++ codes "lines, and a comma after its last key.\n"))))

abbrev pub unknown_key : List ℕ
unknown_key =
    codes "PLACE has a key that isn't known there. Those that are:\n"
    ++ (codes "  top: program, prices, axes, unit\n"
    ++ (codes "  program N, a table [[program]]: name, file, base, size, limit, watch, weight\n"
    ++ (codes "  prices: alu, mul, div, load, store, bru, bus, width\n"
    ++ (codes "  axes: alu, mul, div, load, store, bru, buses, width\n"
    ++ (codes "  unit: alu, mul, div, mem, bru\n"
    ++ (codes "  unit KIND N, a table [[unit.KIND]]: units, latency, price\n"
    ++ codes "Prices have `bus`, and axes `buses`. Loads and stores share the units `mem`.\n"))))))

abbrev pub missing : List ℕ
missing =
    codes "PLACE needs KEY. A study needs one table [[program]] at least, and each of them\n"
    ++ codes "a `name` and a `file`; all other keys may be left out.\n"

abbrev pub wrong_kind : List ℕ
wrong_kind =
    codes "The value of KEY isn't of the kind that is wanted. The usual causes:\n"
    ++ (codes "  [program] or [unit.mul] for [[program]] or [[unit.mul]], which are lists\n"
    ++ (codes "  axes: a number in place of a list: alu = [4]\n"
    ++ (codes "  units, latency, price: a list; each option has its own table [[unit.KIND]]\n"
    ++ (codes "  a number in quotes, or with a point: 65536, or 0x10000\n"
    ++ codes "  watch: a list of pairs: [[4096, 8]]\n"))))

abbrev pub out_of_range : List ℕ
out_of_range =
    codes "The value of KEY is outside its range:\n"
    ++ (codes "  program: 1 to 8 tables; name: 1 to 32 of a-z 0-9 _ -, unlike the earlier names\n"
    ++ (codes "  base: a multiple of 4; size: a multiple of 4 from 4 to 1048576; base + size at\n"
    ++ (codes "  most 2^32; limit: 1 to 262144; weight: 1 to 1000; file: not empty\n"
    ++ (codes "  watch: 8 pairs inside memory at most, 4096 bytes together\n"
    ++ (codes "  prices and price: 0 to 1000000\n"
    ++ (codes "  axes, lists that aren't empty: stations 1 to 16, buses 1 to 8, width 1 to 4\n"
    ++ codes "  unit: one table or more; units: 1 to 8, of bru 1; latency: 1 to 64\n"))))))

abbrev pub too_many : List ℕ
too_many =
    codes "The product of the lists has more than 16384 configurations. It is the numbers\n"
    ++ (codes "of values of all axes, times the numbers of tables of each kind of unit. Take\n"
    ++ codes "values out of lists, or make several studies.\n")

abbrev pub number_of_files : List ℕ
number_of_files =
    codes "There aren't as many files as the study has programs. No command of this\n"
    ++ codes "program says it: it names each program's file itself.\n"

-- the advice on each: its meaning, the usual causes, and what to do
abbrev pub advice_of : StudyRefusal → List ℕ
advice_of those.NotToml = not_toml
advice_of those.UnknownKey = unknown_key
advice_of those.Missing = missing
advice_of those.WrongKind = wrong_kind
advice_of those.OutOfRange = out_of_range
advice_of those.TooMany = too_many
advice_of those.NumberOfFiles = number_of_files
