-- The grammar of the command line: what each command takes.
use Rattle.std.specs.Prelude.{ℕ, [], ◌∷◌, codes, true, false, pos, Some}
use Rattle.clap.specs.Words.{App, Rule, Shape, Text, new_app, new_rule, with_rule}
use Rattle.clap.specs.Simple.{new_shape, on_top}
use Rattle.clap.specs.declared.builder.action.ArgAction.TheVariants.{Append, SetTrue}
use Rattle.clap.specs.declared.builder.value_parser.ValueParser.TheVariants as parsers
use Rattle.tomex_command_line.specs.Limits.{last_cycle, last_from, most_part, most_steps}

-- a word that a command needs, in its place
abbrev pub word_rule : Text → Rule
word_rule name = record (new_rule name) { required = true }

-- words that a command may be given, in their places
abbrev pub words_rule : Text → Rule
words_rule name = record (new_rule name) { action = Some Append }

-- a number that a command needs, in its place
abbrev pub numeral_rule : Text → ℕ → ℕ → Rule
numeral_rule name least greatest =
    record (new_rule name) { required = true; parser = Some (parsers.Signed (pos least) (pos greatest)) }

-- the same of a number that may need more than 32 bits
abbrev pub long_numeral_rule : Text → ℕ → ℕ → Rule
long_numeral_rule name least greatest =
    record (new_rule name) { required = true; parser = Some (parsers.Unsigned least greatest) }

-- an option `--name N`, and the number if it isn't given
abbrev pub option_rule : Text → ℕ → ℕ → Text → Rule
option_rule name least greatest default = record (new_rule name) {
  long = Some name;
  value_names = 1;
  parser = Some (parsers.Signed (pos least) (pos greatest));
  defaults = default ∷ [];
}

-- a flag `--name`
abbrev pub flag_rule : Text → Rule
flag_rule name = record (new_rule name) { long = Some name; action = Some SetTrue }

-- a configuration, which a command needs, in its place: any word for the parser
abbrev pub config_rule : Rule
config_rule = word_rule (codes "CONFIG")

-- a command on an image and its memory: `NAME IMAGE [--base N] [--size N] ..`
abbrev pub image_app : Text → App
image_app name =
    with_rule (with_rule (with_rule (new_app name) (word_rule (codes "IMAGE")))
    (option_rule (codes "base") 0 4294967292 (codes "0"))) (option_rule (codes "size") 4 1048576 (codes "65536"))

-- a command on a study: `NAME STUDY ..`
abbrev pub study_app : Text → App
study_app name = with_rule (new_app name) (word_rule (codes "STUDY"))

-- a command on one run of a study: `NAME STUDY CONFIG PROGRAM ..`
abbrev pub one_run_app : Text → App
one_run_app name =
    with_rule (with_rule (study_app name) config_rule) (word_rule (codes "PROGRAM"))

-- a command on two builds of a program, after its other words: `.. OLD NEW`
abbrev pub with_builds : App → App
with_builds app = with_rule (with_rule app (word_rule (codes "OLD"))) (word_rule (codes "NEW"))

-- a command that explores a study: `NAME STUDY [--workers N]`
abbrev pub exploring_app : Text → App
exploring_app name = with_rule (study_app name) (option_rule (codes "workers") 1 32 (codes "1"))

-- `run IMAGE [--base N] [--size N] [--limit N]`
abbrev pub run_shape : Shape
run_shape = record (new_shape (codes "run")) {
  rules = word_rule (codes "IMAGE")
      ∷ option_rule (codes "base") 0 4294967292 (codes "0")
      ∷ option_rule (codes "size") 4 1048576 (codes "65536")
      ∷ option_rule (codes "limit") 1 most_steps (codes "262144") ∷ [];
}

-- `parts IMAGE STEPS [--base N] [--size N]`
abbrev pub parts_shape : Shape
parts_shape = record (new_shape (codes "parts")) {
  rules = word_rule (codes "IMAGE")
      ∷ option_rule (codes "base") 0 4294967292 (codes "0")
      ∷ option_rule (codes "size") 4 1048576 (codes "65536")
      ∷ numeral_rule (codes "STEPS") 1 most_part ∷ [];
}

-- `cut IMAGE FROM STEPS [--base N] [--size N] [--symbols]`
abbrev pub cut_shape : Shape
cut_shape = record (new_shape (codes "cut")) {
  rules = word_rule (codes "IMAGE")
      ∷ option_rule (codes "base") 0 4294967292 (codes "0")
      ∷ option_rule (codes "size") 4 1048576 (codes "65536")
      ∷ long_numeral_rule (codes "FROM") 1 last_from
      ∷ numeral_rule (codes "STEPS") 1 most_part ∷ flag_rule (codes "symbols") ∷ [];
}

-- `times STUDY CONFIG PROGRAM`
abbrev pub times_shape : Shape
times_shape = record (new_shape (codes "times")) {
  rules = word_rule (codes "STUDY") ∷ config_rule ∷ word_rule (codes "PROGRAM") ∷ [];
}

-- `stalls STUDY CONFIG PROGRAM [--by-pc] [--by-function]`
abbrev pub stalls_shape : Shape
stalls_shape = record (new_shape (codes "stalls")) {
  rules = word_rule (codes "STUDY") ∷ config_rule ∷ word_rule (codes "PROGRAM")
      ∷ flag_rule (codes "by-pc") ∷ flag_rule (codes "by-function") ∷ [];
}

-- `path STUDY CONFIG PROGRAM [--links] [--by-pc] [--by-function]`
abbrev pub path_shape : Shape
path_shape = record (new_shape (codes "path")) {
  rules = word_rule (codes "STUDY") ∷ config_rule ∷ word_rule (codes "PROGRAM")
      ∷ flag_rule (codes "links") ∷ flag_rule (codes "by-pc") ∷ flag_rule (codes "by-function") ∷ [];
}

-- `loops STUDY CONFIG PROGRAM`
abbrev pub loops_shape : Shape
loops_shape = record (new_shape (codes "loops")) {
  rules = word_rule (codes "STUDY") ∷ config_rule ∷ word_rule (codes "PROGRAM") ∷ [];
}

-- `pipeline STUDY CONFIG PROGRAM [--from N] [--steps N] [--konata]`
abbrev pub pipeline_shape : Shape
pipeline_shape = record (new_shape (codes "pipeline")) {
  rules = word_rule (codes "STUDY") ∷ config_rule ∷ word_rule (codes "PROGRAM")
      ∷ option_rule (codes "from") 1 most_steps (codes "1")
      ∷ option_rule (codes "steps") 1 most_steps (codes "32")
      ∷ flag_rule (codes "konata") ∷ [];
}

-- `tables STUDY CONFIG PROGRAM CYCLE`
abbrev pub tables_shape : Shape
tables_shape = record (new_shape (codes "tables")) {
  rules = word_rule (codes "STUDY") ∷ config_rule ∷ word_rule (codes "PROGRAM")
      ∷ numeral_rule (codes "CYCLE") 0 last_cycle ∷ [];
}

-- `animate STUDY CONFIG PROGRAM [--from CYCLE] [--cycles N] [--blank]`
abbrev pub animate_shape : Shape
animate_shape = record (new_shape (codes "animate")) {
  rules = word_rule (codes "STUDY") ∷ config_rule ∷ word_rule (codes "PROGRAM")
      ∷ option_rule (codes "from") 1 last_cycle (codes "1")
      ∷ option_rule (codes "cycles") 1 256 (codes "64")
      ∷ flag_rule (codes "blank") ∷ [];
}

-- `all STUDY`
abbrev pub all_shape : Shape
all_shape = record (new_shape (codes "all")) { rules = word_rule (codes "STUDY") ∷ [] }

-- the same as a shape
abbrev pub exploring_shape : Text → Shape
exploring_shape name = record (new_shape name) {
  rules = word_rule (codes "STUDY") ∷ option_rule (codes "workers") 1 32 (codes "1") ∷ [];
}

abbrev pub explore_shape : Shape
explore_shape = exploring_shape (codes "explore")

-- `front STUDY [--workers N] [--hull]`
abbrev pub front_shape : Shape
front_shape = record (new_shape (codes "front")) {
  rules = word_rule (codes "STUDY") ∷ option_rule (codes "workers") 1 32 (codes "1") ∷ flag_rule (codes "hull") ∷ [];
}

-- `plot STUDY [--workers N] [--rows]`
abbrev pub plot_shape : Shape
plot_shape = record (new_shape (codes "plot")) {
  rules = word_rule (codes "STUDY") ∷ option_rule (codes "workers") 1 32 (codes "1") ∷ flag_rule (codes "rows") ∷ [];
}

abbrev pub rows_shape : Shape
rows_shape = exploring_shape (codes "rows")

-- the flag of a command that prints a table, or the same as CSV
abbrev pub csv_rule : Rule
csv_rule = flag_rule (codes "csv")

-- such a command: `NAME STUDY [--workers N] [--csv]`
abbrev pub table_shape : Text → Shape
table_shape name = record (new_shape name) {
  rules = word_rule (codes "STUDY") ∷ option_rule (codes "workers") 1 32 (codes "1") ∷ csv_rule ∷ [];
}

-- `worth STUDY CONFIG [--workers N] [--csv]`
abbrev pub worth_shape : Shape
worth_shape = record (new_shape (codes "worth")) {
  rules = word_rule (codes "STUDY") ∷ option_rule (codes "workers") 1 32 (codes "1")
      ∷ config_rule ∷ csv_rule ∷ [];
}

abbrev pub choices_shape : Shape
choices_shape = table_shape (codes "choices")

abbrev pub prices_shape : Shape
prices_shape = table_shape (codes "prices")

abbrev pub weights_shape : Shape
weights_shape = table_shape (codes "weights")

-- `compare STUDY OLD NEW [--workers N] [--csv]`
abbrev pub compare_shape : Shape
compare_shape = record (new_shape (codes "compare")) {
  rules = word_rule (codes "STUDY") ∷ option_rule (codes "workers") 1 32 (codes "1")
      ∷ word_rule (codes "OLD") ∷ word_rule (codes "NEW") ∷ csv_rule ∷ [];
}

-- `functions STUDY CONFIG OLD NEW`
abbrev pub functions_shape : Shape
functions_shape = record (new_shape (codes "functions")) {
  rules = word_rule (codes "STUDY") ∷ config_rule
      ∷ word_rule (codes "OLD") ∷ word_rule (codes "NEW") ∷ [];
}

-- `page STUDY [--workers N] [--choices]`
abbrev pub page_shape : Shape
page_shape = record (new_shape (codes "page")) {
  rules = word_rule (codes "STUDY") ∷ option_rule (codes "workers") 1 32 (codes "1")
      ∷ flag_rule (codes "choices") ∷ [];
}

-- `find STUDY [CHOICE]..`
abbrev pub find_shape : Shape
find_shape = record (new_shape (codes "find")) {
  rules = word_rule (codes "STUDY") ∷ words_rule (codes "CHOICE") ∷ [];
}

-- `explain [REFUSAL]..`
abbrev pub explain_shape : Shape
explain_shape = record (new_shape (codes "explain")) { rules = words_rule (codes "REFUSAL") ∷ [] }

-- the program before it has commands
abbrev pub bare_app : App
bare_app = on_top (λ s. record s { has_version = true; subcommand_required = true }) (new_app (codes "tomex"))

-- the program, with a version, and its commands, of which one has to be given
abbrev pub tomex_app : App
tomex_app = record {
  top = record (new_shape (codes "tomex")) { has_version = true; is_leaf = false; subcommand_required = true };
  subs = run_shape ∷ parts_shape ∷ cut_shape ∷ times_shape ∷ pipeline_shape ∷ tables_shape ∷ animate_shape
      ∷ stalls_shape ∷ path_shape ∷ loops_shape ∷ front_shape ∷ plot_shape ∷ rows_shape ∷ find_shape ∷ page_shape
      ∷ worth_shape ∷ choices_shape ∷ prices_shape ∷ weights_shape ∷ compare_shape ∷ functions_shape ∷ explore_shape
      ∷ all_shape ∷ explain_shape ∷ [];
}
