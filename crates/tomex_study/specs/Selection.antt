-- A study with fewer programs.
use Rattle.std.specs.Prelude.{ℕ, ◌||◌, Bool, List}
use Rattle.std.specs.List.{filter}
use Rattle.std.specs.Str.{bytes_eq}
use Rattle.tomex_study.specs.Program.{Workload}
use Rattle.tomex_study.specs.Study.{DesignSpace}

-- the program has one of two names
abbrev pub is_one_of : (one other : List ℕ) → Workload → Bool
is_one_of one other p = bytes_eq p.name one || bytes_eq p.name other

-- the study with only those of its programs that have one of two names
abbrev pub with_only : (one other : List ℕ) → DesignSpace → DesignSpace
with_only one other s = record s { programs = filter (is_one_of one other) s.programs }
