-- What the table of a run's loops has of each, on a configuration.
use Rattle.std.specs.Prelude.{ℕ, ◌+◌, ◌<◌, ◌≡◌, List, Option, is_none, length, map, sum}
use Rattle.std.specs.Prelude.{IsPermutation, slice_index_or}
use Rattle.tomex_rvexec.specs.declared.step.Step.{Step}
use Rattle.tomex_symbols.specs.Symbols.{symbols_of}
use Rattle.tomex_config.specs.Configuration.{Configuration}
use Rattle.tomex_timing.specs.Search.{history, times_in, total_of}
use Rattle.tomex_run_views.specs.ByPlace.{pc_of}
use Rattle.tomex_path.specs.declared.link.Link.{Link}
use Rattle.tomex_path.specs.Path.{path_of}
use Rattle.tomex_path_views.specs.ByReason.{links_with}
use Rattle.tomex_path_views.specs.Shares.{share_of}
use Rattle.tomex_loops.specs.Runs.{ends_of, heads_of, here_of, innermost_of, rounds_of, visits_of}
use Rattle.tomex_stretches.specs.Accounts.{floors_in, own_in}
use Rattle.tomex_stretches.specs.Cycles.{is_key, sum_where}
use Rattle.tomex_loop_sums.specs.Around.{around_of}
use Rattle.tomex_loop_sums.specs.ByLoop.{keys_of, spans_by}
use Rattle.tomex_loop_views.specs.Charges.{charges_by}
use Rattle.tomex_loop_sums.specs.OfLoop.{IsSpentOf, IsTurnOf}
use Rattle.tomex_loop_views.specs.PathCycles.{sum_for}
use Rattle.tomex_loop_views.specs.PlaceOf.{IsPlaceOf}
use Rattle.tomex_loop_views.specs.Table.{InOrder, Line, RestLine, table_text}

-- the loop of each step's innermost visit
abbrev pub keys_in : List Step → List (Option ℕ)
keys_in steps = keys_of (visits_of steps) (innermost_of steps)

-- a number for each step by which steps are counted
abbrev pub ones : List Step → List ℕ
ones steps = map (λ s. 1) steps

-- the cycles of a step on the floor: a stretch ends where the innermost visit changes
abbrev pub floors_of : Configuration → List Step → List ℕ
floors_of config steps = floors_in config steps (innermost_of steps)

abbrev pub path_in : Configuration → List Step → List Link
path_in config steps = path_of config (history config steps)

-- what the table has of loop n
pub record IsLine (file : List ℕ) (config : Configuration) (steps : List Step) (n : ℕ) (line : Line) : Type 0 where
  pub around : List (Option ℕ)
  pub place : IsPlaceOf (symbols_of file) (map pc_of steps) (heads_of steps) (visits_of steps) (here_of steps) n
      line.sums.head line.sums.function line.sums.extent around
  pub around_is : line.sums.around ≡ around_of around
  pub entered : line.sums.entered ≡ length around
  pub many : ℕ
  pub iterations : line.sums.iterations ≡ line.sums.entered + many
  pub turn : IsTurnOf (map (λ t. t.issue) (times_in config steps)) (visits_of steps) (rounds_of steps) n many
      line.sums.counts line.pattern
  pub spent : IsSpentOf (spans_by (length steps) (visits_of steps) (ends_of steps)) (keys_in steps) (ones steps)
      (own_in config steps) (floors_of config steps) n line.sums.steps line.sums.cycles line.sums.own line.sums.floor
  pub path : line.path ≡ charges_by (λ reason. sum_for reason (is_key n) (keys_in steps) (path_in config steps))

-- of the steps outside of all loops
pub record IsOutside (config : Configuration) (steps : List Step) (rest : RestLine) : Type 0 where
  pub steps_are : rest.sums.steps ≡ sum_where is_none (keys_in steps) (ones steps)
  pub cycles : rest.sums.cycles ≡ sum_where is_none (keys_in steps) (own_in config steps)
  pub floor : rest.sums.floor ≡ sum_where is_none (keys_in steps) (floors_of config steps)
  pub path : rest.path ≡ charges_by (λ reason. sum_for reason is_none (keys_in steps) (path_in config steps))

-- and of all steps
pub record IsTotal (config : Configuration) (steps : List Step) (rest : RestLine) : Type 0 where
  pub steps_are : rest.sums.steps ≡ length steps
  pub cycles : rest.sums.cycles ≡ total_of (times_in config steps)
  pub floor : rest.sums.floor ≡ sum (floors_of config steps)
  pub path : rest.path ≡ charges_by (λ reason. (share_of (links_with reason (path_in config steps))).cycles)

-- a line for each loop, those with the most cycles of their own first
pub record AreLines (file : List ℕ) (config : Configuration) (steps : List Step) (lines : List Line) : Type 0 where
  pub given : List Line
  pub many : length given ≡ length (heads_of steps)
  pub are : (n : ℕ) (d : Line) → n < length given → IsLine file config steps n (slice_index_or given n d)
  pub those : IsPermutation given lines
  pub order : InOrder lines

-- the text is the table of a run's loops on a configuration
pub record IsLoopsReport (config : Configuration) (steps : List Step) (file text : List ℕ) : Type 0 where
  pub lines : List Line
  pub outside : RestLine
  pub total : RestLine
  pub are_lines : AreLines file config steps lines
  pub is_outside : IsOutside config steps outside
  pub is_total : IsTotal config steps total
  pub text_is : text ≡ table_text file lines outside total
