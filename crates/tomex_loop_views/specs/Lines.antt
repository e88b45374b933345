-- The code's own words: the lines of the table, from what is known of each loop by its number.
use Rattle.std.specs.Prelude.{ℕ, ◌+◌, ◌*◌, ◌<◌, ◌≤◌, ◌≡◌, All, List, [], Option, None, is_none, length, map}
use Rattle.std.specs.Prelude.{IsPermutation, slice_index, slice_index_or, sum}
use Rattle.std.specs.List.{range_with_len}
use Rattle.std.specs.Option.{option_map}
use Rattle.tomex_rvexec.specs.declared.step.Step.{Step}
use Rattle.tomex_symbols.specs.Symbols.{symbols_of}
use Rattle.tomex_config.specs.Configuration.{Configuration}
use Rattle.tomex_timing.specs.declared.times.Times.{Times}
use Rattle.tomex_timing.specs.Search.{times_in, total_of}
use Rattle.tomex_run_views.specs.ByPlace.{pc_of}
use Rattle.tomex_path.specs.declared.walk.RunPath.{RunPath}
use Rattle.tomex_path.specs.Within.{IsWithin}
use Rattle.tomex_path_views.specs.ByReason.{links_with}
use Rattle.tomex_path_views.specs.Shares.{share_of}
use Rattle.tomex_loops.specs.Runs.{Known, ends_of, heads_of, here_of, innermost_of, rounds_of, visits_of}
use Rattle.tomex_stretches.specs.Cycles.{is_key, sum_where}
use Rattle.tomex_loop_views.specs.declared.lines.Columns.{Columns}
use Rattle.tomex_loop_views.specs.declared.row.LoopSums.{LoopSums}
use Rattle.tomex_loop_views.specs.declared.row.RestSums.{RestSums}
use Rattle.tomex_loop_sums.specs.Around.{around_of}
use Rattle.tomex_loop_sums.specs.ByLoop.{keys_of, spans_by}
use Rattle.tomex_loop_views.specs.Charges.{charges_by}
use Rattle.tomex_loop_sums.specs.Columns.{AreSpent, AreTurns}
use Rattle.tomex_loop_views.specs.LoopsReport.{path_in}
use Rattle.tomex_loop_views.specs.PathCycles.{sum_for}
use Rattle.tomex_loop_views.specs.PlaceColumns.{ArePlaces}
use Rattle.tomex_loop_views.specs.Table.{InOrder, Line, RestLine, table_text}

-- each list has this many loops
pub record HaveLoops {A : Type 0} (count : ℕ) (c : Columns A) : Type 0 where
  pub heads : length c.places.heads.items ≡ count
  pub functions : length c.places.functions.items ≡ count
  pub extents : length c.places.extents.items ≡ count
  pub around : length c.places.around.items ≡ count
  pub rounds : length c.turns.rounds.items ≡ count
  pub counts : length c.turns.counts.items ≡ count
  pub patterns : length c.turns.patterns.items ≡ count
  pub steps : length c.spent.steps.items ≡ count
  pub cycles : length c.spent.cycles.items ≡ count
  pub own : length c.spent.accounts.own.by_key.items ≡ count
  pub floors : length c.spent.accounts.floor.by_key.items ≡ count
  pub paths : length c.paths.by_loop.items ≡ count

-- the loops around the visits of loop n
abbrev pub around_at : {A : Type 0} → Columns A → ℕ → List (Option ℕ)
around_at c n = slice_index_or (map (λ group. group.items) c.places.around.items) n []

abbrev pub sums_at : {A : Type 0} → Columns A → ℕ → LoopSums
sums_at c n = record {
  head = slice_index c.places.heads.items n;
  extent = slice_index_or c.places.extents.items n None;
  function = slice_index_or c.places.functions.items n None;
  around = around_of (around_at c n);
  entered = length (around_at c n);
  iterations = length (around_at c n) + slice_index c.turns.rounds.items n;
  steps = slice_index c.spent.steps.items n;
  cycles = slice_index c.spent.cycles.items n;
  own = slice_index c.spent.accounts.own.by_key.items n;
  floor = slice_index c.spent.accounts.floor.by_key.items n;
  counts = slice_index_or c.turns.counts.items n None;
}

-- the line of loop n
abbrev pub line_at : {A : Type 0} → Columns A → ℕ → Line
line_at c n = record {
  sums = sums_at c n;
  pattern = option_map (λ counts. counts.items) (slice_index_or c.turns.patterns.items n None);
  path = slice_index_or (map (λ charges. charges.items) c.paths.by_loop.items) n [];
}

abbrev pub lines_to : {A : Type 0} → Columns A → ℕ → List Line
lines_to c count = map (line_at c) (range_with_len 0 count)

-- the sums outside of all loops, given the loop of each step; and of all steps, given their times
abbrev pub outside_sums : {A : Type 0} → Columns A → List (Option ℕ) → RestSums
outside_sums c keys = record {
  steps = sum_where is_none keys (map (λ k. 1) keys);
  cycles = c.spent.accounts.own.without;
  floor = c.spent.accounts.floor.without;
}

abbrev pub total_sums : {A : Type 0} → Columns A → List Times → RestSums
total_sums c times = record {
  steps = length times;
  cycles = total_of times;
  floor = sum c.spent.accounts.floor.by_key.items + c.spent.accounts.floor.without;
}

-- the columns of a run on a configuration, of which these loops are known
pub record AreColumns {A : Type 0} (file : List ℕ) (config : Configuration) (steps : List Step) (k : Known)
    (c : Columns A) : Type 0 where
  pub places : ArePlaces (symbols_of file) (map pc_of steps) k.heads k.visits k.here c.places
  pub turns : AreTurns (map (λ t. t.issue) (times_in config steps)) k.visits k.rounds (length k.heads) c.turns
  pub spent : AreSpent config steps (spans_by (length steps) k.visits k.ends) k.innermost
      (keys_of k.visits k.innermost) (length k.heads) c.spent
  pub paths_count : length c.paths.by_loop.items ≡ length k.heads
  pub paths : (n : ℕ) → n < length k.heads
      → slice_index_or (map (λ charges. charges.items) c.paths.by_loop.items) n []
      ≡ charges_by (λ reason. sum_for reason (is_key n) (keys_of k.visits k.innermost) (path_in config steps))
  pub outside : c.paths.outside.items
      ≡ charges_by (λ reason. sum_for reason is_none (keys_of k.visits k.innermost) (path_in config steps))
  pub total : c.paths.total.items
      ≡ charges_by (λ reason. (share_of (links_with reason (path_in config steps))).cycles)

-- the path of a run on a configuration, with what bounds it
pub record ArePathTimes {A : Type 0} (config : Configuration) (steps : List Step) (p : RunPath A) : Type 0 where
  pub times : p.times.items ≡ times_in config steps
  pub pairs : length p.times.items ≡ length steps
  pub exact : p.links.items ≡ path_in config steps
  pub within : All (IsWithin (length steps) (total_of p.times.items)) p.links.items
  pub few : length p.links.items ≤ length steps
  pub bound : total_of p.times.items ≤ 67 * length steps

-- the loops of a run
pub record AreLoopsOf (steps : List Step) (k : Known) : Type 0 where
  pub heads : k.heads ≡ heads_of steps
  pub visits : k.visits ≡ visits_of steps
  pub ends : k.ends ≡ ends_of steps
  pub innermost : k.innermost ≡ innermost_of steps
  pub here : k.here ≡ here_of steps
  pub rounds : k.rounds ≡ rounds_of steps

-- the text of these lines, in the order of the table
pub record IsTableOf (file : List ℕ) (given : List Line) (outside total : RestLine) (text : List ℕ) : Type 0 where
  pub lines : List Line
  pub those : IsPermutation given lines
  pub order : InOrder lines
  pub text_is : text ≡ table_text file lines outside total
