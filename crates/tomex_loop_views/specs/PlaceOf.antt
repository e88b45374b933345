-- What is known of the places of one loop of a run.
use Rattle.std.specs.Prelude.{ℕ, ◌≡◌, List, Option, map}
use Rattle.tomex_symbols.specs.declared.symbol.Symbol.{Symbol}
use Rattle.tomex_symbols.specs.Functions.{function_at}
use Rattle.tomex_loops.specs.declared.visit.Visit.{Visit}
use Rattle.tomex_loop_sums.specs.declared.extents.Extent.{Extent}
use Rattle.tomex_loop_sums.specs.ByLoop.{head_at, heads_around, loops_of}
use Rattle.tomex_loop_sums.specs.Extents.{IsExtent, is_in_visit_of}
use Rattle.tomex_loop_sums.specs.Groups.{with_key}

-- its head, the head's function, the least and the greatest address of its steps, calls not counted, and the head of
-- the loop around each of its visits
pub record IsPlaceOf (symbols : List Symbol) (addresses heads : List ℕ) (visits : List Visit) (here : List (Option ℕ))
    (n head : ℕ) (function : Option Symbol) (extent : Option Extent) (around : List (Option ℕ)) : Type 0 where
  pub head_is : head ≡ head_at addresses heads n
  pub function_is : function ≡ function_at symbols head
  pub extent_is : IsExtent (is_in_visit_of (loops_of visits) (map (λ v. v.within) visits) here n) addresses extent
  pub around_is : around ≡ with_key n (loops_of visits) (heads_around addresses heads visits)
