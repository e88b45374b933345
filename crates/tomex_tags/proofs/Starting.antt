-- The operation of a station starts in the station's place.
use Rattle.std.proofs.Common.{ℕ, ◌/◌, ◌%◌, ◌<◌, ◌≡◌, ◌∙◌, arith, ap, false, true, refl, List, Option, Some, None}
use Rattle.std.proofs.Common.{slice_index_or, get_or}
use Rattle.std.specs.Prelude.{IsSome, is_some, option_map}
use Rattle.tomex_tags.specs.declared.wait_sets.WaitSets.{WaitSets}
use Rattle.tomex_tags.specs.declared.station.Station.{Station}
use Rattle.tomex_tags.specs.Contents.{with_start}
use Rattle.tomex_tags.specs.Pools.{AreFilled, slots_of}
use Rattle.tomex_tags.specs.WaitSets.{IsWithMember, KeepsOthers}
use Rattle.tomex_tags.proofs.Entering.{start_entered}
use Rattle.tomex_tags.proofs.Listening.{own_here, same_listens}
use Rattle.tomex_tags.proofs.Slots.{at_place, filled_by, said_same, set_in}

pub starts_filled : {pools : List (List (Option Station))} {busy : ℕ} (x finish value : ℕ)
    {issue_numbers listeners : List ℕ} (d : List (Option Station)) {old wait_sets : WaitSets}
    → AreFilled pools busy issue_numbers old listeners → x < 96 → IsSome (slice_index_or (slots_of pools) x None)
    → IsWithMember x false old.waiting wait_sets.waiting → KeepsOthers old wait_sets
    → AreFilled (set_in pools x d (option_map (with_start finish value)
    (slice_index_or (get_or pools (x / 16) d) (x % 16) None))) busy issue_numbers wait_sets listeners
starts_filled {pools} {busy} x finish value {issue_numbers} {listeners} d {old} {wait_sets} filled l some waits others =
    of (slice_index_or (slots_of pools) x None) refl
  where
    of : (o : Option Station) → slice_index_or (slots_of pools) x None ≡ o
        → AreFilled (set_in pools x d (option_map (with_start finish value)
        (slice_index_or (get_or pools (x / 16) d) (x % 16) None))) busy issue_numbers wait_sets listeners
    of None e = let z : false ≡ true = rw e at some in absurd (cc)
    of (Some s) e =
        let here : slice_index_or (get_or pools (x / 16) d) (x % 16) None ≡ Some s = at_place pools x d filled.six l
        ∙ e in
        rw here (filled_by busy issue_numbers d listeners filled l filled.filled.order_count filled.filled.small
        (said_same busy x (Some (with_start finish value s)) (filled.filled.each x (omega arith) ∙ ap is_some e))
        (start_entered (slots_of pools) x finish value s old wait_sets (omega arith) filled.wait_sets e waits others)
        (own_here (slots_of pools) x s l filled.own e)
        (same_listens (slots_of pools) x s (with_start finish value s) listeners l filled.listening e (λ y k. k)))
