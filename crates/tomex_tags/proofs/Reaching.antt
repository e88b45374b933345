-- The station in a place receives a result: everything stated about the stations still holds.
use Rattle.std.proofs.Common.{ℕ, ◌/◌, ◌%◌, ◌<◌, ◌≡◌, ◌∙◌, arith, true, refl, sym, List, Option, Some, None}
use Rattle.std.proofs.Common.{slice_index_or, get_or}
use Rattle.std.specs.Prelude.{is_some, option_map}
use Rattle.tomex_bus.specs.Sets.{has}
use Rattle.tomex_tags.specs.declared.wait_sets.WaitSets.{WaitSets}
use Rattle.tomex_tags.specs.declared.station.Station.{Station}
use Rattle.tomex_tags.specs.Contents.{hears}
use Rattle.tomex_tags.specs.Pools.{AreFilled, IsOwn, slots_of}
use Rattle.tomex_tags.specs.WaitSets.{IsWithMember, KeepsOthers, waits}
use Rattle.tomex_tags.proofs.Entering.{hear_entered, still_waits}
use Rattle.tomex_tags.proofs.Listening.{Listens, hears_less, none_listens, same_listens}
use Rattle.tomex_tags.proofs.Slots.{at_place, filled_by, said_same, set_in}

-- a station that waits for no operand still waits for none
pub waits_still : (sent : ℕ → Option ℕ) (pools : List (List (Option Station))) (busy x : ℕ)
    (issue_numbers listeners : List ℕ) (d : List (Option Station)) (sets : WaitSets)
    → AreFilled pools busy issue_numbers sets listeners → x < 96
    → has sets.waiting x ≡ true → waits
    (option_map (hears sent) (slice_index_or (get_or pools (x / 16) d) (x % 16) None)) ≡ true
waits_still sent pools busy x issue_numbers listeners d sets filled l member =
    rw (at_place pools x d filled.six l)
    (still_waits sent (slice_index_or (slots_of pools) x None) (sym (filled.wait_sets.waiting x (omega arith))
    ∙ member))

pub heard_filled : (sent : ℕ → Option ℕ) (pools : List (List (Option Station))) (busy x : ℕ)
    (issue_numbers listeners : List ℕ) (d : List (Option Station)) (old wait_sets : WaitSets)
    → AreFilled pools busy issue_numbers old listeners → x < 96
    → IsWithMember x (waits (option_map (hears sent) (slice_index_or (get_or pools (x / 16) d) (x % 16) None)))
    old.waiting wait_sets.waiting → KeepsOthers old wait_sets
    → AreFilled (set_in pools x d (option_map (hears sent) (slice_index_or (get_or pools (x / 16) d) (x % 16) None)))
    busy issue_numbers wait_sets listeners
heard_filled sent pools busy x issue_numbers listeners d old wait_sets filled l waited others =
    let here = at_place pools x d filled.six l in
    rw here (filled_by busy issue_numbers d listeners filled l
    filled.filled.order_count filled.filled.small
    (said_same busy x (option_map (hears sent) (slice_index_or (slots_of pools) x None))
    (filled.filled.each x (omega arith) ∙ busy_still (slice_index_or (slots_of pools) x None)))
    (hear_entered (slots_of pools) x sent (slice_index_or (slots_of pools) x None) old wait_sets (omega arith)
    filled.wait_sets refl (rw here at waited) others)
    (own_still (slice_index_or (slots_of pools) x None) (filled.own x l))
    (listens_still (slice_index_or (slots_of pools) x None) refl))
  where
    busy_still : (o : Option Station) → is_some o ≡ is_some (option_map (hears sent) o)
    busy_still None = refl
    busy_still (Some s) = refl

    own_still : (o : Option Station) → IsOwn x o → IsOwn x (option_map (hears sent) o)
    own_still None own = own
    own_still (Some s) own = own

    listens_still : (o : Option Station) → slice_index_or (slots_of pools) x None ≡ o
        → Listens x (option_map (hears sent) o) listeners listeners
    listens_still None e = none_listens x listeners
    listens_still (Some s) e = same_listens (slots_of pools) x s (hears sent s) listeners l filled.listening e
        (hears_less sent s)
