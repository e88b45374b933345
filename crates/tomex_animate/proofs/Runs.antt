-- The steps of a page are the history of the run.
use Rattle.std.proofs.Common.{◌≡◌, ◌∙◌, ◌<◌, ◌+◌, ℕ, arith, ap, refl, sym, List, [], ◌∷◌, ◌++◌, length, map, reverse}
use Rattle.std.proofs.Common.{Option, Some, None, false, inl, inr, true}
use Rattle.std.specs.Prelude.{◌==◌, ◌&&◌, slice_index}
use Rattle.std.proofs.lemmas.Bool.{and_from, and_parts, cases_Bool, eqb-true, false≢true}
use Rattle.std.proofs.lemmas.List.{length-map, map-append, reverse-append, reverse-reverse}
use Rattle.tomex_rvdec.specs.Places.{place_of_pool}
use Rattle.tomex_rvdec.specs.declared.pool.PoolId.{PoolId}
use Rattle.tomex_rvexec.specs.Steps.{is_in, is_number, step_pool}
use Rattle.tomex_rvexec.specs.declared.step.Step.{Step}
use Rattle.tomex_config.specs.Configuration.{Configuration, stations_of}
use Rattle.tomex_timing.specs.Needs.{waits_in}
use Rattle.tomex_timing.specs.Recurrence.{AreTimed}
use Rattle.tomex_timing.specs.Search.{history, timed_of, times_in}
use Rattle.tomex_timing.specs.Tables.{is_under_way}
use Rattle.tomex_timing.specs.declared.need.Waits.{Waits}
use Rattle.tomex_timing.specs.declared.tables.Tag.{Tag}
use Rattle.tomex_timing.specs.declared.times.Done.{Done}
use Rattle.tomex_timing.proofs.Holders.{number_low}
use Rattle.tomex_timing.proofs.WaitLists.{length-waits_in}
use Rattle.tomex_snapshots.specs.Entries.{done_of, entries_from}
use Rattle.tomex_animate.specs.Laws.{BusyStationsHaveRows, EntriesAreTheHistory}

steps_of : (config : Configuration) (xs : List Step) → map (λ d. d.step) (timed_of config xs) ≡ xs
steps_of config [] = refl
steps_of config (x ∷ xs) = ap (λ (z : List Step). x ∷ z) (steps_of config xs)

map_back : {A B : Type 0} (f : A → B) (xs : List A) → map f (reverse xs) ≡ reverse (map f xs)
map_back f [] = refl
map_back f (x ∷ xs) =
    ap (map f) (reverse-append (x ∷ []) xs)
    ∙ (map-append f (reverse xs) (x ∷ [])
    ∙ (ap (λ z. z ++ (f x ∷ [])) (map_back f xs) ∙ sym (reverse-append (f x ∷ []) (map f xs))))

zipped : (r : List Done) (ws : List Waits) (number from : ℕ) → length ws ≡ length r
    → map done_of (entries_from number from (map (λ d. d.step) r) (map (λ d. d.at) r) ws) ≡ r
zipped [] ws number from pairs = refl
zipped (d ∷ r) [] number from pairs = absurd (omega (arith, pairs))
zipped (d ∷ r) (w ∷ ws) number from pairs =
    ap (λ (z : List Done). d ∷ z) (zipped r ws (number + 1) d.at.issue (omega (arith, pairs)))

pub entries_are_the_history : EntriesAreTheHistory
entries_are_the_history config steps =
    let h : List Done = history config steps in
    let r : List Done = reverse h in
    let those : steps ≡ map (λ d. d.step) r =
    sym (map_back (λ (d : Done). d.step) h ∙ (ap reverse (steps_of config (reverse steps)) ∙ reverse-reverse steps)) in
    let count : length (waits_in config steps) ≡ length r =
    length-waits_in config steps ∙ (ap length those ∙ length-map _ _) in
    ap (λ (xs : List Step). reverse (map done_of (entries_from 1 1 xs (times_in config steps) (waits_in config steps))))
    those
    ∙ (ap reverse (zipped r (waits_in config steps) 1 1 count) ∙ reverse-reverse h)

-- the number of a station that is held
held_number : (config : Configuration) (h : List Done) (d : Done) (tag : Tag) (pool : Option PoolId) (station :
    Option ℕ)
    → AreTimed config (d ∷ h) → step_pool d.step ≡ pool → d.at.station ≡ station
    → (is_in tag.pool pool && is_number station tag.number) ≡ true → tag.number < stations_of config tag.pool
held_number config h d tag None station timed p s is = absurd (cc)
held_number config h d tag (Some q) None timed p s is =
    absurd (false≢true (and_parts (place_of_pool q == place_of_pool tag.pool) false is).1)
held_number config h d tag (Some q) (Some n) timed p s is =
    let both = and_parts (place_of_pool q == place_of_pool tag.pool) (n == tag.number) is in
    let pool : place_of_pool q ≡ place_of_pool tag.pool = eqb-true _ _ both.0 in
    let number : n ≡ tag.number = eqb-true _ _ both.1 in
    let low : n < stations_of config q = number_low config d h q n timed.0 p s in
    let same : stations_of config q ≡ stations_of config tag.pool = ap (slice_index config.stations) pool in
    omega (arith, low, same, number)

pub busy_stations_have_rows : BusyStationsHaveRows
busy_stations_have_rows config [] t tag busy timed is = absurd (cc)
busy_stations_have_rows config (d ∷ h) t tag busy timed is =
    elim (cases_Bool (is_under_way t d && is_in tag.pool (step_pool d.step) && is_number d.at.station tag.number)) [
      | inl here ↦
          let both = and_parts (is_under_way t d && is_in tag.pool (step_pool d.step))
          (is_number d.at.station tag.number) here in
          let pool = (and_parts (is_under_way t d) (is_in tag.pool (step_pool d.step)) both.0).1 in
          held_number config h d tag (step_pool d.step) d.at.station timed refl refl (and_from _ _ pool both.1)
      | inr absent ↦ busy_stations_have_rows config h t tag busy timed.1 (rw absent at is)
    ]
