-- What is known of the steps that have issued by a cycle is known of the older ones, and by later cycles.
use Rattle.tomex_timing.proofs.Holders.{number_low, stations_apart}
use Rattle.tomex_cycle.proofs.Words.{Loaded, Configuration, Done, AreIssuedBy, IsUpTo, nat_lt, nat_le, ◌&&◌, ◌==◌, not}
use Rattle.tomex_cycle.proofs.Words.{MatchOption, ⊤, list_all, cases_Bool, nat_tests, ltb-true, and_parts, eqb-true}
use Rattle.tomex_cycle.proofs.Words.{eq-eqb, and_right, IsWithinLimits, stations_of, PoolId, place_of_pool, is_in}
use Rattle.tomex_cycle.proofs.Words.{is_number, step_pool, IsLeast, is_free, is_held, tag_at, stations_high, Clocks}
use Rattle.tomex_cycle.proofs.Words.{holds_place, place_of, station_at, station_of, place_at, IsTimed, is_some, Pools}
use Rattle.tomex_cycle.proofs.Words.{ShowsStations, issue_number_at, slice_index, slot, ℕ, ◌≤◌, arith, List, [], ◌∷◌}
use Rattle.tomex_cycle.proofs.Words.{◌++◌, ◌+◌, ◌*◌, ◌<◌, ◌≡◌, ◌∙◌, Bool, true, false, refl, Option, Some, None, sym}
use Rattle.tomex_cycle.proofs.Words.{inl, inr, ap, length, Station, get_or_past, ltb-false, ◌⊎◌}
use Rattle.tomex_cycle.proofs.Truth.{some_not_none}

pub older_up_to : {i : Loaded} {config : Configuration} {t : ℕ} {d : Done} {older : List Done}
    → IsUpTo i config t (d ∷ older) → IsUpTo i config t older
older_up_to up = record { lawful = up.lawful; timed = up.timed.1; past = up.past.2; issued = up.issued.1 }

pub part_up_to : {i : Loaded} {config : Configuration} {t : ℕ} (newer : List Done) {h : List Done}
    → IsUpTo i config t (newer ++ h) → IsUpTo i config t h
part_up_to [] up = up
part_up_to (d ∷ newer) up = part_up_to newer (older_up_to up)

pub issued_more : (t u : ℕ) (h : List Done) → t ≤ u → AreIssuedBy t h → AreIssuedBy u h
issued_more t u [] l issued = tt
issued_more t u (d ∷ older) l issued =
    ((let k : d.at.issue ≤ t = issued.0 in omega arith), issued_more t u older l issued.1)

pub later_up_to : {i : Loaded} {config : Configuration} {t : ℕ} (u : ℕ) {h : List Done} → t ≤ u → IsUpTo i config t h
    → IsUpTo i config u h
later_up_to {t} u {h} l up =
    record { lawful = up.lawful; timed = up.timed; past = up.past; issued = issued_more t u h l up.issued }

-- A place is held by one step at a time, and the order of the busy places is that of the history.

-- a step's place, taken apart
pub record IsPlace (pool : Option PoolId) (station : Option ℕ) (x : ℕ) : Type 0 where
  pub p : PoolId
  pub n : ℕ
  pub pool_is : pool ≡ Some p
  pub station_is : station ≡ Some n
  pub sum : 16 * place_of_pool p + n ≡ x

place_parts : (pool : Option PoolId) (station : Option ℕ) (x : ℕ) → is_number (place_at (tag_at pool station)) x ≡ true
    → IsPlace pool station x
place_parts None station x e = absurd (cc)
place_parts (Some p) None x e = absurd (cc)
place_parts (Some p) (Some n) x e = record { p = p; n = n; pool_is = refl; station_is = refl; sum = eqb-true _ _ e }

-- station numbers are below 16
abbrev pub IsLow : Done → Type 0
IsLow d = (n : ℕ) → d.at.station ≡ Some n → n < 16

abbrev pub AreLow : List Done → Type 0
AreLow [] = ⊤
AreLow (d ∷ older) = IsLow d × AreLow older

station_low : {config : Configuration} (d : Done) {older : List Done} → IsWithinLimits config
    → IsTimed config older d.step d.at → IsLow d
station_low {config} d {older} good timed n e = of (step_pool d.step) refl timed.station
  where
    of : (o : Option PoolId) → step_pool d.step ≡ o → MatchOption o (d.at.station ≡ None)
        (λ p. (m : ℕ) × (d.at.station ≡ Some m) × IsLeast (is_free p older d.at.issue) m) → n < 16
    of None f is = let none : d.at.station ≡ None = is in absurd (cc)
    of (Some p) f is =
        let l : n < stations_of config p = number_low config d older p n timed f e in
        let most : stations_of config p ≤ 16 = stations_high config p good in
        omega arith

pub low : {i : Loaded} {config : Configuration} {t : ℕ} (h : List Done) → IsUpTo i config t h → AreLow h
low [] up = tt
low (d ∷ older) up = (station_low d up.lawful up.timed.0, low older (older_up_to up))

-- a place is one of the stations, or empty
pub place_or_none : (slots : List (Option Station)) (x : ℕ) → length slots ≡ 96 → (x < 96) ⊎ (slot slots x ≡ None)
place_or_none slots x count = elim (cases_Bool (nat_lt x 96)) [
  | inl k ↦ inl (ltb-true x 96 k)
  | inr k ↦ let high : 96 ≤ x = ltb-false x 96 k in inr (get_or_past slots x None (omega arith))
]

pub place_low : (pool : Option PoolId) (station : Option ℕ) (x : ℕ) → ((n : ℕ) → station ≡ Some n → n < 16)
    → place_at (tag_at pool station) ≡ Some x → x < 96
place_low pool station x h3 h4 = grind (arith, nat_tests)

-- nobody holds the place after the cycle
abbrev pub is_vacant : ℕ → ℕ → List Done → Bool
is_vacant end x h = list_all (λ e. not (holds_place end x e)) h

same_tag : (p q : PoolId) (m n : ℕ) → m < 16 → n < 16
    → (16 * place_of_pool q + n == 16 * place_of_pool p + m) ≡ ((place_of_pool q == place_of_pool p) && (n == m))
same_tag p q m n a b = grind (arith, nat_tests)

pub same_place : (p : PoolId) (m : ℕ) (pool : Option PoolId) (station : Option ℕ) → m < 16
    → ((n : ℕ) → station ≡ Some n → n < 16) → is_number (place_at (tag_at pool station)) (16 * place_of_pool p + m)
    ≡ (is_in p pool && is_number station m)
same_place p m None station a b = refl
same_place p m (Some q) None a b = sym (and_right (place_of_pool q == place_of_pool p) false refl)
same_place p m (Some q) (Some n) a b = same_tag p q m n a (b n refl)

-- a number of a pool is held as its place is
pub holds_is : (p : PoolId) (t u n : ℕ) (d : Done) → u ≡ t + 1 → n < 16 → IsLow d
    → (is_held p u d && is_number d.at.station n) ≡ holds_place t (16 * place_of_pool p + n) d
holds_is p t u n d e l low = rw (same_place p n (step_pool d.step) d.at.station l low, still t u d.at.end e)
    (swap_and (is_in p (step_pool d.step)) (nat_lt t d.at.end) (is_number d.at.station n))
  where
    still : (t u end : ℕ) → u ≡ t + 1 → nat_le u end ≡ nat_lt t end
    still t u end e = grind (arith, nat_tests)

    swap_and : (a b c : Bool) → ((a && b) && c) ≡ ((a && c) && b)
    swap_and a b c = grind (arith, nat_tests)

vacant_all : (p : PoolId) (n end : ℕ) (h : List Done) → AreLow h → n < 16
    → is_free p h (end + 1) n ≡ is_vacant end (16 * place_of_pool p + n) h
vacant_all p n end [] few small = refl
vacant_all p n end (e ∷ h) few small =
    rw (holds_is p end (end + 1) n e refl small few.0, vacant_all p n end h few.1 small) refl

-- a step's place is vacant of older ones as long as it is the step's
pub vacant : {i : Loaded} {config : Configuration} {s : ℕ} (d : Done) (older : List Done) (end x : ℕ)
    → IsUpTo i config s (d ∷ older) → s ≤ end + 1 → is_number (place_of d) x ≡ true → is_vacant end x older ≡ true
vacant {config = config} {s} d older end x up l e =
    let issued : d.at.issue ≤ s = up.issued.0 in
    let at : IsPlace (step_pool d.step) d.at.station x = place_parts (step_pool d.step) d.at.station x e in
    let all = low (d ∷ older) up in
    let free =
    stations_apart config d older at.p at.n (end + 1) up.timed.0 at.pool_is at.station_is (omega arith) in
    rw at.sum at (sym (vacant_all at.p at.n end older all.1 (all.0 at.n at.station_is)) ∙ free)

pub vacant_none : (i : Loaded) (c : Clocks) (h : List Done) (x : ℕ) → is_vacant c.end x h ≡ true
    → station_at i c h x ≡ None
vacant_none i c [] x e = refl
vacant_none i c (d ∷ older) x e = elim (cases_Bool (holds_place c.end x d)) [
  | inl h ↦
      let two = and_parts (not (holds_place c.end x d)) (is_vacant c.end x older) e in
      absurd (cc)
  | inr h ↦ rw h (vacant_none i c older x (and_parts (not (holds_place c.end x d)) (is_vacant c.end x older) e).1)
]

pub holds_here : (i : Loaded) (c : Clocks) (d : Done) (older : List Done) (x : ℕ) → holds_place c.end x d ≡ true
    → station_at i c (d ∷ older) x ≡ Some (station_of i c d older)
holds_here i c d older x e = rw e refl

-- the station of a step that holds a place is there, whatever is younger
pub station_here : {i : Loaded} {config : Configuration} {s : ℕ} (c : Clocks) (newer : List Done) (d : Done)
    (older : List Done) (x : ℕ) → IsUpTo i config s (newer ++ (d ∷ older)) → s ≤ c.end + 1
    → holds_place c.end x d ≡ true → station_at i c (newer ++ (d ∷ older)) x ≡ Some (station_of i c d older)
station_here {i} c [] d older x up l e = holds_here i c d older x e
station_here {i} c (n ∷ newer) d older x up l e = elim (cases_Bool (holds_place c.end x n)) [
  | inr h ↦ rw h (station_here c newer d older x (older_up_to up) l e)
  | inl h ↦
      let two = and_parts (is_number (place_of n) x) (nat_lt c.end n.at.end) h in
      let free = vacant n (newer ++ (d ∷ older)) c.end x up l two.0 in
      let z : station_at i c (newer ++ (d ∷ older)) x ≡ None = vacant_none i c (newer ++ (d ∷ older)) x free in
      let f = station_here c newer d older x (older_up_to up) l e in
      absurd (some_not_none (station_of i c d older) (sym f ∙ z))
]

pub number_is_some : (o : Option ℕ) (x : ℕ) → is_number o x ≡ true → o ≡ Some x
number_is_some o x e = grind (arith, nat_tests)

pub held_place : (t x : ℕ) (d : Done) → holds_place t x d ≡ true → place_of d ≡ Some x
held_place t x d e = number_is_some (place_of d) x (and_parts (is_number (place_of d) x) (nat_lt t d.at.end) e).0

-- a step that ends after its issue has a place
pub place_there : {config : Configuration} (d : Done) {older : List Done} → IsTimed config older d.step d.at
    → d.at.issue < d.at.end → is_some (place_of d) ≡ true
place_there {config} d {older} timed l = grind (arith, nat_tests)

-- What the stations show of a part of a history: each busy step of it is in the place that it holds.

-- no place that a step holds is vacant
pub not_vacant : (t x : ℕ) (newer : List Done) (w : Done) (older : List Done) → holds_place t x w ≡ true
    → is_vacant t x (newer ++ (w ∷ older)) ≡ true → ⊥
not_vacant t x [] w older held free = cc
not_vacant t x (n ∷ newer) w older held free = not_vacant t x newer w older held
    (and_parts (not (holds_place t x n)) (is_vacant t x (newer ++ (w ∷ older))) free).1

-- the issue number of a busy step's place is the number of its elders
number_here : {i : Loaded} {config : Configuration} {s : ℕ} (end x : ℕ) (newer : List Done) (d : Done)
    (older : List Done) → IsUpTo i config s (newer ++ (d ∷ older)) → s ≤ end + 1 → holds_place end x d ≡ true
    → issue_number_at (newer ++ (d ∷ older)) x ≡ length older
number_here end x [] d older up l held = rw (and_parts (is_number (place_of d) x) (nat_lt end d.at.end) held).0 refl
number_here end x (n ∷ newer) d older up l held = elim (cases_Bool (is_number (place_of n) x)) [
  | inr e ↦ rw e (number_here end x newer d older (older_up_to up) l held)
  | inl e ↦ absurd (not_vacant end x newer d older held (vacant n (newer ++ (d ∷ older)) end x up l e))
]

pub record IsHeld (i : Loaded) (c : Clocks) (st : Pools) (d : Done) (older : List Done) (x : ℕ) : Type 0 where
  pub small : x < 96
  pub slot : slot st.slots x ≡ Some (station_of i c d older)
  pub number : slice_index st.issue_numbers x ≡ length older

-- each busy step of the part is so held
pub record ShowsPart (i : Loaded) (c : Clocks) (st : Pools) (part : List Done) : Type 0 where
  pub each : (newer : List Done) (d : Done) (older : List Done) → part ≡ newer ++ (d ∷ older) → (x : ℕ)
      → holds_place c.end x d ≡ true → IsHeld i c st d older x

pub older_shown : {i : Loaded} {c : Clocks} {st : Pools} {d : Done} {older : List Done} → ShowsPart i c st (d ∷ older)
    → ShowsPart i c st older
older_shown {d = d} shown =
    record { each = λ newer e rest same. shown.each (d ∷ newer) e rest (ap (λ xs. d ∷ xs) same) }

pub held_here : {i : Loaded} {c : Clocks} {st : Pools} {d : Done} {older : List Done} → ShowsPart i c st (d ∷ older)
    → (x : ℕ) → holds_place c.end x d ≡ true → IsHeld i c st d older x
held_here {d = d} {older} shown x held = shown.each [] d older refl x held

pub shows_part : {i : Loaded} {config : Configuration} {c : Clocks} {s : ℕ} {st : Pools} {h : List Done}
    → IsUpTo i config s h → s ≤ c.end + 1 → ShowsStations i c h st → ShowsPart i c st h
shows_part {c = c} up l shown = record {
  each = λ newer d older same x held.
      let here = rw same at up in
      let few = (low (d ∷ older) (part_up_to newer here)).0 in
      let small : x < 96 = place_low (step_pool d.step) d.at.station x few (held_place c.end x d held) in
      record {
        small = small;
        slot = shown.slots x small ∙ rw same (station_here c newer d older x here l held);
        number = shown.issue_numbers x small ∙ rw same (number_here c.end x newer d older here l held);
      };
}

-- the place of a busy step
pub busy_by : {config : Configuration} (t : ℕ) (d : Done) {older : List Done} → IsTimed config older d.step d.at
    → d.at.issue < d.at.end → nat_lt t d.at.end ≡ true
    → (x : ℕ) × (place_of d ≡ Some x) × (holds_place t x d ≡ true)
busy_by t d timed later l = of (place_of d) refl
  where
    of : (o : Option ℕ) → place_of d ≡ o → (x : ℕ) × (place_of d ≡ Some x) × (holds_place t x d ≡ true)
    of None e = let z : true ≡ false = sym (place_there d timed later) ∙ ap is_some e in absurd (cc)
    of (Some x) e = (x, e, rw (e, l, eq-eqb x x refl) refl)

pub busy_at : {i : Loaded} {config : Configuration} {t : ℕ} (d : Done) {older : List Done}
    → IsUpTo i config t (d ∷ older) → nat_lt t d.at.end ≡ true
    → (x : ℕ) × (place_of d ≡ Some x) × (holds_place t x d ≡ true)
busy_at {t = t} d up l =
    let late : t < d.at.end = ltb-true t d.at.end l in
    let issued : d.at.issue ≤ t = up.issued.0 in
    busy_by t d up.timed.0 (omega arith) l
