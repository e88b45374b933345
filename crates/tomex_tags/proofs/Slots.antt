-- The places of six pools of 16 stations, one after another.
use Rattle.std.proofs.Common.{ℕ, zero, suc, ◌+◌, ◌*◌, ◌-◌, ◌/◌, ◌%◌, ◌^◌, ◌<◌, ◌≡◌, ◌∙◌, true, arith, refl, ap, sym}
use Rattle.std.proofs.Common.{inl, inr, List, [], ◌∷◌, ◌++◌, Option, None, length, slice_index_or, slice_set, replicate}
use Rattle.std.proofs.Common.{get_or}
use Rattle.std.specs.Prelude.{◌==◌, if◌then◌else◌, is_some, option_map}
use Rattle.std.proofs.lemmas.Bool.{cases_Bool, cases_order, eqb-true, eqb-false}
use Rattle.std.proofs.lemmas.List.{get_or_append_left, get_or-append_right, length-set, get_or-set_same}
use Rattle.std.proofs.lemmas.List.{get_or-set_other, set-append_left, set-append_right}
use Rattle.std.proofs.lemmas.List.Concat.{flat_map-cons}
use Rattle.std.proofs.lemmas.Nat.Bits.{bit_at-zero}
use Rattle.std.proofs.lemmas.List.{get_or-replicate, get_or_past, set-get_or}
use Rattle.tomex_bus.specs.Sets.{has, IsWith, IsWithout}
use Rattle.tomex_tags.specs.declared.wait_sets.WaitSets.{WaitSets}
use Rattle.tomex_tags.specs.declared.station.Station.{Station}
use Rattle.tomex_tags.specs.Pools.{AreFilled, AreSix, AreSixteen, IsOwn, slots_of}
use Rattle.tomex_tags.specs.WaitSets.{HasEntered}
use Rattle.tomex_tags.proofs.Entering.{all_entered, none_stand}
use Rattle.tomex_tags.proofs.Listening.{Listens, listening_set, none_awaits, own_set}

abbrev Pool : Type 0
Pool = List (Option Station)

-- a change of a free place changes nothing
pub set_none : (f : Station → Station) (slots : Pool) (place : ℕ) → slice_index_or slots place None ≡ None
    → slots ≡ slice_set slots place (option_map f (slice_index_or slots place None))
set_none f slots place e = sym (ap (λ (o : Option Station). slice_set slots place (option_map f o)) e
    ∙ (ap (λ (o : Option Station). slice_set slots place o) (sym e) ∙ set-get_or slots place None))

slots_cons : (s : Pool) (ss : List Pool) → slots_of (s ∷ ss) ≡ s ++ slots_of ss
slots_cons s ss = flat_map-cons (λ (x : Pool). x) s ss

slot_get : (pools : List Pool) (p n : ℕ) (d : Pool) → AreSixteen pools → p < length pools → n < 16
    → slice_index_or (slots_of pools) (16 * p + n) None ≡ slice_index_or (get_or pools p d) n None
slot_get [] p n d sizes l small = absurd (omega arith)
slot_get (s ∷ ss) zero n d sizes l small =
    let count : length s ≡ 16 = sizes.0 in
    let place : 16 * 0 + n ≡ n = omega arith in
    rw (slots_cons s ss, place) (get_or_append_left s (slots_of ss) None n (omega arith))
slot_get (s ∷ ss) (suc p) n d sizes l small =
    let place : 16 * suc p + n - 16 ≡ 16 * p + n = omega arith in
    rw (slots_cons s ss) (get_or-append_right s (slots_of ss) 16 (16 * suc p + n) None sizes.0 (omega arith)
    ∙ rw place (slot_get ss p n d sizes.1 (omega arith) small))

slot_set : (pools : List Pool) (p n : ℕ) (d : Pool) (v : Option Station) → AreSixteen pools → p < length pools → n < 16
    → slots_of (slice_set pools p (slice_set (get_or pools p d) n v)) ≡ slice_set (slots_of pools) (16 * p + n) v
slot_set [] p n d v sizes l small = absurd (omega arith)
slot_set (s ∷ ss) zero n d v sizes l small =
    let count : length s ≡ 16 = sizes.0 in
    let place : 16 * 0 + n ≡ n = omega arith in
    rw (slots_cons s ss, place) (slots_cons (slice_set s n v) ss
    ∙ sym (set-append_left s (slots_of ss) n v (omega arith)))
slot_set (s ∷ ss) (suc p) n d v sizes l small =
    let place : 16 * suc p + n - 16 ≡ 16 * p + n = omega arith in
    rw (slots_cons s ss) (slots_cons s (slice_set ss p (slice_set (get_or ss p d) n v))
    ∙ (ap (λ (xs : Pool). s ++ xs) (slot_set ss p n d v sizes.1 (omega arith) small)
    ∙ sym (set-append_right s (slots_of ss) 16 (16 * suc p + n) v sizes.0 (omega arith) ∙ rw place refl)))

sizes_set : (pools : List Pool) (p : ℕ) (s : Pool) → AreSixteen pools → length s ≡ 16 → AreSixteen (slice_set pools p s)
sizes_set [] p s sizes e = sizes
sizes_set (x ∷ xs) zero s sizes e = (e, sizes.1)
sizes_set (x ∷ xs) (suc p) s sizes e = (sizes.0, sizes_set xs p s sizes.1 e)

size_at : (pools : List Pool) (p : ℕ) (d : Pool) → AreSixteen pools → p < length pools → length (get_or pools p d) ≡ 16
size_at [] p d sizes l = absurd (omega arith)
size_at (x ∷ xs) zero d sizes l = sizes.0
size_at (x ∷ xs) (suc p) d sizes l = size_at xs p d sizes.1 (omega arith)

parts : (x : ℕ) → 16 * (x / 16) + x % 16 ≡ x
parts x = omega arith

-- the station in a place
pub at_place : (pools : List Pool) (x : ℕ) (d : Pool) → AreSix pools → x < 96
    → slice_index_or (get_or pools (x / 16) d) (x % 16) None ≡ slice_index_or (slots_of pools) x None
at_place pools x d six l =
    let count : length pools ≡ 6 = six.count in
    sym (ap (λ (y : ℕ). slice_index_or (slots_of pools) y None) (sym (parts x))
    ∙ slot_get pools (x / 16) (x % 16) d six.sizes (omega arith) (omega arith))

abbrev pub set_in : List Pool → ℕ → Pool → Option Station → List Pool
set_in pools x d v = slice_set pools (x / 16) (slice_set (get_or pools (x / 16) d) (x % 16) v)

pub set_place : (pools : List Pool) (x : ℕ) (d : Pool) (v : Option Station) → AreSix pools → x < 96
    → slots_of (set_in pools x d v) ≡ slice_set (slots_of pools) x v
set_place pools x d v six l =
    let count : length pools ≡ 6 = six.count in
    slot_set pools (x / 16) (x % 16) d v six.sizes (omega arith) (omega arith)
    ∙ ap (λ (y : ℕ). slice_set (slots_of pools) y v) (parts x)

-- the station in a place, if there is one, is changed
pub changed_in : (change : Station → Station) (pools : List Pool) (x : ℕ) (d : Pool) → AreSix pools → x < 96
    → slots_of (set_in pools x d (option_map change (slice_index_or (get_or pools (x / 16) d) (x % 16) None)))
    ≡ slice_set (slots_of pools) x (option_map change (slice_index_or (slots_of pools) x None))
changed_in change pools x d six l =
    set_place pools x d (option_map change (slice_index_or (get_or pools (x / 16) d) (x % 16) None)) six l
    ∙ ap (λ (o : Option Station). slice_set (slots_of pools) x (option_map change o)) (at_place pools x d six l)

-- a place is filled, and becomes a member of the busy ones
pub filled_by : {pools : List Pool} {busy : ℕ} (new : ℕ) {issue_numbers : List ℕ} (later : List ℕ) {x : ℕ} (d : Pool)
    {v : Option Station} {old wait_sets : WaitSets} {listeners : List ℕ} (more : List ℕ)
    → AreFilled pools busy issue_numbers old listeners → x < 96 → length later ≡ 128 → new < 2 ^ 128
    → ((y : ℕ) → y < 128 → has new y ≡ (if x == y then is_some v else has busy y)) → HasEntered x v old wait_sets
    → IsOwn x v → Listens x v listeners more → AreFilled (set_in pools x d v) new later wait_sets more
filled_by {pools} new later {x} d {v} {old} {wait_sets} {listeners} more filled l count small said entered own listens =
    let six = filled.six in
    let places : length (slots_of pools) ≡ 96 = filled.filled.places in
    let pool_count : length pools ≡ 6 = six.count in
    record {
      six = record {
        count = length-set pools (x / 16) (slice_set (get_or pools (x / 16) d) (x % 16) v) ∙ six.count;
        sizes = sizes_set pools (x / 16) (slice_set (get_or pools (x / 16) d) (x % 16) v) six.sizes
            (length-set (get_or pools (x / 16) d) (x % 16) v ∙ size_at pools (x / 16) d six.sizes (omega arith));
      };
      own = rw (set_place pools x d v six l) (own_set (slots_of pools) x v (omega arith) filled.own own);
      listening = rw (set_place pools x d v six l)
          (listening_set (slots_of pools) x v listeners more (omega arith) filled.listening listens);
      wait_sets = rw (set_place pools x d v six l)
          (all_entered (slots_of pools) x v old wait_sets (omega arith) filled.wait_sets entered);
      filled = record {
        places = ap length (set_place pools x d v six l) ∙ (length-set (slots_of pools) x v ∙ places);
        order_count = count;
        small = small;
        each = λ y m. said y m ∙ rw (set_place pools x d v six l) (elim (cases_Bool (x == y)) [
          | inl e ↦ let same : x ≡ y = eqb-true x y e in
              rw (e, ← same) (sym (ap is_some (get_or-set_same (slots_of pools) x v None (omega arith))))
          | inr e ↦ rw e (filled.filled.each y m
              ∙ sym (ap is_some (get_or-set_other (slots_of pools) x y v None (λ z. eqb-false x y e (sym z)))))
        ]);
      };
    }

pub said_with : (busy new x : ℕ) (v : Option Station) → is_some v ≡ true → IsWith busy x new → (y : ℕ) → y < 128
    → has new y ≡ (if x == y then is_some v else has busy y)
said_with busy new x v some more y l = elim (cases_Bool (x == y)) [
  | inl e ↦ let same : x ≡ y = eqb-true x y e in rw (e, ← same) (more.same ∙ sym some)
  | inr e ↦ rw e (more.others y (λ z. eqb-false x y e (sym z)))
]

pub said_without : (busy new x : ℕ) → IsWithout busy x new → (y : ℕ) → y < 128
    → has new y ≡ (if x == y then is_some {T = Station} None else has busy y)
said_without busy new x less y l = elim (cases_Bool (x == y)) [
  | inl e ↦ let same : x ≡ y = eqb-true x y e in rw (e, ← same) less.same
  | inr e ↦ rw e (less.others y l (λ z. eqb-false x y e (sym z)))
]

pub said_same : (busy x : ℕ) (v : Option Station) → has busy x ≡ is_some v → (y : ℕ) → y < 128
    → has busy y ≡ (if x == y then is_some v else has busy y)
said_same busy x v same y l = elim (cases_Bool (x == y)) [
  | inl e ↦ let f : x ≡ y = eqb-true x y e in rw (e, ← f) same
  | inr e ↦ rw e refl
]

-- six pools without busy stations
abbrev pub idle_pools : List Pool
idle_pools = replicate 6 (replicate 16 None)

no_station : (x : ℕ) → x < 128 → slice_index_or (slots_of idle_pools) x None ≡ None
no_station x l = elim (cases_order x 96) [
  | inl e ↦ rw e refl
  | inr (inl less) ↦ get_or-replicate 96 x None None less
  | inr (inr more) ↦ get_or_past (slots_of idle_pools) x None (omega arith)
]

pub idle_filled : {a b c d e f : Pool} (issue_numbers : List ℕ) {listeners : List ℕ} → a ≡ replicate 16 None
    → b ≡ replicate 16 None → c ≡ replicate 16 None → d ≡ replicate 16 None → e ≡ replicate 16 None
    → f ≡ replicate 16 None → length issue_numbers ≡ 128 → listeners ≡ replicate 96 0
    → AreFilled (a ∷ b ∷ c ∷ d ∷ e ∷ f ∷ []) 0 issue_numbers (record { lacking = 0; waiting = 0; writing = 0 })
    listeners
idle_filled issue_numbers ea eb ec ed ee ef count none = rw (ea, eb, ec, ed, ee, ef, none)
    (record {
      six = record { count = refl; sizes = (refl, (refl, (refl, (refl, (refl, (refl, tt)))))) };
      own = λ x l. rw (no_station x (omega arith)) tt;
      listening = none_awaits (slots_of idle_pools) no_station;
      wait_sets = none_stand (slots_of idle_pools) no_station;
      filled = record {
        places = refl;
        order_count = count;
        small = omega arith;
        each = λ x l. ap (λ b. b == 1) (bit_at-zero x) ∙ sym (ap is_some (no_station x l));
      };
    })
