-- The calls of a wheel, on its ring of sets.
use Rattle.std.proofs.Common.{ℕ, ◌+◌, ◌-◌, ◌/◌, ◌%◌, ◌^◌, true, false, ◌≡◌, ◌≤◌, ◌<◌, ◌∙◌, arith, inl, inr, ap}
use Rattle.std.proofs.Common.{refl, sym, List, take, drop, replicate, length, slice_index, slice_set, subst}
use Rattle.std.specs.Prelude.{◌==◌, ◌≢◌, nat_lt, if◌then◌else◌, Some}
use Rattle.std.proofs.Math.Bool.{or-false, or-true}
use Rattle.std.proofs.lemmas.Bool.{lt-ltb, le-ltb, cases_Bool, both_ways, ltb-true, ltb-false, eqb-true, eqb-false}
use Rattle.std.proofs.lemmas.List.{get_or_append_left, get_or-append_right, get_or-drop, get_or-take, get_or-set_same}
use Rattle.std.proofs.lemmas.List.{get_or-set_other, get_or-replicate, length-drop, length-set}
use Rattle.std.proofs.lemmas.Nat.Bits.{bit_at_above}
use Rattle.tomex_bus.specs.Sets.{has, IsWith, IsWithout}
use Rattle.tomex_bus.specs.Wheel.{is_due, ring_from, IsRing, IsEmpty, IsClearTo, IsNext, HasPassed, HasPut, HasGiven}
use Rattle.tomex_bus.specs.Wheel.{AreDue}
use Rattle.tomex_bus.proofs.Bits.{none_in, has_none, shifted}

pub fresh_ring : (sets : List ℕ) → sets ≡ replicate 64 0 → IsRing sets 0 0
fresh_ring sets e = record {
  count = rw e refl;
  inside = omega arith;
  low = λ i l h. absurd (both_ways (has 0 i) (none_in i) h);
  some = λ i l h. absurd (both_ways (has 0 i) (none_in i) h);
  none = λ i l h x. rw (e, get_or-replicate {A = ℕ} 64 i 0 0 l) (none_in x);
}

-- the set of a cycle ahead is that many places after the head, around the ring
ring_at : (sets : List ℕ) (head ahead i : ℕ) → length sets ≡ 64 → head < 64 → ahead < 64 → i ≡ (head + ahead) % 64
    → slice_index (ring_from sets head) ahead ≡ slice_index sets i
unfolding ring_from
ring_at sets head ahead i count inside l e =
    let behind : length (drop head sets) ≡ 64 - head = length-drop head sets ∙ ap (λ n. n - head) count in
    elim (cases_Bool (nat_lt (head + ahead) 64)) [
      | inl k ↦
          let near : head + ahead < 64 = ltb-true _ _ k in
          let same : head + ahead ≡ i = omega arith in
          get_or_append_left (drop head sets) (take head sets) 0 ahead (omega arith)
          ∙ (get_or-drop head sets ahead 0 ∙ ap (slice_index sets) same)
      | inr k ↦
          let far : 64 ≤ head + ahead = ltb-false _ _ k in
          let same : ahead - (64 - head) ≡ i = omega arith in
          get_or-append_right (drop head sets) (take head sets) (64 - head) ahead 0 behind (omega arith)
          ∙ (get_or-take head sets (ahead - (64 - head)) 0 (omega arith) ∙ ap (slice_index sets) same)
    ]

-- the cycle ahead of a place of the ring
due_at : (sets : List ℕ) (filled head ahead i x : ℕ) → IsRing sets filled head → ahead < 64 → i ≡ (head + ahead) % 64
    → is_due (ring_from sets head) ahead x ≡ has (slice_index sets i) x
due_at sets filled head ahead i x ring l e =
    rw (lt-ltb ahead 64 l) (ap (λ (s : ℕ). has s x) (ring_at sets head ahead i ring.count ring.inside l e))

due_past : (pairs : List ℕ) (ahead x : ℕ) → 64 ≤ ahead → is_due pairs ahead x ≡ false
due_past pairs ahead x far = rw (le-ltb ahead 64 far) refl

pub fresh_empty : (sets : List ℕ) → sets ≡ replicate 64 0 → IsEmpty (ring_from sets 0)
fresh_empty sets e ahead number =
    let ring = fresh_ring sets e in
    elim (cases_Bool (nat_lt ahead 64)) [
      | inr l ↦ due_past (ring_from sets 0) ahead number (ltb-false _ _ l)
      | inl l ↦
          let low : ahead < 64 = ltb-true _ _ l in
          due_at sets 0 0 ahead ahead number ring low (omega arith)
          ∙ rw (e, get_or-replicate {A = ℕ} 64 ahead 0 0 low) (none_in number)
    ]

passed : (sets : List ℕ) (filled old head cycles : ℕ) → IsRing sets filled old → head ≡ (old + cycles % 64) % 64
    → IsClearTo (ring_from sets old) cycles → HasPassed cycles (ring_from sets old) (ring_from sets head)
passed sets filled old head cycles ring e clear a x =
    let inside : old < 64 = ring.inside in
    let after : IsRing sets filled head =
    record { count = ring.count; inside = omega arith; low = ring.low; some = ring.some; none = ring.none } in
    elim (cases_Bool (nat_lt a 64)) [
      | inr l ↦ let high : 64 ≤ a = ltb-false _ _ l in
          due_past (ring_from sets head) a x high ∙ sym (due_past (ring_from sets old) (a + cycles) x (omega arith))
      | inl l ↦
          let low : a < 64 = ltb-true _ _ l in
          let new : is_due (ring_from sets head) a x ≡ has (slice_index sets ((head + a) % 64)) x =
          due_at sets filled head a ((head + a) % 64) x after low refl in
          let b : (a + cycles) % 64 < 64 = omega arith in
          let was : is_due (ring_from sets old) ((a + cycles) % 64) x ≡ has (slice_index sets ((head + a) % 64)) x =
          due_at sets filled old ((a + cycles) % 64) ((head + a) % 64) x ring b (omega arith) in
          elim (cases_Bool (nat_lt (a + cycles) 64)) [
            | inl m ↦
                let near : a + cycles < 64 = ltb-true _ _ m in
                let same : (a + cycles) % 64 ≡ a + cycles = omega arith in
                new ∙ (sym was ∙ ap (λ (k : ℕ). is_due (ring_from sets old) k x) same)
            | inr m ↦
                let far : 64 ≤ a + cycles = ltb-false _ _ m in
                new ∙ (sym was ∙ (clear ((a + cycles) % 64) x (omega arith)
                ∙ sym (due_past (ring_from sets old) (a + cycles) x far)))
          ]
    ]

set_here : (sets : List ℕ) (i place set : ℕ) → place < length sets → i ≡ place
    → slice_index (slice_set sets place set) i ≡ set
set_here sets i place set l e = rw e (get_or-set_same sets place set 0 l)

pub put_ring : (sets : List ℕ) (filled head place set more number : ℕ) → IsRing sets filled head → place < 64
    → IsWith (slice_index sets place) number set → IsWith filled place more
    → IsRing (slice_set sets place set) more head
put_ring sets filled head place set more number ring small with marked =
    let count : length sets ≡ 64 = ring.count in record {
      count = length-set sets place set ∙ count;
      inside = ring.inside;
      low = λ i l h. elim (cases_Bool (i == place)) [
        | inl e ↦ let f : i ≡ place = eqb-true _ _ e in omega arith
        | inr e ↦ ring.low i l (sym (marked.others i (eqb-false _ _ e)) ∙ h)
      ];
      some = λ i l h. elim (cases_Bool (i == place)) [
        | inl e ↦ (
          number,
          ap (λ s. has s number) (set_here sets i place set (omega arith) (eqb-true _ _ e))
              ∙ with.same,
        )
        | inr e ↦
            let before = ring.some i l (sym (marked.others i (eqb-false _ _ e)) ∙ h) in
            (before.0, ap (λ s. has s before.0) (get_or-set_other sets place i set 0 (eqb-false _ _ e)) ∙ before.1)
      ];
      none = λ i l h x. elim (cases_Bool (i == place)) [
        | inl e ↦ absurd (both_ways (has more i) h (ap (λ (k : ℕ). has more k) (eqb-true _ _ e) ∙ marked.same))
        | inr e ↦ ap (λ s. has s x) (get_or-set_other sets place i set 0 (eqb-false _ _ e))
            ∙ ring.none i l (sym (marked.others i (eqb-false _ _ e)) ∙ h) x
      ];
    }

-- the same place is the same cycle ahead
same_place : (head a ahead : ℕ) → head < 64 → a < 64 → ahead < 64 → (head + a) % 64 ≡ (head + ahead) % 64 → a ≡ ahead
same_place head a ahead inside l m e = omega arith

-- a set that is written at the place of a cycle ahead
set_at : (sets : List ℕ) (filled more head ahead set a x : ℕ) → IsRing sets filled head
    → IsRing (slice_set sets ((head + ahead) % 64) set) more head → ahead < 64 → a < 64
    → is_due (ring_from (slice_set sets ((head + ahead) % 64) set) head) a x
    ≡ (if a == ahead then has set x else is_due (ring_from sets head) a x)
set_at sets filled more head ahead set a x ring after l m =
    let count : length sets ≡ 64 = ring.count in
    let inside : head < 64 = ring.inside in
    let new = due_at (slice_set sets ((head + ahead) % 64) set) more head a ((head + a) % 64) x after m refl in
    elim (cases_Bool (a == ahead)) [
      | inl k ↦
          let same : a ≡ ahead = eqb-true a ahead k in
          new ∙ (ap (λ (s : ℕ). has s x) (set_here sets ((head + a) % 64) ((head + ahead) % 64) set (omega arith)
          (ap (λ (n : ℕ). (head + n) % 64) same)) ∙ sym (rw k refl))
      | inr k ↦
          let apart : (head + a) % 64 ≢ (head + ahead) % 64 =
          λ z. eqb-false a ahead k (same_place head a ahead inside m l z) in
          new ∙ (ap (λ (s : ℕ). has s x) (get_or-set_other sets ((head + ahead) % 64) ((head + a) % 64) set 0 apart)
          ∙ (sym (due_at sets filled head a ((head + a) % 64) x ring m refl) ∙ sym (rw k refl)))
    ]

pub put_pairs : (w : List ℕ) (sets : List ℕ) (filled more head ahead set number : ℕ) → ring_from sets head ≡ w
    → IsRing sets filled head → IsRing (slice_set sets ((head + ahead) % 64) set) more head → ahead ≤ 63
    → IsWith (slice_index sets ((head + ahead) % 64)) number set
    → HasPut ahead number w (ring_from (slice_set sets ((head + ahead) % 64) set) head)
put_pairs w sets filled more head ahead set number e ring after l with =
    subst (λ (v : List ℕ). HasPut ahead number v (ring_from (slice_set sets ((head + ahead) % 64) set) head)) e
    (λ a x. elim (cases_Bool (nat_lt a 64)) [
      | inr m ↦
          let far : 64 ≤ a = ltb-false _ _ m in
          let other : (a == ahead) ≡ false = not_equal a ahead (λ z. absurd (omega arith)) in
          due_past (ring_from (slice_set sets ((head + ahead) % 64) set) head) a x far
          ∙ sym (rw (due_past (ring_from sets head) a x far, other) refl)
      | inl m ↦
          let low : a < 64 = ltb-true _ _ m in
          set_at sets filled more head ahead set a x ring after (omega arith) low ∙ elim (cases_Bool (a == ahead)) [
            | inr k ↦ rw k (sym (or-false (is_due (ring_from sets head) a x)))
            | inl k ↦
                let same : a ≡ ahead = eqb-true a ahead k in
                let was : is_due (ring_from sets head) a x ≡ has (slice_index sets ((head + ahead) % 64)) x =
                due_at sets filled head a ((head + ahead) % 64) x ring low (ap (λ (n : ℕ). (head + n) % 64) (sym same))
                in
                rw (k, was) (elim (cases_Bool (x == number)) [
                  | inl n ↦ rw n (ap (has set) (eqb-true x number n)
                      ∙ (with.same ∙ sym (or-true (has (slice_index sets ((head + ahead) % 64)) x))))
                  | inr n ↦ rw n (with.others x (eqb-false x number n)
                      ∙ sym (or-false (has (slice_index sets ((head + ahead) % 64)) x)))
                ])
          ]
    ])
  where
    not_equal : (a b : ℕ) → a ≢ b → (a == b) ≡ false
    not_equal a b apart = elim (cases_Bool (a == b)) [
      | inl e ↦ absurd (apart (eqb-true a b e))
      | inr e ↦ e
    ]

-- a ring whose set at the head is emptied
pub emptied_ring : (sets : List ℕ) (filled head more : ℕ) → IsRing sets filled head → IsWithout filled head more
    → IsRing (slice_set sets head 0) more head
emptied_ring sets filled head more ring without =
    let count : length sets ≡ 64 = ring.count in
    let inside : head < 64 = ring.inside in record {
      count = length-set sets head 0 ∙ count;
      inside = inside;
      low = λ i l h. elim (cases_Bool (i == head)) [
        | inl e ↦ let f : i ≡ head = eqb-true _ _ e in omega arith
        | inr e ↦ ring.low i l (sym (without.others i l (eqb-false _ _ e)) ∙ h)
      ];
      some = λ i l h. elim (cases_Bool (i == head)) [
        | inl e ↦ absurd (both_ways (has more head) without.same (ap (has more) (sym (eqb-true _ _ e)) ∙ h))
        | inr e ↦
            let before = ring.some i l (sym (without.others i (omega arith) (eqb-false _ _ e)) ∙ h) in
            (before.0, ap (λ s. has s before.0) (get_or-set_other sets head i 0 0 (eqb-false _ _ e)) ∙ before.1)
      ];
      none = λ i l h x. elim (cases_Bool (i == head)) [
        | inl e ↦ ap (λ s. has s x) (set_here sets i head 0 (omega arith) (eqb-true _ _ e)) ∙ none_in x
        | inr e ↦ ap (λ s. has s x) (get_or-set_other sets head i 0 0 (eqb-false _ _ e))
            ∙ ring.none i l (sym (without.others i (omega arith) (eqb-false _ _ e)) ∙ h) x
      ];
    }

-- nothing is due between the head and the next place with members
before_next : (sets : List ℕ) (filled head n : ℕ) → IsRing sets filled head
    → ((a : ℕ) → a < n → a < 64 → has filled ((head + a) % 64) ≡ false) → IsClearTo (ring_from sets head) n
before_next sets filled head n ring none a x l = elim (cases_Bool (nat_lt a 64)) [
  | inr m ↦ due_past (ring_from sets head) a x (ltb-false _ _ m)
  | inl m ↦
      let low : a < 64 = ltb-true _ _ m in
      let place : (head + a) % 64 < 64 = omega arith in
      due_at sets filled head a ((head + a) % 64) x ring low refl ∙ ring.none ((head + a) % 64) place (none a l low) x
]

next_at : (sets : List ℕ) (filled head n : ℕ) → IsRing sets filled head → n < 64 → has filled ((head + n) % 64) ≡ true
    → ((a : ℕ) → a < n → a < 64 → has filled ((head + a) % 64) ≡ false) → IsNext (ring_from sets head) (Some n)
next_at sets filled head n ring small some none =
    let place : (head + n) % 64 < 64 = omega arith in
    let one = ring.some ((head + n) % 64) place some in (
      (one.0, due_at sets filled head n ((head + n) % 64) one.0 ring small refl ∙ one.1),
      before_next sets filled head n
          ring none,
    )

-- the next is in a place after the head
pub next_later : (sets : List ℕ) (filled head n : ℕ) → IsRing sets filled head → filled < 2 ^ 64
    → has (filled / 2 ^ head) n ≡ true → ((i : ℕ) → i < n → has (filled / 2 ^ head) i ≡ false)
    → IsNext (ring_from sets head) (Some n)
next_later sets filled head n ring fits some none =
    let inside : head < 64 = ring.inside in
    let here : has filled (head + n) ≡ true = sym (shifted filled head n) ∙ some in
    let low : head + n < 64 = elim (cases_Bool (nat_lt (head + n) 64)) [
      | inl e ↦ ltb-true _ _ e
      | inr e ↦ absurd (both_ways (has filled (head + n))
          (has_none filled (head + n) (bit_at_above filled 64 (head + n) fits (ltb-false _ _ e))) here)
    ] in
    let same : head + n ≡ (head + n) % 64 = omega arith in
    next_at sets filled head n ring (omega arith) (ap (λ (k : ℕ). has filled k) (sym same) ∙ here) (λ a less small.
    let at : (head + a) % 64 ≡ head + a = omega arith in
    ap (λ (k : ℕ). has filled k) at ∙ (sym (shifted filled head a) ∙ none a less))

-- or before it
pub next_round : (sets : List ℕ) (filled head n : ℕ) → IsRing sets filled head → filled / 2 ^ head ≡ 0 → n < 64
    → has filled n ≡ true → ((i : ℕ) → i < n → has filled i ≡ false)
    → IsNext (ring_from sets head) (Some (64 - head + n))
next_round sets filled head n ring none low some least =
    let inside : head < 64 = ring.inside in
    let above : (a : ℕ) → has filled (head + a) ≡ false = λ a. sym (shifted filled head a)
    ∙ (ap (λ (k : ℕ). has k a) none ∙ none_in a) in
    let before : n < head = elim (cases_Bool (nat_lt n head)) [
      | inl e ↦ ltb-true _ _ e
      | inr e ↦
          let high : head ≤ n = ltb-false _ _ e in
          let at : head + (n - head) ≡ n = omega arith in
          absurd (both_ways (has filled n) (ap (λ (k : ℕ). has filled k) (sym at) ∙ above (n - head)) some)
    ] in
    let same : (head + (64 - head + n)) % 64 ≡ n = omega arith in
    next_at sets filled head (64 - head + n) ring (omega arith) (ap (λ (k : ℕ). has filled k) same ∙ some)
    (λ a less small. elim (cases_Bool (nat_lt (head + a) 64)) [
      | inl e ↦
          let near : head + a < 64 = ltb-true _ _ e in
          let at : (head + a) % 64 ≡ head + a = omega arith in
          ap (λ (k : ℕ). has filled k) at ∙ above a
      | inr e ↦ let far : 64 ≤ head + a = ltb-false _ _ e in least ((head + a) % 64) (omega arith)
    ])

-- The same for a wheel as contracts see it.

pub passed_on : (w : List ℕ) (sets : List ℕ) (filled head from cycles : ℕ) → ring_from sets head ≡ w
    → IsRing sets filled head → from ≡ head → IsClearTo w cycles
    → HasPassed cycles w (ring_from sets ((from + cycles % 64) % 64))
passed_on w sets filled head from cycles e ring f clear =
    subst (λ (v : List ℕ). IsClearTo v cycles → HasPassed cycles v (ring_from sets ((from + cycles % 64) % 64))) e
    (passed sets filled head ((from + cycles % 64) % 64) cycles ring (ap (λ (k : ℕ). (k + cycles % 64) % 64) f))
    clear

pub later_is : (w : List ℕ) (sets : List ℕ) (filled head n : ℕ) → ring_from sets head ≡ w → IsRing sets filled head
    → filled < 2 ^ 64 → has (filled / 2 ^ head) n ≡ true → ((i : ℕ) → i < n → has (filled / 2 ^ head) i ≡ false)
    → IsNext w (Some n)
later_is w sets filled head n e ring fits some least =
    subst (λ (v : List ℕ). IsNext v (Some n)) e (next_later sets filled head n ring fits some least)

pub round_is : (w : List ℕ) (sets : List ℕ) (filled head n : ℕ) → ring_from sets head ≡ w → IsRing sets filled head
    → filled / 2 ^ head ≡ 0 → n < 64 → has filled n ≡ true → ((i : ℕ) → i < n → has filled i ≡ false)
    → IsNext w (Some (64 - head + n))
round_is w sets filled head n e ring none low some least =
    subst (λ (v : List ℕ). IsNext v (Some (64 - head + n))) e (next_round sets filled head n ring none low some least)

-- none if no place has members
pub none_due : (w : List ℕ) (sets : List ℕ) (filled head : ℕ) → ring_from sets head ≡ w → IsRing sets filled head
    → filled ≡ 0 → IsEmpty w
none_due w sets filled head e ring empty = subst (λ (v : List ℕ). IsEmpty v) e (λ a x. elim (cases_Bool (nat_lt a 64)) [
  | inr m ↦ due_past (ring_from sets head) a x (ltb-false _ _ m)
  | inl m ↦
      let place : (head + a) % 64 < 64 = omega arith in
      due_at sets filled head a ((head + a) % 64) x ring (ltb-true _ _ m) refl
      ∙ ring.none ((head + a) % 64) place (ap (λ (n : ℕ). has n ((head + a) % 64)) empty
      ∙ none_in ((head + a) % 64)) x
])

-- the numbers that are due are at the head
pub due_first : (w : List ℕ) (sets : List ℕ) (filled head due : ℕ) → ring_from sets head ≡ w → IsRing sets filled head
    → due ≡ slice_index sets head → AreDue w due
due_first w sets filled head due e ring is = subst (λ (v : List ℕ). AreDue v due) e (λ x.
    let inside : head < 64 = ring.inside in
    ap (λ (s : ℕ). has s x) is ∙ sym (due_at sets filled head 0 head x ring (omega arith) (omega arith)))

-- and are taken out
pub given : (w : List ℕ) (sets : List ℕ) (filled more head : ℕ) → ring_from sets head ≡ w → IsRing sets filled head
    → IsRing (slice_set sets head 0) more head → HasGiven w (ring_from (slice_set sets head 0) head)
given w sets filled more head e ring after =
    let inside : head < 64 = ring.inside in
    let count : length sets ≡ 64 = ring.count in
    subst (λ (v : List ℕ). HasGiven v (ring_from (slice_set sets head 0) head)) e
    (λ a x. elim (cases_Bool (nat_lt 0 a)) [
      | inr z ↦
          let first : a ≡ 0 = let l = ltb-false _ _ z in omega arith in
          rw z (due_at (slice_set sets head 0) more head a head x after (omega arith) (omega arith)
          ∙ (ap (λ (s : ℕ). has s x) (set_here sets head head 0 (omega arith) refl) ∙ none_in x))
      | inl z ↦
          let later : 0 < a = ltb-true _ _ z in
          rw z (elim (cases_Bool (nat_lt a 64)) [
            | inr m ↦ due_past (ring_from (slice_set sets head 0) head) a x (ltb-false _ _ m)
                ∙ sym (due_past (ring_from sets head) a x (ltb-false _ _ m))
            | inl m ↦
                let low : a < 64 = ltb-true _ _ m in
                let apart : (head + a) % 64 ≢ head = λ same. absurd (omega arith) in
                due_at (slice_set sets head 0) more head a ((head + a) % 64) x after low refl
                ∙ (ap (λ (s : ℕ). has s x) (get_or-set_other sets head ((head + a) % 64) 0 0 apart)
                ∙ sym (due_at sets filled head a ((head + a) % 64) x ring low refl))
          ])
    ])

-- nothing is taken out if nothing is due
pub none_given : (w : List ℕ) (sets : List ℕ) (filled head : ℕ) → ring_from sets head ≡ w → IsRing sets filled head
    → slice_index sets head ≡ 0 → HasGiven w (ring_from sets head)
none_given w sets filled head e ring none =
    let inside : head < 64 = ring.inside in
    subst (λ (v : List ℕ). HasGiven v (ring_from sets head)) e (λ a x. elim (cases_Bool (nat_lt 0 a)) [
      | inl z ↦ rw z refl
      | inr z ↦
          let first : a ≡ 0 = let l = ltb-false _ _ z in omega arith in
          rw z (due_at sets filled head a head x ring (omega arith) (omega arith)
          ∙ (ap (λ (s : ℕ). has s x) none ∙ none_in x))
    ])
