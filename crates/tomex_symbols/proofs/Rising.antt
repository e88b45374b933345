-- The order of symbols: those to be chosen come last.
use Rattle.std.proofs.Common.{◌≡◌, ℕ, zero, suc, ◌<◌, ◌≤◌, arith, sym, true, false, ◌==◌}
use Rattle.std.proofs.Common.{add-one, List, [], ◌∷◌, length, get_or, take, drop, All, ◌&&◌, ◌||◌, nat_lt}
use Rattle.std.specs.Ordering.{is_lt, nat_cmp, ordering_then}
use Rattle.std.proofs.lemmas.Bool.Decides.{nat_tests}
use Rattle.std.proofs.lemmas.List.Elements.{All-cons, All-take, All-weaker}
use Rattle.tomex_symbols.specs.declared.symbol.Symbol.{Symbol}
use Rattle.tomex_symbols.specs.Functions.{goes_before, rank_of}
use Rattle.tomex_symbols.specs.Sweep.{InOrder, Precedes}

pub up_refl : (a : Symbol) → Precedes a a
up_refl a = record { address = omega arith; rank = λ e. omega arith; number = λ e f. omega arith }

pub up_trans : (a b c : Symbol) → Precedes a b → Precedes b c → Precedes a c
up_trans a b c u v = record {
  address = let x = u.address in let y = v.address in omega arith;
  rank = λ e.
      let x = u.address in let y = v.address in
      let s : a.address ≡ b.address = omega arith in
      let t : b.address ≡ c.address = omega arith in
      let m = u.rank s in let n = v.rank t in omega arith;
  number = λ e f.
      let x = u.address in let y = v.address in
      let s : a.address ≡ b.address = omega arith in
      let t : b.address ≡ c.address = omega arith in
      let m = u.rank s in let n = v.rank t in
      let i : rank_of a ≡ rank_of b = omega arith in
      let j : rank_of b ≡ rank_of c = omega arith in
      let k = u.number s i in let l = v.number t j in omega arith;
}

pub up_both : (a b : Symbol) → Precedes a b → Precedes b a → a.number ≡ b.number
up_both a b u v =
    let x = u.address in let y = v.address in
    let s : a.address ≡ b.address = omega arith in
    let m = u.rank s in let n = v.rank (sym s) in
    let i : rank_of a ≡ rank_of b = omega arith in
    let k = u.number s i in let l = v.number (sym s) (sym i) in omega arith

-- over numbers, for the tactics
lower_than : (p q r s m n : ℕ)
    → (nat_lt q p || p == q && (nat_lt r s || r == s && nat_lt m n)) ≡ true
    → (q ≤ p) × (q ≡ p → r ≤ s) × (q ≡ p → s ≡ r → m ≤ n)
lower_than p q r s m n e = grind (arith, nat_tests)

pub before_up : (a b : Symbol) → goes_before a b ≡ true → Precedes b a
before_up a b e = let w = lower_than a.address b.address (rank_of a) (rank_of b) a.number b.number e in
    record { address = w.0; rank = w.1; number = w.2 }

not_lower : (p q r s m n : ℕ)
    → (nat_lt q p || p == q && (nat_lt r s || r == s && nat_lt m n)) ≡ false
    → (p ≤ q) × (p ≡ q → s ≤ r) × (p ≡ q → r ≡ s → n ≤ m)
not_lower p q r s m n e = grind (arith, nat_tests)

pub not_before_up : (a b : Symbol) → goes_before a b ≡ false → Precedes a b
not_before_up a b e = let w = not_lower a.address b.address (rank_of a) (rank_of b) a.number b.number e in
    record { address = w.0; rank = w.1; number = w.2 }

-- lists in order

abbrev pub Rises : List Symbol → Type 0
Rises [] = Unit {0}
Rises (s ∷ ss) = All (Precedes s) ss × Rises ss

above : (a b : Symbol) (ss : List Symbol) → Precedes a b → All (Precedes b) ss → All (Precedes a) ss
above a b ss u h = All-weaker (Precedes b) (Precedes a) (λ s v. up_trans a b s u v) ss h

pub rises : (ss : List Symbol) → InOrder ss → Rises ss
rises [] h = tt
rises (s ∷ []) h = (λ k d l. absurd (omega arith), tt)
rises (s ∷ t ∷ ss) h =
    let u : Precedes s t = h 0 s (omega arith) in
    let r : Rises (t ∷ ss) = rises (t ∷ ss) (λ k d l.
    rw (add-one k) (rw (add-one (suc k)) at (h (suc k) d (omega arith)))) in
    (All-cons (Precedes s) t ss u (above s t ss u r.0), r)

pub rises_take : (k : ℕ) (ss : List Symbol) → Rises ss → Rises (take k ss)
rises_take zero ss r = tt
rises_take (suc k) [] r = tt
rises_take (suc k) (s ∷ ss) r = (All-take (Precedes s) k ss r.0, rises_take k ss r.1)

-- if the next symbol begins after an address, so do all that follow
pub rest_begins : (ss : List Symbol) (k pc : ℕ) (d : Symbol) → Rises ss
    → (k < length ss → pc < (get_or ss k d).address) → All (λ s. pc < s.address) (drop k ss)
rest_begins [] zero pc d r h = λ i e l. absurd (omega arith)
rest_begins [] (suc k) pc d r h = λ i e l. absurd (omega arith)
rest_begins (s ∷ ss) zero pc d r h =
    let l : pc < s.address = h (omega arith) in
    All-cons (λ t. pc < t.address) s ss l
    (All-weaker (Precedes s) (λ t. pc < t.address) (λ t u. let m = u.address in omega arith) ss r.0)
rest_begins (s ∷ ss) (suc k) pc d r h = rest_begins ss k pc d r.1 (λ l. h (omega arith))

-- keys that are not less than others, as a sort leaves them

key_up : (p q r s m n : ℕ)
    → is_lt (ordering_then (ordering_then (nat_cmp q p) (nat_cmp r s)) (nat_cmp m n)) ≡ false
    → (p ≤ q) × (p ≡ q → s ≤ r) × (p ≡ q → r ≡ s → n ≤ m)
key_up p q r s m n e = grind (arith, nat_tests)

pub up_to_key : (a b : Symbol)
    → is_lt (ordering_then (ordering_then (nat_cmp b.address a.address) (nat_cmp (rank_of a) (rank_of b)))
    (nat_cmp a.number b.number)) ≡ false → Precedes a b
up_to_key a b e = let w = key_up a.address b.address (rank_of a) (rank_of b) a.number b.number e in
    record { address = w.0; rank = w.1; number = w.2 }
