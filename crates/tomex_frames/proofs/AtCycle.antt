-- Which link has a cycle.
use Rattle.std.proofs.Common.{ℕ, zero, suc, ◌+◌, ◌-◌, ◌<◌, ◌≤◌, ◌≡◌, Bool, true, false, arith, refl, subst, inl, inr}
use Rattle.std.proofs.Common.{List, [], ◌∷◌, Option, Some, None, length, slice_get, take}
use Rattle.std.specs.Prelude.{◌⊎◌, ◌&&◌, All, IfSome, nat_le, nat_lt, slice_index_or}
use Rattle.std.specs.List.{AllByRecursion, Contains, find}
use Rattle.std.proofs.lemmas.Bool.{and_right, cases_lt, eq-eqb, le-leb, lt-leb, ltb-true, ne_eqb}
use Rattle.std.proofs.lemmas.List.Elements.{recursion_from_All}
use Rattle.std.proofs.lemmas.Option.{get_or_from_slice_get, slice_get_within}
use Rattle.tomex_rvexec.specs.Steps.{is_number}
use Rattle.tomex_path.specs.declared.link.Link.{Link}
use Rattle.tomex_path.specs.Laws.{IsChain, StepsRise}
use Rattle.tomex_frames.specs.OnPath.{at_cycle, framed_step, with_before}
use Rattle.tomex_frames.specs.declared.on_path.OnPath.{OnPath}

-- from a place on
find_at : (t : ℕ) (before : Option Link) (path : List Link) (n : ℕ)
    → AllByRecursion (λ l. nat_lt l.to t ≡ true) (take n path)
    → ((l : Link) → slice_get path n ≡ Some l → t ≤ l.to)
    → slice_get (with_before before path) n ≡ find (λ place. nat_le t place.link.to) (with_before before path)
find_at t before [] n passed here = refl
find_at t before (l ∷ ls) zero passed here = rw (le-leb t l.to (here l refl)) refl
find_at t before (l ∷ ls) (suc n) passed here =
    rw (lt-leb t l.to (ltb-true l.to t passed.0)) (find_at t (Some l) ls n passed.1 here)

pub found_here : (t : ℕ) (path : List Link) (n : ℕ) (d : Link) → All (λ l. nat_lt l.to t ≡ true) (take n path)
    → t ≤ (slice_index_or path n d).to → slice_get (with_before None path) n ≡ at_cycle t path
found_here t path n d passed late =
    find_at t None path n (recursion_from_All (λ l. nat_lt l.to t ≡ true) (take n path) passed)
    (λ l is. let same : slice_index_or path n d ≡ l = get_or_from_slice_get path n l d is in
    subst (λ (k : Link). t ≤ k.to) same late)

pub found_past : (t : ℕ) (path : List Link) (n : ℕ) → All (λ l. nat_lt l.to t ≡ true) (take n path)
    → length path ≤ n → slice_get (with_before None path) n ≡ at_cycle t path
found_past t path n passed past =
    find_at t None path n (recursion_from_All (λ l. nat_lt l.to t ≡ true) (take n path) passed)
    (λ l is. let within : n < length path = slice_get_within path n l is in absurd (omega (arith, within, past)))

-- the link at a place, and the one before it

pub linked_first : (path : List Link) (d : Link) → 0 < length path
    → slice_get (with_before None path) 0 ≡ Some (record { before = None; link = slice_index_or path 0 d })
linked_first [] d some = absurd (omega (arith, some))
linked_first (l ∷ path) d some = refl

linked_next : (before : Option Link) (path : List Link) (n : ℕ) (d : Link) → suc n < length path
    → slice_get (with_before before path) (suc n)
    ≡ Some (record { before = Some (slice_index_or path n d); link = slice_index_or path (suc n) d })
linked_next before [] n d within = absurd (omega (arith, within))
linked_next before (x ∷ []) n d within = absurd (omega (arith, within))
linked_next before (x ∷ y ∷ path) zero d within = refl
linked_next before (x ∷ y ∷ path) (suc n) d within =
    linked_next (Some x) (y ∷ path) n d (omega (arith, within))

pub linked_after : (path : List Link) (n : ℕ) (d : Link) → 0 < n → n < length path
    → slice_get (with_before None path) n
    ≡ Some (record { before = Some (slice_index_or path (n - 1) d); link = slice_index_or path n d })
linked_after path zero d some within = absurd (omega (arith, some))
linked_after path (suc n) d some within =
    let e : suc n - 1 ≡ n = omega arith in
    rw e (linked_next None path n d within)

past_all : (before : Option Link) (path : List Link) (n : ℕ) → length path ≤ n
    → slice_get (with_before before path) n ≡ None
past_all before [] n past = refl
past_all before (l ∷ path) zero past = absurd (omega (arith, past))
past_all before (l ∷ path) (suc n) past = past_all (Some l) path n (omega (arith, past))

pub linked_past : (path : List Link) (n : ℕ) → length path ≤ n → slice_get (with_before None path) n ≡ None
linked_past path n past = past_all None path n past

-- what holds of each link holds of the one with a cycle, and of the one before it
find_of : (P : Link → Type 0) (t : ℕ) (before : Option Link) (path : List Link) → IfSome before P
    → AllByRecursion P path
    → IfSome (find (λ place. nat_le t place.link.to) (with_before before path)) (λ place. IfSome place.before P)
find_of P t before [] was all = tt
find_of P t before (l ∷ path) was all = elim (cases_lt l.to t) [
  | inl late ↦ rw (lt-leb t l.to late) (find_of P t (Some l) path all.0 all.1)
  | inr here ↦ rw (le-leb t l.to here) was
]

pub before_of : (P : Link → Type 0) (t : ℕ) (path : List Link) → All P path
    → IfSome (at_cycle t path) (λ place. IfSome place.before P)
before_of P t path all = find_of P t None path tt (recursion_from_All P path all)

-- the link of a chain that has a cycle
pub record IsHere (before : Option Link) (path : List Link) (t : ℕ) : Type 0 where
  pub place : OnPath
  pub is : find (λ place. nat_le t place.link.to) (with_before before path) ≡ Some place
  pub on_path : Contains path place.link
  pub from : place.link.from ≤ t
  pub to : t ≤ place.link.to

pub chain_at : (before : Option Link) (path : List Link) (from to t : ℕ) → IsChain from to path → from ≤ t → t ≤ to
    → IsHere before path t
chain_at before [] from to t chain low high = absurd (omega (arith, chain))
chain_at before (l ∷ path) from to t chain low high = elim (cases_lt l.to t) [
  | inl late ↦
      let rest = chain_at (Some l) path (l.to + 1) to t chain.2 (omega arith) high in
      record {
        place = rest.place;
        is = rw (lt-leb t l.to late) rest.is;
        on_path = (suc rest.on_path.0, omega (arith, rest.on_path.1), rest.on_path.2);
        from = rest.from;
        to = rest.to;
      }
  | inr here ↦ record {
    place = record { before = before; link = l };
    is = rw (le-leb t l.to here) refl;
    on_path = (0, omega arith, refl);
    from = omega (arith, chain.0);
    to = here;
  }
]

-- in the next cycle it is the same link, or one that begins with it, of a later step
pub record IsNext (before : Option Link) (path : List Link) (t : ℕ) : Type 0 where
  pub was : OnPath
  pub now : OnPath
  pub was_is : find (λ place. nat_le t place.link.to) (with_before before path) ≡ Some was
  pub now_is : find (λ place. nat_le (t + 1) place.link.to) (with_before before path) ≡ Some now
  pub which : ((now ≡ was) × (now.link.from < t + 1)) ⊎ ((now.link.from ≡ t + 1) × (was.link.step < now.link.step))

pub chain_next : (before : Option Link) (path : List Link) (from to t n : ℕ) → IsChain from to path
    → StepsRise n path → from ≤ t → t < to → IsNext before path t
chain_next before [] from to t n chain rise low high = absurd (omega (arith, chain))
chain_next before (l ∷ path) from to t n chain rise low high = elim (cases_lt l.to t) [
  | inl late ↦
      let rest = chain_next (Some l) path (l.to + 1) to t l.step chain.2 rise.1 (omega arith) high in
      record {
        was = rest.was;
        now = rest.now;
        was_is = rw (lt-leb t l.to late) rest.was_is;
        now_is = rw (lt-leb (t + 1) l.to (omega arith)) rest.now_is;
        which = rest.which;
      }
  | inr here ↦ elim (cases_lt t l.to) [
    | inl within ↦ record {
      was = record { before = before; link = l };
      now = record { before = before; link = l };
      was_is = rw (le-leb t l.to here) refl;
      now_is = rw (le-leb (t + 1) l.to (omega arith)) refl;
      which = inl (refl, omega (arith, chain.0));
    }
    | inr ends ↦ after l path chain.2 rise.1 here ends
  ]
]
  where
    after : (l : Link) (path : List Link) → IsChain (l.to + 1) to path → StepsRise l.step path → t ≤ l.to → l.to ≤ t
        → IsNext before (l ∷ path) t
    after l [] chain rise here ends = absurd (omega (arith, chain, high))
    after l (k ∷ path) chain rise here ends = record {
      was = record { before = before; link = l };
      now = record { before = Some l; link = k };
      was_is = rw (le-leb t l.to here) refl;
      now_is = rw (lt-leb (t + 1) l.to (omega arith), le-leb (t + 1) k.to (omega (arith, chain.0, chain.1))) refl;
      which = inr (omega (arith, chain.0), rise.0);
    }

-- which link's step has a cycle

abbrev pub link_at : Option Link → List Link → ℕ → Option OnPath
link_at before path t = find (λ place. nat_le t place.link.to) (with_before before path)

abbrev pub has_step : Option OnPath → ℕ → Bool
has_step place n = is_number (framed_step place) n

abbrev pub is_own : Link → ℕ → Bool
is_own l t = nat_le l.from t && nat_le t l.to

pub all_both : (P Q R : Link → Type 0) → ((l : Link) → P l → Q l → R l) → (ls : List Link) → AllByRecursion P ls
    → AllByRecursion Q ls → AllByRecursion R ls
all_both P Q R both [] p q = tt
all_both P Q R both (l ∷ ls) p q = (both l p.0 q.0, all_both P Q R both ls p.1 q.1)

-- those of later links have greater numbers
none_of : (before : Option Link) (path : List Link) (t m n : ℕ) → StepsRise n path → m ≤ n
    → has_step (link_at before path t) m ≡ false
none_of before [] t m n rise low = refl
none_of before (l ∷ path) t m n rise low = elim (cases_lt l.to t) [
  | inl late ↦ rw (lt-leb t l.to late) (none_of (Some l) path t m l.step rise.1 (omega (arith, rise.0)))
  | inr here ↦
      rw (le-leb t l.to here) (ne_eqb l.step m (λ e. let f : l.step ≡ m = e in absurd (omega (arith, rise.0, f))))
]

abbrev IsLater : ℕ → ℕ → Link → Type 0
IsLater n from l = (n < l.step) × (from ≤ l.from)

all_later : (path : List Link) (n from to m low : ℕ) → IsChain from to path → StepsRise n path → m ≤ n → low ≤ from
    → AllByRecursion (IsLater m low) path
all_later [] n from to m low chain rise l k = tt
all_later (x ∷ path) n from to m low chain rise l k = (
  (omega (arith, rise.0), omega (arith, chain.0)),
  all_later path x.step (x.to + 1) to m low chain.2 rise.1 (omega (arith, rise.0)) (omega (arith, chain.0, chain.1)),
)

abbrev pub HasItsCycles : Option Link → List Link → ℕ → ℕ → Link → Type 0
HasItsCycles before path from to l =
    (t : ℕ) → from ≤ t → t ≤ to → has_step (link_at before path t) l.step ≡ is_own l t

own_cycles : (before : Option Link) (x : Link) (path : List Link) (from to : ℕ) → IsChain from to (x ∷ path)
    → StepsRise x.step path → HasItsCycles before (x ∷ path) from to x
own_cycles before x path from to chain rise t low high = elim (cases_lt x.to t) [
  | inl late ↦
      rw (lt-leb t x.to late, and_right (nat_le x.from t) false refl)
      (none_of (Some x) path t x.step x.step rise (omega arith))
  | inr here ↦
      rw (le-leb t x.to here, le-leb x.from t (omega (arith, chain.0)), eq-eqb x.step x.step refl) refl
]

later_cycles : (before : Option Link) (x : Link) (path : List Link) (from to : ℕ) (l : Link)
    → HasItsCycles (Some x) path (x.to + 1) to l → IsLater x.step (x.to + 1) l
    → HasItsCycles before (x ∷ path) from to l
later_cycles before x path from to l has later t low high = elim (cases_lt x.to t) [
  | inl late ↦ rw (lt-leb t x.to late) (has t (omega arith) high)
  | inr here ↦
      rw (le-leb t x.to here, lt-leb l.from t (omega (arith, later.1)))
      (ne_eqb x.step l.step (λ e. let f : x.step ≡ l.step = e in absurd (omega (arith, later.0, f))))
]

-- a link has the frames of its cycles, and no other
pub have_cycles : (before : Option Link) (path : List Link) (from to n : ℕ) → IsChain from to path
    → StepsRise n path → AllByRecursion (HasItsCycles before path from to) path
have_cycles before [] from to n chain rise = tt
have_cycles before (x ∷ path) from to n chain rise = (
  own_cycles before x path from to chain rise.1,
  all_both (HasItsCycles (Some x) path (x.to + 1) to) (IsLater x.step (x.to + 1))
      (HasItsCycles before (x ∷ path) from to) (later_cycles before x path from to) path
      (have_cycles (Some x) path (x.to + 1) to x.step chain.2 rise.1)
      (all_later path x.step (x.to + 1) to x.step (x.to + 1) chain.2 rise.1 (omega arith) (omega arith)),
)
