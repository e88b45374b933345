-- One pass over new machines that are sorted by cost, cycles and number keeps those that none beats.
use Rattle.std.proofs.Common.{◌≡◌, ◌∙◌, ℕ, zero, suc, ◌<◌, ◌≤◌, arith, sym, refl, subst, List, [], ◌∷◌, Bool}
use Rattle.std.proofs.Common.{true, false, inl, inr, cond, ◌⊎◌, get_or, length, Option, Some, None}
use Rattle.std.specs.List.{AllPairs, Contains}
use Rattle.std.specs.List.Sorted.{IsPermutation}
use Rattle.std.proofs.lemmas.Bool.{cases_Bool}
use Rattle.std.proofs.lemmas.Bool.Decides.{nat_tests}
use Rattle.std.proofs.lemmas.List.Sorted.{Contains-permutation, IsPermutation-sym}
use Rattle.tomex_choices.specs.Passing.{AreUnbeaten, Has, IsUnbeaten, IsUpTo, stays_after}
use Rattle.tomex_choices.specs.Savings.{beats}
use Rattle.tomex_choices.specs.declared.new_machine.NewMachine.{NewMachine}

-- members

pub has_at : {X : Type 0} (xs : List X) (k : ℕ) (d : X) → k < length xs → Has xs (get_or xs k d)
has_at [] k d l = absurd (omega arith)
has_at (x ∷ xs) zero d l = inl refl
has_at (x ∷ xs) (suc k) d l = inr (has_at xs k d (omega arith))

pub has_from : {X : Type 0} (xs : List X) (x : X) → Contains xs x → Has xs x
has_from xs x c = subst (Has xs) c.2 (has_at xs c.0 x c.1)

pub contains_from : {X : Type 0} (xs : List X) (x : X) → Has xs x → Contains xs x
contains_from [] x h = absurd h
contains_from (y ∷ ys) x (inl e) = (0, omega arith, e)
contains_from (y ∷ ys) x (inr h) =
    let w = contains_from ys x h in let l : w.0 < length ys = w.1 in (suc w.0, omega arith, w.2)

pub has_moved : {X : Type 0} (xs ys : List X) (x : X) → IsPermutation xs ys → Has xs x → Has ys x
has_moved xs ys x moved h = has_from ys x (Contains-permutation xs ys x moved (contains_from xs x h))

-- the machines that stay, given the last one before them that did
abbrev pub passing : Option NewMachine → List NewMachine → List NewMachine
passing last [] = []
passing last (x ∷ xs) = cond (stays_after last x) (x ∷ passing (Some x) xs) (passing last xs)

-- each may stand before each later one
abbrev Rises : List NewMachine → Type 0
Rises [] = Unit {0}
Rises (x ∷ xs) = ((y : NewMachine) → Has xs y → IsUpTo x y) × Rises xs

rises : (xs : List NewMachine) → AllPairs IsUpTo xs → Rises xs
rises [] f = tt
rises (x ∷ xs) f = (
  λ y h. let c = contains_from xs y h in
      subst (IsUpTo x) c.2 (f 0 (suc c.0) y (omega arith) (let l : c.0 < length xs = c.1 in omega arith)),
  rises xs (λ j k d l m. f (suc j) (suc k) d (omega arith) (omega arith)),
)

-- machines after one that stayed

-- it beats what one that stayed before it beats
instead : (b x z : NewMachine) → IsUpTo b x → IsUpTo x z → stays_after (Some b) x ≡ true → beats z x ≡ false
    → beats z b ≡ false
instead b x z up next stays free = grind (arith, nat_tests)

equal : (b x : NewMachine) → b.number ≡ x.number → b.latency ≡ x.latency → b.cost ≡ x.cost → b.cycles ≡ x.cycles
    → b ≡ x
equal b x n l c y =
    let f : of b.number b.latency b.cost b.cycles ≡ of x.number x.latency x.cost x.cycles = rw (n, l, c, y) refl in f
  where
    of : ℕ → ℕ → ℕ → ℕ → NewMachine
    of n l c y = record { number = n; latency = l; cost = c; cycles = y }

-- a machine that doesn't stay is beaten, or is that one
left_out : (b x : NewMachine) → IsUpTo b x → stays_after (Some b) x ≡ false → (beats x b ≡ true) ⊎ (b ≡ x)
left_out b x up out = elim (cases_Bool (beats x b)) [
  | inl e ↦ inl e
  | inr e ↦
      let costs : b.cost ≡ x.cost = grind (arith, nat_tests) in
      let cycles : b.cycles ≡ x.cycles = grind (arith, nat_tests) in
      let numbers : b.number ≡ x.number = grind (arith, nat_tests) in
      let latencies : b.latency ≡ x.latency = grind (arith, nat_tests) in
      inr (equal b x numbers latencies costs cycles)
]

-- what stays is as good as the last one, or better
covered : (b x : NewMachine) → IsUpTo b x → stays_after (Some b) x ≡ false → (b.cost ≤ x.cost) × (b.cycles ≤ x.cycles)
covered b x up out = (grind (arith, nat_tests), grind (arith, nat_tests))

-- what it doesn't beat isn't beaten by what it beats
beaten_too : (b y x : NewMachine) → beats y b ≡ true → beats x b ≡ false → beats x y ≡ false
beaten_too b y x e f = grind (arith, nat_tests)

later : (x y : NewMachine) → IsUpTo x y → beats x y ≡ false
later x y up = grind (arith, nat_tests)

own : (x : NewMachine) → beats x x ≡ false
own x = grind (arith, nat_tests)

stayed : (b x : NewMachine) → IsUpTo b x → stays_after (Some b) x ≡ true → beats x b ≡ false
stayed b x up stays = grind (arith, nat_tests)

after_one : (b y : NewMachine) (ys : List NewMachine) (x : NewMachine) → Rises (b ∷ y ∷ ys)
    → (Has (passing (Some y) ys) x → Has ys x × IsUnbeaten (y ∷ ys) x) → stays_after (Some b) y ≡ true
    → Has (y ∷ passing (Some y) ys) x → Has (y ∷ ys) x × IsUnbeaten (b ∷ y ∷ ys) x
after_one b y ys x up rest e (inl same) = (
  inl same,
  λ z i. subst (λ (v : NewMachine). beats v z ≡ false) same (elim i [
    | inl s ↦ subst (λ (v : NewMachine). beats y v ≡ false) s (stayed b y (up.0 y (inl refl)) e)
    | inr j ↦ elim j [
      | inl s ↦ subst (λ (v : NewMachine). beats y v ≡ false) s (own y)
      | inr k ↦ later y z (up.1.0 z k)
    ]
  ]),
)
after_one b y ys x up rest e (inr g) =
    let w = rest g in (
      inr w.0,
      λ z i. elim i [
        | inl s ↦ subst (λ (v : NewMachine). beats x v ≡ false) s
            (instead b y x (up.0 y (inl refl)) (up.1.0 x w.0) e (w.1 y (inl refl)))
        | inr j ↦ w.1 z j
      ],
    )

skipping : (b y : NewMachine) (ys : List NewMachine) (x : NewMachine) → Rises (b ∷ y ∷ ys)
    → stays_after (Some b) y ≡ false → IsUnbeaten (b ∷ ys) x → IsUnbeaten (b ∷ y ∷ ys) x
skipping b y ys x up e free z (inl s) = free z (inl s)
skipping b y ys x up e free z (inr (inr j)) = free z (inr j)
skipping b y ys x up e free z (inr (inl s)) = subst (λ (v : NewMachine). beats x v ≡ false) s
    (elim (left_out b y (up.0 y (inl refl)) e) [
      | inl t ↦ beaten_too b y x t (free b (inl refl))
      | inr same ↦ subst (λ (v : NewMachine). beats x v ≡ false) same (free b (inl refl))
    ])

only_free : (b : NewMachine) (xs : List NewMachine) → Rises (b ∷ xs) → (x : NewMachine) → Has (passing (Some b) xs) x
    → Has xs x × IsUnbeaten (b ∷ xs) x
only_free b [] up x h = absurd h
only_free b (y ∷ ys) up x h = elim (cases_Bool (stays_after (Some b) y)) [
  | inl e ↦ after_one b y ys x up (λ k. only_free y ys up.1 x k) e
      (subst (λ (t : Bool). Has (cond t (y ∷ passing (Some y) ys) (passing (Some b) ys)) x) e h)
  | inr e ↦
      let w = only_free b ys (λ z i. up.0 z (inr i), up.1.1) x
      (subst (λ (t : Bool). Has (cond t (y ∷ passing (Some y) ys) (passing (Some b) ys)) x) e h) in
      (inr w.0, skipping b y ys x up e w.1)
]

all_free : (b : NewMachine) (xs : List NewMachine) → Rises (b ∷ xs) → (x : NewMachine) → Has xs x
    → IsUnbeaten (b ∷ xs) x → Has (b ∷ passing (Some b) xs) x
all_free b [] up x h free = absurd h
all_free b (y ∷ ys) up x (inl s) free = elim (cases_Bool (stays_after (Some b) y)) [
  | inl e ↦ rw e (inr (inl s))
  | inr e ↦ rw e (inl (elim (left_out b y (up.0 y (inl refl)) e) [
    | inl t ↦
        let beaten : beats x b ≡ true = subst (λ (v : NewMachine). beats v b ≡ true) s t in
        absurd (let bad : true ≡ false = sym beaten ∙ free b (inl refl) in cc)
    | inr same ↦ same ∙ s
  ]))
]
all_free b (y ∷ ys) up x (inr j) free = elim (cases_Bool (stays_after (Some b) y)) [
  | inl e ↦ rw e (inr (all_free y ys up.1 x j (λ z i. free z (inr i))))
  | inr e ↦ rw e (all_free b ys (λ z i. up.0 z (inr i), up.1.1) x j
      (λ z i. elim i [ inl s ↦ free z (inl s) | inr k ↦ free z (inr (inr k)) ]))
]

all_covered : (b : NewMachine) (xs : List NewMachine) → Rises (b ∷ xs) → (x : NewMachine) → Has xs x
    → (k : NewMachine) × Has (b ∷ passing (Some b) xs) k × (k.cost ≤ x.cost) × (k.cycles ≤ x.cycles)
all_covered b [] up x h = absurd h
all_covered b (y ∷ ys) up x (inl s) = elim (cases_Bool (stays_after (Some b) y)) [
  | inl e ↦ rw e (y, inr (inl refl), grind (arith, s), grind (arith, s))
  | inr e ↦
      let c = covered b y (up.0 y (inl refl)) e in
      rw e (
        b,
        inl refl,
        subst (λ (v : NewMachine). b.cost ≤ v.cost) s c.0,
        subst (λ (v : NewMachine). b.cycles ≤ v.cycles) s c.1,
      )
]
all_covered b (y ∷ ys) up x (inr j) = elim (cases_Bool (stays_after (Some b) y)) [
  | inl e ↦ let w = all_covered y ys up.1 x j in rw e (w.0, inr w.1, w.2, w.3)
  | inr e ↦ rw e (all_covered b ys (λ z i. up.0 z (inr i), up.1.1) x j)
]

-- of sorted machines those that stay are the unbeaten ones
pass : (xs : List NewMachine) → Rises xs → AreUnbeaten xs (passing None xs)
pass [] up = record { only = λ x h. absurd h; all = λ x h f. absurd h; covers = λ x h. absurd h }
pass (b ∷ xs) up = record {
  only = λ x h. elim h [
    | inl s ↦ (
      inl s,
      λ z i. subst (λ (v : NewMachine). beats v z ≡ false) s (elim i [
        | inl t ↦ subst (λ (v : NewMachine). beats b v ≡ false) t (own b)
        | inr j ↦ later b z (up.0 z j)
      ]),
    )
    | inr j ↦ let w = only_free b xs up x j in (inr w.0, w.1)
  ];
  all = λ x h f. elim h [ inl s ↦ inl s | inr j ↦ all_free b xs up x j f ];
  covers = λ x h. elim h [
    | inl s ↦ (b, inl refl, grind (arith, s), grind (arith, s))
    | inr j ↦ all_covered b xs up x j
  ];
}

-- in whatever order they were
pub passed : (new sorted : List NewMachine) → IsPermutation new sorted → AllPairs IsUpTo sorted
    → AreUnbeaten new (passing None sorted)
passed new sorted moved order =
    let back = IsPermutation-sym new sorted moved in
    let w = pass sorted (rises sorted order) in
    record {
      only = λ x h. let v = w.only x h in
          (has_moved sorted new x back v.0, λ y i. v.1 y (has_moved new sorted y moved i));
      all = λ x h f. w.all x (has_moved new sorted x moved h) (λ y i. f y (has_moved sorted new y back i));
      covers = λ x h. w.covers x (has_moved new sorted x moved h);
    }
