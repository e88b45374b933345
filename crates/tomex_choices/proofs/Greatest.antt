-- The greatest of some savings: found one after another, and the same of two lists.
use Rattle.std.proofs.Common.{◌≡◌, ℕ, ◌≤◌, arith, ap, sym, refl, subst, ◌∙◌, List, [], ◌∷◌}
use Rattle.std.proofs.Common.{map, Bool, true, false, inl, inr, cond, Option, Some, None}
use Rattle.std.proofs.lemmas.Bool.{cases_Bool}
use Rattle.std.proofs.lemmas.Bool.Decides.{nat_tests}
use Rattle.tomex_choices.specs.Passing.{Has}
use Rattle.tomex_choices.specs.Savings.{greatest_saving, is_greater, more, thousandths}
use Rattle.tomex_study.specs.declared.list_report.Saving.{Saving}
use Rattle.tomex_choices.proofs.Members.{from_map, has_map}

-- the order of savings

irreflexive : (a : Saving) → is_greater a a ≡ false
irreflexive a = grind (arith, nat_tests)

asymmetric : (a b : Saving) → is_greater a b ≡ true → is_greater b a ≡ false
asymmetric a b e = grind (arith, nat_tests)

transitive : (a b c : Saving) → is_greater a b ≡ true → is_greater b c ≡ true → is_greater a c ≡ true
transitive a b c e d = grind (arith, nat_tests)

not_greater : (a b c : Saving) → is_greater a b ≡ false → is_greater b c ≡ false → is_greater a c ≡ false
not_greater a b c e d = grind (arith, nat_tests)

pub none_more : (a : Option Saving) → more a None ≡ a
none_more None = refl
none_more (Some a) = refl

three : (a b c : Saving)
    → more (Some a) (more (Some b) (Some c)) ≡ more (more (Some a) (Some b)) (Some c)
three a b c = elim (cases_Bool (is_greater c b)) [
  | inl cb ↦ elim (cases_Bool (is_greater b a)) [
    | inl ba ↦ rw (cb, ba, cb, transitive c b a cb ba) refl
    | inr ba ↦ rw (cb, ba) refl
  ]
  | inr cb ↦ elim (cases_Bool (is_greater b a)) [
    | inl ba ↦ rw (cb, ba, cb) refl
    | inr ba ↦ rw (cb, ba, not_greater c b a cb ba) refl
  ]
]

pub more_assoc : (a b c : Option Saving) → more a (more b c) ≡ more (more a b) c
more_assoc None b c = refl
more_assoc (Some a) None c = refl
more_assoc (Some a) (Some b) None = refl
more_assoc (Some a) (Some b) (Some c) = three a b c

-- the greatest is one of them, and none is greater

pub greatest_has : (savings : List (Option Saving)) (v : Saving) → greatest_saving savings ≡ Some v
    → Has savings (Some v)
greatest_has [] v e = absurd (let f : None ≡ Some v = e in cc)
greatest_has (None ∷ savings) v e = inr (greatest_has savings v e)
greatest_has (Some a ∷ savings) v e = next (greatest_saving savings) refl (λ d. greatest_has savings v d) e
  where
    next : (g : Option Saving) → greatest_saving savings ≡ g → (greatest_saving savings ≡ Some v → Has savings (Some v))
        → more (Some a) g ≡ Some v → Has (Some a ∷ savings) (Some v)
    next None rest has s = inl s
    next (Some c) rest has s = elim (cases_Bool (is_greater c a)) [
      | inl t ↦ inr (has (rest ∙ subst (λ (b : Bool). Some (cond b c a) ≡ Some v) t s))
      | inr t ↦ inl (subst (λ (b : Bool). Some (cond b c a) ≡ Some v) t s)
    ]

pub greatest_most : (savings : List (Option Saving)) (w : Saving) → Has savings (Some w)
    → (v : Saving) × (greatest_saving savings ≡ Some v) × (is_greater w v ≡ false)
greatest_most [] w h = absurd h
greatest_most (a ∷ savings) w (inl e) =
    subst (λ (o : Option Saving). (v : Saving) × (more o (greatest_saving savings) ≡ Some v)
    × (is_greater w v ≡ false)) (sym e) (first (greatest_saving savings))
  where
    first : (g : Option Saving) → (v : Saving) × (more (Some w) g ≡ Some v) × (is_greater w v ≡ false)
    first None = (w, refl, irreflexive w)
    first (Some c) = elim (cases_Bool (is_greater c w)) [
      | inl t ↦ (c, rw t refl, asymmetric c w t)
      | inr t ↦ (w, rw t refl, irreflexive w)
    ]
greatest_most (a ∷ savings) w (inr h) = next a (greatest_most savings w h)
  where
    next : (o : Option Saving)
        → (v : Saving) × (greatest_saving savings ≡ Some v) × (is_greater w v ≡ false)
        → (v : Saving) × (more o (greatest_saving savings) ≡ Some v) × (is_greater w v ≡ false)
    next None r = r
    next (Some b) r = elim (cases_Bool (is_greater r.0 b)) [
      | inl t ↦ (r.0, ap (more (Some b)) r.1 ∙ rw t refl, r.2)
      | inr t ↦ (b, ap (more (Some b)) r.1 ∙ rw t refl, not_greater w r.0 b r.2 t)
    ]

-- of some costs, and of fewer costs with a saving savings great at no greater cost for each of them
pub same_greatest : (f : ℕ → Option Saving) (cs ds : List ℕ)
    → ((c : ℕ) (v : Saving) → f c ≡ Some v → v.cost ≡ c)
    → ((d : ℕ) → Has ds d → Has cs d)
    → ((c : ℕ) (v : Saving) → Has cs c → f c ≡ Some v
    → (d : ℕ) × (w : Saving) × Has ds d × (f d ≡ Some w) × (thousandths v ≤ thousandths w) × (w.cost ≤ v.cost))
    → greatest_saving (map f cs) ≡ greatest_saving (map f ds)
same_greatest f cs ds own sub covers = both (greatest_saving (map f cs)) (greatest_saving (map f ds)) refl refl
  where
    at : (es : List ℕ) (v : Saving) → greatest_saving (map f es) ≡ Some v → (e : ℕ) × Has es e × (f e ≡ Some v)
    at es v is = from_map f es (Some v) (greatest_has (map f es) v is)

    has : (es : List ℕ) (e : ℕ) (v : Saving) → Has es e → f e ≡ Some v → Has (map f es) (Some v)
    has es e v h is = subst (Has (map f es)) is (has_map f es e h)

    same : (u v w : Saving) → f u.cost ≡ Some u → f v.cost ≡ Some v → is_greater u v ≡ false → is_greater w u ≡ false
        → thousandths v ≤ thousandths w → w.cost ≤ v.cost → v ≡ u
    same u v w fu fv first next more_or_same no_dearer =
        let costs : v.cost ≡ u.cost = grind (arith, nat_tests) in
        let s : Some v ≡ Some u = sym fv ∙ (ap f costs ∙ fu) in
        (cc)

    both : (a b : Option Saving) → greatest_saving (map f cs) ≡ a → greatest_saving (map f ds) ≡ b
        → greatest_saving (map f cs) ≡ greatest_saving (map f ds)
    both None None e d = e ∙ sym d
    both None (Some u) e d =
        let w = at ds u d in
        let v = greatest_most (map f cs) u (has cs w.0 u (sub w.0 w.1) w.2) in
        absurd (let s : None ≡ Some v.0 = sym e ∙ v.1 in cc)
    both (Some v) None e d =
        let a = at cs v e in
        let w = covers a.0 v a.1 a.2 in
        let u = greatest_most (map f ds) w.1 (has ds w.0 w.1 w.2 w.3) in
        absurd (let s : None ≡ Some u.0 = sym d ∙ u.1 in cc)
    both (Some v) (Some u) e d =
        let a = at cs v e in
        let w = covers a.0 v a.1 a.2 in
        let g = greatest_most (map f ds) w.1 (has ds w.0 w.1 w.2 w.3) in
        let s : Some u ≡ Some g.0 = sym d ∙ g.1 in
        let gu : g.0 ≡ u = (cc) in
        let b = at ds u d in
        let h = greatest_most (map f cs) u (has cs b.0 u (sub b.0 b.1) b.2) in
        let t : Some v ≡ Some h.0 = sym e ∙ h.1 in
        let hv : h.0 ≡ v = (cc) in
        let fu : f u.cost ≡ Some u = ap f (own b.0 u b.2) ∙ b.2 in
        let fv : f v.cost ≡ Some v = ap f (own a.0 v a.2) ∙ a.2 in
        let first : is_greater u v ≡ false = subst (λ (z : Saving). is_greater u z ≡ false) hv h.2 in
        let next : is_greater w.1 u ≡ false = subst (λ (z : Saving). is_greater w.1 z ≡ false) gu g.2 in
        e ∙ (ap (λ (z : Saving). Some z) (same u v w.1 fu fv first next w.4 w.5) ∙ sym d)
