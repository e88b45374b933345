-- Visits as they begin and end: one ends only after all that began within it, if the innermost one always ends first.
use Rattle.std.proofs.Common.{ℕ, ◌+◌, ◌<◌, ◌≤◌, ◌≡◌, ◌≢◌, ◌∙◌, refl, sym, ap, subst, arith}
use Rattle.std.proofs.Common.{true, List, [], ◌∷◌, ◌++◌, length, get_or, set, Option, Some, None}
use Rattle.std.proofs.Common.{inl, inr, ⊎_elim, ◌⊎◌}
use Rattle.std.specs.Prelude.{IfSome, MatchOption, is_some}
use Rattle.std.specs.List.{All}
use Rattle.std.specs.Option.{option_map}
use Rattle.std.proofs.lemmas.Bool.{cases_eq, cases_lt}
use Rattle.std.proofs.lemmas.List.{get_or_append_left, get_or_push, get_or-set_other, get_or-set_same}
use Rattle.std.proofs.lemmas.List.{length_push}
use Rattle.std.proofs.lemmas.List.Elements.{All-cons, All-weaker}
use Rattle.std.proofs.lemmas.Option.{IfSome_then, MatchOption-from_none}
use Rattle.tomex_loops.specs.declared.visit.Open.{Open}
use Rattle.tomex_loops.specs.declared.visit.Visit.{Visit}
use Rattle.tomex_loops.specs.Calls.{first_of}
use Rattle.tomex_loops.specs.Nest.{AreInOrder, AreOfInnerLoops, LiesIn}
use Rattle.tomex_loops.specs.Sound.{AreEnds}

-- These visits are over.
abbrev pub AreOver : List (Option ℕ) → (low high : ℕ) → Type 0
AreOver ends low high = (u : ℕ) → low ≤ u → u < high → is_some (get_or ends u None) ≡ true

-- Of this many visits one is under way, and all that began after it are over.
pub record IsInnermost (ends : List (Option ℕ)) (many v : ℕ) : Type 0 where
  pub low : v < many
  pub going : get_or ends v None ≡ None
  pub over : AreOver ends (v + 1) many

-- Of this many visits these are under way, the one that began last first, and all others are over.
abbrev pub AreGoing : List (Option ℕ) → ℕ → List Open → Type 0
AreGoing ends many [] = AreOver ends 0 many
AreGoing ends many (v ∷ opens) = IsInnermost ends many v.visit × AreGoing ends v.visit opens

going_same : (one two : List (Option ℕ)) (many : ℕ) (opens : List Open)
    → ((u : ℕ) → u < many → get_or one u None ≡ get_or two u None) → AreGoing one many opens → AreGoing two many opens
going_same one two many [] same are =
    λ u low high. subst (λ (o : Option ℕ). is_some o ≡ true) (same u high) (are u low high)
going_same one two many (v ∷ opens) same are =
    let top : IsInnermost one many v.visit = are.0 in (
      record {
        low = top.low;
        going = sym (same v.visit top.low) ∙ top.going;
        over = λ u low high. subst (λ (o : Option ℕ). is_some o ≡ true) (same u high) (top.over u low high);
      },
      going_same one two v.visit opens (λ u h. same u (omega (arith, h, top.low))) are.1,
    )

-- all from one number on are over
over_more : (ends : List (Option ℕ)) (low many : ℕ) (opens : List Open) → low ≤ many → AreOver ends low many
    → AreGoing ends low opens → AreGoing ends many opens
over_more ends low many [] le over are = λ u a b. ⊎_elim
    (λ (h : u < low). are u a h)
    (λ (h : low ≤ u). over u h b)
    (cases_lt u low)
over_more ends low many (v ∷ opens) le over are =
    let top : IsInnermost ends low v.visit = are.0 in (
      record {
        low = omega (arith, top.low, le);
        going = top.going;
        over = λ u a b. ⊎_elim
            (λ (h : u < low). top.over u a h)
            (λ (h : low ≤ u). over u h b)
            (cases_lt u low);
      },
      are.1,
    )

-- the innermost one ends
pub going_set : (ends : List (Option ℕ)) (many now : ℕ) (v : Open) (opens : List Open) → many ≡ length ends
    → AreGoing ends many (v ∷ opens) → AreGoing (set ends v.visit (Some now)) many opens
going_set ends many now v opens same are =
    let top : IsInnermost ends many v.visit = are.0 in
    over_more (set ends v.visit (Some now)) v.visit many opens (omega (arith, top.low))
    (λ u a b. ⊎_elim
    (λ (e : u ≡ v.visit). subst (λ (o : Option ℕ). is_some o ≡ true)
    (sym (ap (λ (k : ℕ). get_or (set ends v.visit (Some now)) k None) e
    ∙ get_or-set_same ends v.visit (Some now) None (omega (arith, top.low, same)))) refl)
    (λ (ne : u ≢ v.visit). subst (λ (o : Option ℕ). is_some o ≡ true)
    (sym (get_or-set_other ends v.visit u (Some now) None ne)) (top.over u (omega (arith, a, ne)) b))
    (cases_eq u v.visit))
    (going_same ends (set ends v.visit (Some now)) v.visit opens
    (λ u h. sym (get_or-set_other ends v.visit u (Some now) None (λ e. omega (arith, h, e)))) are.1)

-- one more begins
pub going_push : (ends : List (Option ℕ)) (many more : ℕ) (v : Open) (opens : List Open) → many ≡ length ends
    → v.visit ≡ many → more ≡ many + 1 → AreGoing ends many opens → AreGoing (ends ++ None ∷ []) more (v ∷ opens)
going_push ends many more v opens same at is are = (
  record {
    low = omega (arith, at, is);
    going = get_or_push ends None None v.visit (omega (arith, at, same));
    over = λ u a b. absurd (omega (arith, at, is, a, b));
  },
  going_same ends (ends ++ None ∷ []) v.visit opens
      (λ u h. sym (get_or_append_left ends (None ∷ []) None u (omega (arith, h, at, same))))
      (subst (λ (k : ℕ). AreGoing ends k opens) (sym at) are),
)

-- the innermost of some that are under way
pub going_first : (ends : List (Option ℕ)) (many : ℕ) (opens rest : List Open) → AreGoing ends many (opens ++ rest)
    → IfSome (option_map (λ (v : Open). v.visit) (first_of opens)) (λ u. (u < many) × (get_or ends u None ≡ None))
going_first ends many [] rest are = tt
going_first ends many (v ∷ opens) rest are =
    let top : IsInnermost ends many v.visit = are.0 in (top.low, top.going)

-- an end, at a step or before it
abbrev pub EndsBy : ℕ → Option ℕ → Type 0
EndsBy a end = MatchOption end ⊥ (λ b. b ≤ a)

-- If the first visit is over, its end is as it may be for the other one, or that one is over as early.
abbrev pub Lies : (ℕ → Type 0) → List (Option ℕ) → ℕ → ℕ → Type 0
Lies Free ends u w = IfSome (get_or ends u None) (λ a. Free a ⊎ EndsBy a (get_or ends w None))

over_by : (now : ℕ) (end : Option ℕ) (first : ℕ) → is_some end ≡ true
    → IfSome end (λ e. (first ≤ e) × (e ≤ now)) → EndsBy now end
over_by now None first is low = absurd (cc is)
over_by now (Some e) first is low = low.1

lies_none : (Free : ℕ → Type 0) (ends : List (Option ℕ)) (u w : ℕ) → get_or ends u None ≡ None → Lies Free ends u w
lies_none Free ends u w is =
    MatchOption-from_none (get_or ends u None) (λ a. Free a ⊎ EndsBy a (get_or ends w None)) is

-- by the same ends
lies_same : (Free : ℕ → Type 0) (one two : List (Option ℕ)) (u w : ℕ) → get_or one u None ≡ get_or two u None
    → get_or one w None ≡ get_or two w None → Lies Free one u w → Lies Free two u w
lies_same Free one two u w a b lies = subst (λ (o : Option ℕ). IfSome o (λ a. Free a ⊎ EndsBy a (get_or two w None))) a
    (subst (λ (o : Option ℕ). IfSome (get_or one u None) (λ a. Free a ⊎ EndsBy a o)) b lies)

-- the innermost one ends now
pub lies_set : (Free : ℕ → Type 0) (ends : List (Option ℕ)) (many x now u w first : ℕ) → IsInnermost ends many x
    → many ≡ length ends → IfSome (get_or ends w None) (λ e. (first ≤ e) × (e ≤ now)) → u < w → w < many
    → Lies Free ends u w → Lies Free (set ends x (Some now)) u w
lies_set Free ends many x now u w first top same by order low lies = ⊎_elim
    (λ (e : u ≡ x).
    let at : get_or (set ends x (Some now)) u None ≡ Some now =
    ap (λ (k : ℕ). get_or (set ends x (Some now)) k None) e
    ∙ get_or-set_same ends x (Some now) None (omega (arith, top.low, same)) in
    let there : get_or (set ends x (Some now)) w None ≡ get_or ends w None =
    get_or-set_other ends x w (Some now) None (λ o. omega (arith, o, e, order)) in
    let over : EndsBy now (get_or ends w None) =
    over_by now (get_or ends w None) first (top.over w (omega (arith, e, order)) low) by in
    subst (λ (o : Option ℕ). IfSome o (λ a. Free a ⊎ EndsBy a (get_or (set ends x (Some now)) w None))) (sym at)
    (inr (subst (λ (o : Option ℕ). EndsBy now o) (sym there) over)))
    (λ (ne : u ≢ x).
    let there : get_or ends u None ≡ get_or (set ends x (Some now)) u None =
    sym (get_or-set_other ends x u (Some now) None ne) in
    ⊎_elim
    (λ (e : w ≡ x).
    let none : get_or ends w None ≡ None = ap (λ (k : ℕ). get_or ends k None) e ∙ top.going in
    subst (λ (o : Option ℕ). IfSome o (λ a. Free a ⊎ EndsBy a (get_or (set ends x (Some now)) w None))) there
    (IfSome_then (get_or ends u None) lies (λ a either. ⊎_elim
    (λ (free : Free a). inl free)
    (λ (by : EndsBy a (get_or ends w None)). absurd (subst (λ (o : Option ℕ). EndsBy a o) none by))
    either)))
    (λ (other : w ≢ x). lies_same Free ends (set ends x (Some now)) u w there
    (sym (get_or-set_other ends x w (Some now) None other)) lies)
    (cases_eq w x))
    (cases_eq u x)

lies_push : (Free : ℕ → Type 0) (ends : List (Option ℕ)) (u w : ℕ) → u < w → w < length ends → Lies Free ends u w
    → Lies Free (ends ++ None ∷ []) u w
lies_push Free ends u w order low lies = lies_same Free ends (ends ++ None ∷ []) u w
    (sym (get_or_append_left ends (None ∷ []) None u (omega (arith, order, low))))
    (sym (get_or_append_left ends (None ∷ []) None w low)) lies

-- The later of two visits begins when the earlier one is over, or is over as early.
abbrev pub ArePairs : List Visit → List (Option ℕ) → Type 0
ArePairs visits ends = (v w : ℕ) (z : Visit) → v < w → w < length visits
    → Lies (λ a. a ≤ (get_or visits w z).first) ends v w

-- A visit is over as early as one around it.
abbrev pub LieIn : (Visit → Option ℕ) → List Visit → List (Option ℕ) → Type 0
LieIn outer visits ends = (w : ℕ) (z : Visit) → w < length visits
    → IfSome (outer (get_or visits w z)) (λ u. (u < w) × Lies (λ a. ⊥) ends u w)

pub lie_set : (outer : Visit → Option ℕ) (visits : List Visit) (ends : List (Option ℕ)) (x now : ℕ)
    → IsInnermost ends (length visits) x → length ends ≡ length visits → AreEnds now visits ends
    → LieIn outer visits ends → LieIn outer visits (set ends x (Some now))
lie_set outer visits ends x now top many are lie w z h = IfSome_then (outer (get_or visits w z)) (lie w z h)
    (λ u p. (
      p.0,
      lies_set (λ a. ⊥) ends (length visits) x now u w (get_or visits w z).first top (sym many) (are w z h) p.0 h p.1,
    ))

pub lie_push : (outer : Visit → Option ℕ) (visits : List Visit) (ends : List (Option ℕ)) (y : Visit)
    → length ends ≡ length visits
    → IfSome (outer y) (λ u. (u < length visits) × (get_or ends u None ≡ None))
    → LieIn outer visits ends → LieIn outer (visits ++ y ∷ []) (ends ++ None ∷ [])
lie_push outer visits ends y many first lie w z h = ⊎_elim
    (λ (old : w < length visits).
    subst (λ (v : Visit). IfSome (outer v) (λ u. (u < w) × Lies (λ a. ⊥) (ends ++ None ∷ []) u w))
    (sym (get_or_append_left visits (y ∷ []) z w old))
    (IfSome_then (outer (get_or visits w z)) (lie w z old)
    (λ u p. (p.0, lies_push (λ a. ⊥) ends u w p.0 (omega (arith, old, many)) p.1))))
    (λ (new : length visits ≤ w).
    let at : length visits ≡ w = omega (arith, new, h, length_push visits y) in
    subst (λ (v : Visit). IfSome (outer v) (λ u. (u < w) × Lies (λ a. ⊥) (ends ++ None ∷ []) u w))
    (sym (get_or_push visits y z w at))
    (IfSome_then (outer y) first (λ u p. (
      omega (arith, p.0, at),
      lies_none (λ a. ⊥) (ends ++ None ∷ []) u w
          (get_or_append_left ends (None ∷ []) None u (omega (arith, p.0, many)) ∙ p.1),
    ))))
    (cases_lt w (length visits))

-- A visit under way is one of those that have begun, and of the same loop.
abbrev pub HasHead : List Visit → Open → Type 0
HasHead visits v = (v.visit < length visits) × ((z : Visit) → (get_or visits v.visit z).head ≡ v.head)

pub heads_push : (visits : List Visit) (y : Visit) (v : Open) (opens : List Open) → v.visit ≡ length visits
    → v.head ≡ y.head → All (HasHead visits) opens → All (HasHead (visits ++ y ∷ [])) (v ∷ opens)
heads_push visits y v opens number head are =
    let many = length_push visits y in
    All-cons (HasHead (visits ++ y ∷ [])) v opens (
      omega (arith, number, many),
      λ z. ap (λ (u : Visit). u.head) (get_or_push visits y z v.visit (sym number)) ∙ sym head,
    )
    (All-weaker (HasHead visits) (HasHead (visits ++ y ∷ [])) (λ u p. (
      omega (arith, p.0, many),
      λ z. ap (λ (t : Visit). t.head) (get_or_append_left visits (y ∷ []) z u.visit p.0) ∙ p.1 z,
    )) opens are)

pub order_push : (now : ℕ) (visits : List Visit) (y : Visit) → All (λ (v : Visit). v.first < now) visits → y.first ≡ now
    → AreInOrder visits → AreInOrder (visits ++ y ∷ [])
order_push now visits y before at are v w z order low =
    let many = length_push visits y in
    let one : (get_or (visits ++ y ∷ []) v z).first ≡ (get_or visits v z).first =
    ap (λ (u : Visit). u.first) (get_or_append_left visits (y ∷ []) z v (omega (arith, many, order, low))) in
    ⊎_elim
    (λ (old : w < length visits).
    let two : (get_or (visits ++ y ∷ []) w z).first ≡ (get_or visits w z).first =
    ap (λ (u : Visit). u.first) (get_or_append_left visits (y ∷ []) z w old) in
    omega (arith, one, two, are v w z order old))
    (λ (new : length visits ≤ w).
    let two : (get_or (visits ++ y ∷ []) w z).first ≡ y.first =
    ap (λ (u : Visit). u.first) (get_or_push visits y z w (omega (arith, new, low, many))) in
    let early : (get_or visits v z).first < now = before v z (omega (arith, many, order, low)) in
    omega (arith, one, two, at, early))
    (cases_lt w (length visits))

pub pairs_push : (now : ℕ) (visits : List Visit) (ends : List (Option ℕ)) (y : Visit) → length ends ≡ length visits
    → AreEnds now visits ends → y.first ≡ now → ArePairs visits ends → ArePairs (visits ++ y ∷ []) (ends ++ None ∷ [])
pairs_push now visits ends y same by at are v w z order low =
    let many = length_push visits y in
    ⊎_elim
    (λ (old : w < length visits).
    subst (λ (u : Visit). Lies (λ a. a ≤ u.first) (ends ++ None ∷ []) v w)
    (sym (get_or_append_left visits (y ∷ []) z w old))
    (lies_push (λ a. a ≤ (get_or visits w z).first) ends v w order (omega (arith, old, same)) (are v w z order old)))
    (λ (new : length visits ≤ w).
    let early : v < length visits = omega (arith, many, order, low) in
    subst (λ (u : Visit). Lies (λ a. a ≤ u.first) (ends ++ None ∷ []) v w)
    (sym (get_or_push visits y z w (omega (arith, new, low, many))))
    (subst (λ (o : Option ℕ). IfSome o (λ a. (a ≤ y.first) ⊎ EndsBy a (get_or (ends ++ None ∷ []) w None)))
    (sym (get_or_append_left ends (None ∷ []) None v (omega (arith, early, same))))
    (IfSome_then (get_or ends v None) (by v z early) (λ a p. inl (omega (arith, p.1, at))))))
    (cases_lt w (length visits))

pub if_both : (P Q : ℕ → Type 0) (o : Option ℕ) → IfSome o P → IfSome o Q → IfSome o (λ u. P u × Q u)
if_both P Q None p q = tt
if_both P Q (Some u) p q = (p, q)

pub inner_push : (loop : ℕ → Option ℕ) (visits : List Visit) (ends : List (Option ℕ)) (y : Visit)
    → LieIn (λ v. v.within) visits ends
    → IfSome y.within (λ u. (u < length visits) × ((z : Visit) → LiesIn loop y.head (get_or visits u z).head))
    → AreOfInnerLoops loop visits → AreOfInnerLoops loop (visits ++ y ∷ [])
inner_push loop visits ends y within inner are w z low =
    ⊎_elim
    (λ (old : w < length visits).
    subst (λ (v : Visit). IfSome v.within (λ u. LiesIn loop v.head (get_or (visits ++ y ∷ []) u z).head))
    (sym (get_or_append_left visits (y ∷ []) z w old))
    (IfSome_then (get_or visits w z).within (if_both _ _ (get_or visits w z).within (within w z old) (are w z old))
    (λ u p. subst (λ (v : Visit). LiesIn loop (get_or visits w z).head v.head)
    (sym (get_or_append_left visits (y ∷ []) z u (omega (arith, p.0.0, old)))) p.1)))
    (λ (new : length visits ≤ w).
    subst (λ (v : Visit). IfSome v.within (λ u. LiesIn loop v.head (get_or (visits ++ y ∷ []) u z).head))
    (sym (get_or_push visits y z w (omega (arith, new, low, length_push visits y))))
    (IfSome_then y.within inner
    (λ u p. subst (λ (v : Visit). LiesIn loop y.head v.head)
    (sym (get_or_append_left visits (y ∷ []) z u p.0)) (p.1 z))))
    (cases_lt w (length visits))
