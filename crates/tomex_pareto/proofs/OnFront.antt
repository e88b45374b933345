-- A row is on the front, by its number, if and only if no row dominates it; rows that are made of other things, and
-- their numbers.
use Rattle.std.proofs.Common.{◌≡◌, ◌≢◌, ◌∙◌, ℕ, ◌==◌, inl, inr, ap, refl, sym, subst, Bool, true, false, List, [], ◌∷◌}
use Rattle.std.specs.Prelude.{map}
use Rattle.std.specs.List.{AllByRecursion, Contains, IsDistinct}
use Rattle.std.proofs.lemmas.Bool.{eq-eqb, eqb-true}
use Rattle.std.proofs.lemmas.Bool.Decides.{same_from_decides}
use Rattle.std.proofs.lemmas.List.{get_or-map, length-map}
use Rattle.std.proofs.lemmas.List.Folds.{Any-from_list_any, list_any-from_Any}
use Rattle.tomex_pareto.specs.declared.front_row.FrontRow.{FrontRow}
use Rattle.tomex_pareto.specs.Front.{front_of, is_on, is_undominated}
use Rattle.tomex_pareto.proofs.Pareto.{AreApart, Has, IsFree, all_has, contains_has, free_undominated, front_is}
use Rattle.tomex_pareto.proofs.Pareto.{has_contains, undominated_free}

-- rows with the same number are one
pub one_row : (rows : List FrontRow) (x y : FrontRow) → AreApart rows → Has rows x → Has rows y → x.row ≡ y.row → x ≡ y
one_row [] x y far hx hy e = absurd hx
one_row (z ∷ zs) x y far (inl i) (inl j) e = sym i ∙ j
one_row (z ∷ zs) x y far (inl i) (inr t) e =
    absurd (all_has (λ q. z.row ≢ q.row) zs y far.0 t (ap (λ (v : FrontRow). v.row) i ∙ e))
one_row (z ∷ zs) x y far (inr s) (inl j) e =
    absurd (all_has (λ q. z.row ≢ q.row) zs x far.0 s (ap (λ (v : FrontRow). v.row) j ∙ sym e))
one_row (z ∷ zs) x y far (inr s) (inr t) e = one_row zs x y far.1 s t e

pub number_has : (xs : List FrontRow) (n : ℕ) → is_on xs n ≡ true → (x : FrontRow) × Has xs x × (x.row ≡ n)
number_has xs n e =
    let w = Any-from_list_any (λ x. x.row == n) xs e in
    (w.1, contains_has xs w.0 w.1 w.2 w.3, eqb-true w.1.row n w.4)

pub has_number : (xs : List FrontRow) (x : FrontRow) → Has xs x → is_on xs x.row ≡ true
has_number xs x h =
    let c = has_contains xs x h in
    list_any-from_Any (λ y. y.row == x.row) xs (c.0, x, c.1, c.2, eq-eqb x.row x.row refl)

pub on_front : (rows : List FrontRow) (r : FrontRow) → AreApart rows → Has rows r
    → is_on (front_of rows) r.row ≡ is_undominated rows r
on_front rows r far one =
    let it = front_is rows far in
    same_from_decides {P = IsFree rows r} (is_on (front_of rows) r.row) (is_undominated rows r) (
      λ on. let w = number_has (front_of rows) r.row on in
          let o = it.only w.0 w.1 in
          subst (IsFree rows) (one_row rows w.0 r far o.0 one w.2) o.1,
      λ free. has_number (front_of rows) r (it.all r one free),
    ) (undominated_free rows r, free_undominated rows r)

-- rows that are made of other things

all_map : {X Y : Type 0} (P : Y → Type 0) (f : X → Y) (xs : List X)
    → AllByRecursion P (map f xs) ≡ AllByRecursion (λ x. P (f x)) xs
all_map P f [] = refl
all_map P f (x ∷ xs) = ap (λ (T : Type 0). P (f x) × T) (all_map P f xs)

-- they have numbers of their own exactly if those have
pub distinct_map : {X Y : Type 0} (e : Y → Y → Bool) (f : X → Y) (xs : List X)
    → IsDistinct e (map f xs) ≡ IsDistinct (λ a b. e (f a) (f b)) xs
unfolding IsDistinct
distinct_map e f [] = refl
distinct_map e f (x ∷ xs) =
    ap (λ (T : Type 0). T × IsDistinct e (map f xs)) (all_map (λ y. e (f x) y ≡ false) f xs)
    ∙ ap (λ (T : Type 0). AllByRecursion (λ y. e (f x) (f y) ≡ false) xs × T) (distinct_map e f xs)

pub contains_map : {X Y : Type 0} (f : X → Y) (xs : List X) (x : X) → Contains xs x → Contains (map f xs) (f x)
contains_map f xs x c = (c.0, rw (length-map xs f) c.1, get_or-map f xs c.0 x (f x) c.1 ∙ ap f c.2)
