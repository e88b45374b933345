-- All rivals: a row stays at exactly the values of its span, and so one of numbered rows is on the front.
use Rattle.std.proofs.Common.{◌≡◌, ◌∙◌, ℕ, suc, arith, ap, sym, refl, subst, Bool, true, false, not, ◌==◌, ◌&&◌, ◌||◌}
use Rattle.std.proofs.Common.{nat_le, nat_lt, List, [], ◌∷◌}
use Rattle.std.specs.Prelude.{map}
use Rattle.std.specs.List.{Contains, fold, list_any}
use Rattle.std.proofs.lemmas.Bool.Decides.{nat_tests}
use Rattle.tomex_pareto.specs.declared.front_row.FrontRow.{FrontRow}
use Rattle.tomex_pareto.specs.Front.{dominates, front_of, is_on, is_undominated}
use Rattle.tomex_pareto.specs.Pareto.{AreNumbered}
use Rattle.tomex_pareto.proofs.OnFront.{contains_map, distinct_map, on_front as on_front_of}
use Rattle.tomex_pareto.proofs.Pareto.{among, apart}
use Rattle.tomex_pareto.specs.declared.line_row.LineRow.{LineRow}
use Rattle.tomex_pareto.specs.declared.spans.ValueSpan.{ValueSpan}
use Rattle.tomex_pareto.specs.SpanLaws.{AreOnFrontWithin, HaveNumbers, StayEitherWay, StayWithin}
use Rattle.tomex_pareto.specs.Spans.{as_cost, as_cycles, holds, narrowed, on_front, stays, swapped}
use Rattle.tomex_pareto.proofs.OneRival.{and_true, narrows}
use Rattle.tomex_pareto.proofs.Swapped.{undominated_swapped}

one_more : (a b c : Bool) → ((a && not b) && not c) ≡ (a && not (b || c))
one_more false b c = refl
one_more true true c = refl
one_more true false c = refl

all_narrow : (q : ℕ) (r : LineRow) (rows : List LineRow) (s : ValueSpan)
    → holds (fold (narrowed r) s rows) q ≡ (holds s q && stays q rows r)
all_narrow q r [] s = sym (and_true (holds s q))
all_narrow q r (j ∷ js) s =
    all_narrow q r js (narrowed r s j)
    ∙ ap (λ (b : Bool). b && stays q js r) (narrows q r j s)
    ∙ one_more (holds s q) (dominates (as_cost q j) (as_cost q r))
    (list_any (λ x. dominates x (as_cost q r)) (map (as_cost q) js))

all_values : (least limit q : ℕ) (b : Bool) → ((nat_le least q && nat_lt q (suc limit)) && b)
    ≡ (nat_le least q && nat_le q limit && b)
all_values least limit q b = grind (arith, nat_tests)

pub stay_within : StayWithin
stay_within least limit q rows r =
    all_narrow q r rows (record { first = least; end = suc limit }) ∙ all_values least limit q (stays q rows r)

both_maps : (q : ℕ) (rows : List LineRow) → map (as_cycles q) rows ≡ map swapped (map (as_cost q) rows)
both_maps q [] = refl
both_maps q (r ∷ rs) = ap (λ (rows : List FrontRow). as_cycles q r ∷ rows) (both_maps q rs)

pub stay_either_way : StayEitherWay
stay_either_way q rows r =
    ap (λ (all : List FrontRow). is_undominated all (as_cycles q r)) (both_maps q rows)
    ∙ undominated_swapped (map (as_cost q) rows) (as_cost q r)

-- on the front

made_on : (made : LineRow → FrontRow) (rows : List LineRow) (r : LineRow) → AreNumbered (map made rows)
    → Contains rows r → is_on (front_of (map made rows)) (made r).row ≡ is_undominated (map made rows) (made r)
made_on made rows r numbered one = on_front_of (map made rows) (made r) (apart (map made rows) numbered)
    (among (map made rows) (made r) (contains_map made rows r one))

-- the rows at any value have their own numbers
pub numbered_at : (q : ℕ) (rows : List LineRow) → AreNumbered (map (as_cost q) rows) ≡ HaveNumbers rows
numbered_at q rows = distinct_map (λ (a b : FrontRow). a.row == b.row) (as_cost q) rows

pub on_front_stays : (q : ℕ) (rows : List LineRow) (r : LineRow) → HaveNumbers rows → Contains rows r
    → on_front q rows r.row ≡ stays q rows r
on_front_stays q rows r numbered one =
    made_on (as_cost q) rows r (subst (λ (T : Type 0). T) (sym (numbered_at q rows)) numbered) one

cycles_stay : (q : ℕ) (rows : List LineRow) (r : LineRow) → HaveNumbers rows → Contains rows r
    → is_on (front_of (map (as_cycles q) rows)) r.row ≡ stays q rows r
cycles_stay q rows r numbered one =
    let e = distinct_map (λ (a b : FrontRow). a.row == b.row) (as_cycles q) rows in
    made_on (as_cycles q) rows r (subst (λ (T : Type 0). T) (sym e) numbered) one ∙ stay_either_way q rows r

pub are_on_front_within : AreOnFrontWithin
are_on_front_within least limit q rows r numbered one =
    let within : Bool → Bool = λ b. nat_le least q && nat_le q limit && b in
    let it = stay_within least limit q rows r in
    record {
      cost = it ∙ ap within (sym (on_front_stays q rows r numbered one));
      cycles = it ∙ ap within (sym (cycles_stay q rows r numbered one));
    }
