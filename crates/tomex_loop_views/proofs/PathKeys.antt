-- The cycles of a path's links by key: they fit, and add up.
use Rattle.std.proofs.Common.{ℕ, ◌^◌, ◌<◌, ◌≤◌, ◌≡◌, ◌∙◌, arith, refl, sym, inl, inr}
use Rattle.std.proofs.Common.{List, [], ◌∷◌, Option, None, ◌-◌, map, sum, get_or, suc, zero}
use Rattle.std.specs.Prelude.{All, IfSome, slice_index_or, sum_by}
use Rattle.std.proofs.lemmas.Bool.{cases_Bool}
use Rattle.std.proofs.lemmas.List.{length-map}
use Rattle.std.proofs.lemmas.List.Elements.{All-cons, All-weaker}
use Rattle.std.proofs.lemmas.List.Sums.{sum-map, sum_by-cons, sum_by-le}
use Rattle.tomex_path.specs.declared.link.Link.{Link}
use Rattle.tomex_path.specs.declared.reason.Reason.{Reason}
use Rattle.tomex_path.specs.Laws.{all_reasons, cycles_of, had_for, is_reason}
use Rattle.tomex_path.proofs.Reasons.{reasons_add_up}
use Rattle.tomex_path_views.specs.Shares.{AreShort, IsShort, share_of}
use Rattle.tomex_path_views.specs.ByReason.{links_with}
use Rattle.tomex_stretches.proofs.Keyed.{keys_add_up}
use Rattle.tomex_loop_views.specs.PathCycles.{PathCyclesAddUp, cycles_for, key_of_link}

pub short_one : (l : Link) → IsShort l → AreShort (l ∷ [])
short_one l is = record {
  few = omega arith;
  all = λ i d m. at i d m;
}
  where
    at : (i : ℕ) (d : Link) → i < 1 → IsShort (get_or (l ∷ []) i d)
    at zero d m = is
    at (suc i) d m = absurd (omega arith)

pub share_one : (reason : Reason) (l : Link)
    → (share_of (links_with reason (l ∷ []))).cycles ≡ had_for reason cycles_of l
share_one reason l = elim (cases_Bool (is_reason reason l.reason)) [
  | inl e ↦ rw e (omega arith)
  | inr e ↦ rw e refl
]

had_few : (reason : Reason) (l : Link) → IsShort l → had_for reason cycles_of l ≤ 2 ^ 36
had_few reason l s = elim (cases_Bool (is_reason reason l.reason)) [
  | inl e ↦ rw e (omega (arith, s.to, s.from))
  | inr e ↦ rw e (omega arith)
]

pub cycles_fit : (reason : Reason) (links : List Link) → AreShort links → sum (cycles_for reason links) < 2 ^ 64
cycles_fit reason links short =
    let few = sum_by-le (had_for reason cycles_of) (2 ^ 36) links
    (All-weaker IsShort (λ (l : Link). had_for reason cycles_of l ≤ 2 ^ 36) (had_few reason) links short.all) in
    let same = sum-map (had_for reason cycles_of) links in
    omega (arith, few, same, short.few)

-- a link's key is a step's, or none
key_low : (count : ℕ) (keys : List (Option ℕ)) (i : ℕ) → All (λ key. IfSome key (λ n. n < count)) keys
    → IfSome (slice_index_or keys i None) (λ n. n < count)
key_low count [] i all = tt
key_low count (k ∷ keys) zero all = all 0 k (omega arith)
key_low count (k ∷ keys) (suc i) all = key_low count keys i (λ j d l. all (suc j) d (omega (arith, l)))

pub keys_low : (count : ℕ) (keys : List (Option ℕ)) (links : List Link)
    → All (λ key. IfSome key (λ n. n < count)) keys
    → All (λ key. IfSome key (λ n. n < count)) (map (key_of_link keys) links)
keys_low count keys [] all = λ i d l. absurd (omega arith)
keys_low count keys (x ∷ links) all =
    All-cons (λ (key : Option ℕ). IfSome key (λ n. n < count)) (key_of_link keys x) (map (key_of_link keys) links)
    (key_low count keys (x.step - 1) all) (keys_low count keys links all)

same_sums : (f g : Reason → ℕ) (reasons : List Reason) → ((r : Reason) → f r ≡ g r)
    → sum_by f reasons ≡ sum_by g reasons
same_sums f g [] same = refl
same_sums f g (r ∷ reasons) same =
    let rest = same_sums f g reasons same in
    let here = same r in
    sum_by-cons f r reasons ∙ omega (arith, rest, here) ∙ sym (sum_by-cons g r reasons)

pub path_cycles_add_up : PathCyclesAddUp
path_cycles_add_up count keys links all =
    same_sums _ (λ reason. sum_by (had_for reason cycles_of) links) all_reasons (λ reason.
    keys_add_up count (map (key_of_link keys) links) (cycles_for reason links)
    (length-map links (key_of_link keys) ∙ sym (length-map links (had_for reason cycles_of)))
    (keys_low count keys links all)
    ∙ sum-map (had_for reason cycles_of) links)
    ∙ reasons_add_up cycles_of links
