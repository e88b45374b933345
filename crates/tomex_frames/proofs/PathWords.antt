-- The path's line changes exactly in the first cycles of links.
use Rattle.std.proofs.Common.{ℕ, ◌+◌, ◌<◌, ◌≡◌, ◌∙◌, ap, sym, arith, refl, inl, inr}
use Rattle.std.proofs.Common.{List, [], ◌∷◌, ◌++◌, append_assoc, Some, None, length, map}
use Rattle.std.specs.Prelude.{◌≢◌, ◌^◌, codes}
use Rattle.std.specs.Fmt.{decimal}
use Rattle.std.specs.Int.Digits.{digits_of}
use Rattle.std.proofs.lemmas.Bool.{eqb-false, eqb-true}
use Rattle.std.proofs.lemmas.Fmt.{decimal-digits_of, decimal_injective}
use Rattle.std.proofs.lemmas.List.Elements.{All-contains}
use Rattle.tomex_rvexec.specs.declared.step.Step.{Step}
use Rattle.tomex_timing.specs.Search.{history, times_in}
use Rattle.tomex_path.specs.declared.link.Link.{Link}
use Rattle.tomex_path.specs.Within.{IsWithin}
use Rattle.tomex_path.proofs.LinkBounds.{links_within}
use Rattle.tomex_path.proofs.Turned.{path_rises}
use Rattle.tomex_frames.specs.OnPath.{held_after, path_words, span_text}
use Rattle.tomex_frames.specs.PathLaws.{LineIsMarkedWhereItChanges, cycles_in, run_path}
use Rattle.tomex_frames.specs.declared.on_path.OnPath.{OnPath}
use Rattle.tomex_frames.proofs.Framed.{chain}
use Rattle.tomex_frames.proofs.AtCycle.{IsHere, IsNext, chain_at, chain_next}

head_same : {a b : ℕ} {xs ys : List ℕ} → a ∷ xs ≡ b ∷ ys → a ≡ b
head_same e = cc

tail_same : {a b : ℕ} {xs ys : List ℕ} → a ∷ xs ≡ b ∷ ys → xs ≡ ys
tail_same e = cc

rest_same : (xs ys zs : List ℕ) → xs ++ ys ≡ xs ++ zs → ys ≡ zs
rest_same [] ys zs e = e
rest_same (x ∷ xs) ys zs e = rest_same xs ys zs (tail_same e)

-- numbers that are followed by a space
digits_same : (m n r s : List ℕ) → map (λ d. 48 + d) m ++ (32 ∷ r) ≡ map (λ d. 48 + d) n ++ (32 ∷ s)
    → map (λ d. 48 + d) m ≡ map (λ d. 48 + d) n
digits_same [] [] r s e = refl
digits_same [] (y ∷ n) r s e = let f : 32 ≡ 48 + y = head_same e in absurd (omega (arith, f))
digits_same (x ∷ m) [] r s e = let f : 48 + x ≡ 32 = head_same e in absurd (omega (arith, f))
digits_same (x ∷ m) (y ∷ n) r s e =
    let f : 48 + x ≡ 48 + y = head_same e in
    let rest = digits_same m n r s (tail_same e) in
    rw (f, rest) refl

number_same : (m n : ℕ) (r s : List ℕ) → 0 < m → m < 2 ^ 64 → 0 < n → n < 2 ^ 64
    → decimal m ++ (codes " in " ++ r) ≡ decimal n ++ (codes " in " ++ s) → m ≡ n
number_same m n r s lm hm ln hn e =
    let dm = decimal-digits_of m lm hm in
    let dn = decimal-digits_of n ln hn in
    decimal_injective m n hm hn
    (dm ∙ (digits_same (digits_of 10 m) (digits_of 10 n) (codes "in " ++ r) (codes "in " ++ s) (rw (dm, dn) at e)
    ∙ sym dn))

-- lines of different steps differ
words_differ : (steps : List Step) (was now : OnPath) → 0 < was.link.step → was.link.step < now.link.step
    → now.link.step < 2 ^ 64 → path_words steps now ≢ path_words steps was
unfolding path_words
words_differ steps was now low rises high e =
    let tail : OnPath → List ℕ = λ p. span_text p.link ++ codes ", " in
    let held : OnPath → List ℕ = λ p. held_after steps p.link.reason p.before in
    let flat : (p : OnPath) → path_words steps p
    ≡ codes "On the path: " ++ (decimal p.link.step ++ (codes " in " ++ (tail p ++ held p))) =
    λ p. append_assoc (codes "On the path: ") (decimal p.link.step ++ (codes " in " ++ tail p)) (held p)
    ∙ ap (λ (z : List ℕ). codes "On the path: " ++ z)
    (append_assoc (decimal p.link.step) (codes " in " ++ tail p) (held p)
    ∙ ap (λ (z : List ℕ). decimal p.link.step ++ z) (append_assoc (codes " in ") (tail p) (held p))) in
    let rest = rest_same (codes "On the path: ") _ _ (sym (flat now) ∙ (e ∙ flat was)) in
    let step : now.link.step ≡ was.link.step = number_same now.link.step was.link.step (tail now ++ held now)
    (tail was ++ held was) (omega arith) high low (omega arith) rest in
    absurd (omega (arith, step))

same_place : {a b : OnPath} → Some a ≡ Some b → a ≡ b
same_place e = cc

pub line_is_marked_where_it_changes : LineIsMarkedWhereItChanges
line_is_marked_where_it_changes config steps t before now good few low high was_is now_is =
    let path : List Link = run_path config steps in
    let total : ℕ = cycles_in config steps in
    let next : IsNext None path t = chain_next None path 1 total t 0 (chain config steps good)
    (path_rises config (history config steps)) low high in
    let was : next.was ≡ before = same_place (sym next.was_is ∙ was_is) in
    let is : next.now ≡ now = same_place (sym next.now_is ∙ now_is) in
    elim next.which [
      | inl same ↦ (
        (λ old. ap (path_words steps) (sym is ∙ (same.0 ∙ was))),
        (λ new. let f : now.link.from ≡ t + 1 = eqb-true now.link.from (t + 1) new in
            absurd (omega (arith, f, same.1, ap (λ (p : OnPath). p.link.from) is))),
      )
      | inr other ↦ (
        (λ old. absurd (eqb-false now.link.from (t + 1) old
            (sym (ap (λ (p : OnPath). p.link.from) is) ∙ other.0))),
        (λ new. differ next.was next.now was is other.1),
      )
    ]
  where
    differ : (a b : OnPath) → a ≡ before → b ≡ now → a.link.step < b.link.step
        → path_words steps now ≢ path_words steps before
    differ a b was is rises =
        let path : List Link = run_path config steps in
        let total : ℕ = cycles_in config steps in
        let here : IsHere None path (t + 1) =
        chain_at None path 1 total (t + 1) (chain config steps good) (omega arith) (omega arith) in
        let there : IsHere None path t = chain_at None path 1 total t (chain config steps good) low (omega arith) in
        let within = links_within config steps (times_in config steps) path good refl refl in
        let last : IsWithin (length steps) total here.place.link =
        All-contains (IsWithin (length steps) total) path here.place.link within here.on_path in
        let first : IsWithin (length steps) total there.place.link =
        All-contains (IsWithin (length steps) total) path there.place.link within there.on_path in
        let x : here.place ≡ now = same_place (sym here.is ∙ now_is) in
        let y : there.place ≡ before = same_place (sym there.is ∙ was_is) in
        words_differ steps before now
        (omega (arith, first.first, ap (λ (p : OnPath). p.link.step) y))
        (omega (arith, rises, ap (λ (p : OnPath). p.link.step) was, ap (λ (p : OnPath). p.link.step) is))
        (omega (arith, last.last, few, ap (λ (p : OnPath). p.link.step) x))
