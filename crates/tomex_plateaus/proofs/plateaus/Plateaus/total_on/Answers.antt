-- Each plateau on which the configuration lies has the program's total.
use Rattle.std.proofs.Common.{◌≡◌, ◌<◌, ◌∙◌, ap, arith, false, get_or, refl, subst, sym, All, Some, ℕ, length, List}
use Rattle.std.proofs.lemmas.Option.{slice_get_read, slice_get_within}
use Rattle.tomex_config.specs.Configuration.{Configuration, IsWithinLimits}
use Rattle.tomex_timing.specs.Search.{times_in, total_of}
use Rattle.tomex_plateaus.specs.declared.plateau.Plateau.{Plateau}
use Rattle.tomex_plateaus.specs.Kept.{AreKept, Kept, LiesAt}
use Rattle.tomex_plateaus.specs.Plateaus.{fits, numbers_of, total_known}
use Rattle.tomex_plateaus.proofs.Finding.{known_at, unknown}
use Rattle.tomex_plateaus.proofs.plateaus.Plateaus.total_on.Goals as goal

pub returns-in_err-place-clause-known : goal.returns-in_err-place-clause-known
returns-in_err-place-clause-known g c =
    c.from_residual.ensures
    ∙ sym
    (unknown c.args.config.now c.args.self.now.found
    (subst (λ (numbers : List ℕ). All (λ p. fits numbers p ≡ false) c.args.self.now.found) c.numbers_of.ensures
    (c.place_of.ensures.none c.in_err-place.was)))

pub index-requires : goal.index-requires
index-requires g c =
    let lies = c.in_ok-place.ensures.some in
    let low : c.in_ok-place.place < length c.args.self.now.found =
    slice_get_within c.args.self.now.found c.in_ok-place.place lies.plateau lies.at in
    let same : length c.self.inside.found.items ≡ length c.args.self.now.found =
    ap (λ (k : Kept). length k.found) c.self.view_is in
    omega (arith, low, same)

known : (k : Kept) (items : List Plateau) (config : Configuration) (numbers : List ℕ) (place : ℕ) (p : Plateau)
    → IsWithinLimits config → AreKept k → items ≡ k.found → numbers ≡ numbers_of config → LiesAt numbers k.found place
    → p ≡ get_or items place p
    → (Some p.total ≡ total_known config k.found) × (total_of (times_in config k.steps) ≡ p.total)
known k items config numbers place p good kept same are lies is =
    let low : place < length k.found = slice_get_within k.found place lies.plateau lies.at in
    known_at config k place p good kept (subst (λ (ns : List ℕ). LiesAt ns k.found place) are lies)
    (slice_get_read k.found _ place p refl low (rw same at is))

pub returns-clause-known : goal.returns-clause-known
returns-clause-known g c =
    (known c.args.self.now c.self.inside.found.items c.args.config.now c.numbers_of.result c.in_ok-place.place
    c.index.result.now c.keeps_limits.ensures c.place_of.ensures.kept (ap (λ (k : Kept). k.found) c.self.view_is)
    c.numbers_of.ensures c.in_ok-place.ensures.some c.index.ensures).0

pub returns-clause-total : goal.returns-clause-total
returns-clause-total g c =
    (known c.args.self.now c.self.inside.found.items c.args.config.now c.numbers_of.result c.in_ok-place.place
    c.index.result.now c.keeps_limits.ensures c.place_of.ensures.kept (ap (λ (k : Kept). k.found) c.self.view_is)
    c.numbers_of.ensures c.in_ok-place.ensures.some c.index.ensures).1
