-- One link more is counted.
use Rattle.std.proofs.lemmas.Grind.{common_steps}
use Rattle.std.proofs.Common.{◌≡◌, ◌∙◌, ap, arith, sym, subst, refl, get_or, length, map, ℕ, ◌+◌, ◌-◌, ◌<◌, ◌≤◌, List}
use Rattle.std.proofs.Common.{◌++◌, ◌∷◌, [], take}
use Rattle.std.specs.Prelude.{All}
use Rattle.std.proofs.lemmas.List.{get_or_default, length-take}
use Rattle.std.proofs.lemmas.List.Elements.{All-take}
use Rattle.std.proofs.lemmas.Option.{slice_get_read}
use Rattle.tomex_rvexec.specs.declared.step.Step.{Step}
use Rattle.tomex_timing.specs.declared.need.Waits.{Waits}
use Rattle.tomex_path.specs.declared.link.Link.{Link}
use Rattle.tomex_path.specs.Laws.{cycles_of}
use Rattle.tomex_path_views.specs.Charges.{charged, visit_of, visits_along}
use Rattle.tomex_path_views.specs.Shares.{IsShort}
use Rattle.tomex_path_views.proofs.Visits.{visits_few, visits_more, visits_small}
use Rattle.tomex_run_views.specs.ByPlace.{Visit}
use Rattle.tomex_run_views.specs.Tally.{IsTally, visit}
use Rattle.tomex_run_views.specs.declared.tally.Tally.{Tally}
use Rattle.tomex_run_views.proofs.Tallies.{key_there}
use Rattle.tomex_path_views.proofs.charges.count_links.Goals as goal

few : (steps : List Step) (path : List Link) (i : ℕ) → i < length path → length path ≤ 262144
    → length (visits_along steps (take i path)) < 262144
few steps path i within bound =
    omega (arith, within, bound, visits_few steps (take i path), length-take i path)

pub loop-link-init : goal.loop-link-init
loop-link-init g c = λ key are. c.new-tally.ensures key

pub add-requires-clause-room : goal.add-requires-clause-room
add-requires-clause-room g c =
    let i = c.loop-link.link-index in
    record {
      key = c.requires.keys.0;
      visits = visits_along c.args.steps.now (take i c.args.path.now);
      counted = c.loop-link.invariant c.requires.keys.0 c.requires.keys.1;
      few = few c.args.steps.now c.args.path.now i c.loop-link-test.true c.requires.short.few;
      small = visits_small c.args.steps.now (take i c.args.path.now)
          (All-take IsShort i c.args.path.now c.requires.short.all);
    }

-- the visit that was counted is the link's
same_visit : (s : Step) (l : Link) {n : ℕ} {w : Waits} → n ≡ (visit_of l s).cycles → w ≡ charged n l.reason
    → visit s n w ≡ visit_of l s
same_visit s l is charges = rw (charges, is) refl

module _ (steps : List Step) (path : List Link) (i : ℕ) (within : i < length path) (short : All IsShort path)
    (of : All (λ l. l.step ≤ length steps) path) (d : Link) (s : Step)
    (is : s ≡ get_or steps ((get_or path i d).step - 1) s) where
  place_in : (get_or path i d).step - 1 < length steps
  place_in = omega (arith, (short i d within).first, of i d within)

  key_is : (key : Step → ℕ) (keys : List ℕ) → keys ≡ map key steps → get_or keys ((get_or path i d).step - 1) 0 ≡ key s
  key_is key keys are = key_there key keys steps ((get_or path i d).step - 1) s are place_in is

  grown : {A : Type 0} (key : Step → ℕ) {n : ℕ} {w : Waits} {new : Tally A} → n ≡ cycles_of (get_or path i d)
      → w ≡ charged n (get_or path i d).reason
      → IsTally key (visits_along steps (take i path) ++ visit s n w ∷ []) new
      → IsTally key (visits_along steps (take (i + 1) path)) new
  grown key {new = new} took charges counted =
      subst (λ (vs : List Visit). IsTally key vs new)
      (ap (λ (v : Visit). visits_along steps (take i path) ++ v ∷ []) (same_visit s (get_or path i d) took charges)
      ∙ sym (visits_more steps path i (get_or path i d) s within
      (get_or_default path i (get_or path i d) d within)
      (slice_get_read steps (length steps) ((get_or path i d).step - 1) s refl place_in is))) counted

pub loop-link-preserved : goal.loop-link-preserved
loop-link-preserved g c = λ key are.
    let i = c.loop-link.link-index in
    let path = c.args.path.now in
    grown c.args.steps.now path i c.loop-link-test.true c.requires.short.all c.requires.steps _
    c.index-steps-place.result c.index-steps-place.is key c.cycles_of-cycles.ensures c.charged.ensures
    (c.in_ok-add.ensures key (visits_along c.args.steps.now (take i path)) (c.loop-link.invariant key are)
    (key_is c.args.steps.now path i c.loop-link-test.true c.requires.short.all c.requires.steps _
    c.index-steps-place.result c.index-steps-place.is key c.args.keys.now are))

pub bounds-keys-place : goal.bounds-keys-place
bounds-keys-place = grind (arith, common_steps)

pub returns : goal.returns
returns = grind (arith, common_steps)
