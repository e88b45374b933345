-- The visits along a path, one link more; they are no more than its links, small, and of steps of the run.
use Rattle.std.proofs.Common.{ℕ, ◌+◌, ◌-◌, ◌^◌, ◌<◌, ◌≤◌, ◌≡◌, arith, refl, get_or, length, take, List, [], ◌∷◌, ◌++◌}
use Rattle.std.proofs.Common.{Option, Some, None, slice_get}
use Rattle.std.specs.Prelude.{All}
use Rattle.std.proofs.lemmas.Grind.{flat_map-append}
use Rattle.std.proofs.lemmas.List.{take_more}
use Rattle.std.proofs.lemmas.List.Elements.{All-cons, All-head, All-nil, All-tail}
use Rattle.std.proofs.lemmas.Option.{get_or_from_slice_get, slice_get_within}
use Rattle.tomex_rvexec.specs.declared.step.Step.{Step}
use Rattle.tomex_config.specs.Configuration.{Configuration}
use Rattle.tomex_timing.specs.Search.{history}
use Rattle.tomex_timing.specs.Waiting.{AreWithin}
use Rattle.tomex_config.specs.declared.part.Part.TheVariants.{Stations, Units, Buses, Width}
use Rattle.tomex_functions.specs.Kept.{HasAddress}
use Rattle.tomex_functions.proofs.Indexes.{address_there}
use Rattle.tomex_path.specs.declared.link.Link.{Link}
use Rattle.tomex_path.specs.declared.reason.Reason.{Reason}
use Rattle.tomex_path.specs.declared.reason.Reason.TheVariants as reasons
use Rattle.tomex_path.specs.Laws.{cycles_of}
use Rattle.tomex_path.specs.Path.{path_of}
use Rattle.tomex_path_views.specs.Charges.{charged, path_visits, visit_at, visit_of, visits_along}
use Rattle.tomex_path_views.specs.Shares.{IsShort}
use Rattle.tomex_run_views.specs.ByPlace.{Visit}
use Rattle.tomex_run_views.specs.Tally.{IsSmall}

-- cycles that are charged to one thing are no more
charged_within : (n m : ℕ) (r : Reason) → n ≤ m → AreWithin m (charged n r)
charged_within n m (reasons.For (Stations pool)) l = record {
  branch = omega arith;
  width = omega arith;
  station = l;
  operand = omega arith;
  address = omega arith;
  memory = omega arith;
  unit = omega arith;
  bus = omega arith;
}
charged_within n m (reasons.For (Units unit)) l = record {
  branch = omega arith;
  width = omega arith;
  station = omega arith;
  operand = omega arith;
  address = omega arith;
  memory = omega arith;
  unit = l;
  bus = omega arith;
}
charged_within n m (reasons.For Buses) l = record {
  branch = omega arith;
  width = omega arith;
  station = omega arith;
  operand = omega arith;
  address = omega arith;
  memory = omega arith;
  unit = omega arith;
  bus = l;
}
charged_within n m (reasons.For Width) l = record {
  branch = omega arith;
  width = l;
  station = omega arith;
  operand = omega arith;
  address = omega arith;
  memory = omega arith;
  unit = omega arith;
  bus = omega arith;
}
charged_within n m reasons.Branch l = record {
  branch = l;
  width = omega arith;
  station = omega arith;
  operand = omega arith;
  address = omega arith;
  memory = omega arith;
  unit = omega arith;
  bus = omega arith;
}
charged_within n m reasons.Operand l = record {
  branch = omega arith;
  width = omega arith;
  station = omega arith;
  operand = l;
  address = omega arith;
  memory = omega arith;
  unit = omega arith;
  bus = omega arith;
}
charged_within n m reasons.Address l = record {
  branch = omega arith;
  width = omega arith;
  station = omega arith;
  operand = omega arith;
  address = l;
  memory = omega arith;
  unit = omega arith;
  bus = omega arith;
}
charged_within n m reasons.Memory l = record {
  branch = omega arith;
  width = omega arith;
  station = omega arith;
  operand = omega arith;
  address = omega arith;
  memory = l;
  unit = omega arith;
  bus = omega arith;
}
charged_within n m reasons.Order l = record {
  branch = omega arith;
  width = omega arith;
  station = omega arith;
  operand = omega arith;
  address = omega arith;
  memory = omega arith;
  unit = omega arith;
  bus = omega arith;
}

small : (l : Link) (s : Step) → IsShort l → IsSmall (visit_of l s)
small l s h = record {
  cycles = omega (arith, h.to, h.from);
  waits = charged_within (cycles_of l) (2 ^ 35) l.reason (omega (arith, h.to, h.from));
}

module _ (steps : List Step) where
  abbrev here : Link → List Visit
  here l = visit_at l (slice_get steps (l.step - 1))

  pub visits_more : (path : List Link) (i : ℕ) (l : Link) (s : Step) → i < length path → get_or path i l ≡ l
      → slice_get steps (l.step - 1) ≡ Some s
      → visits_along steps (take (i + 1) path) ≡ visits_along steps (take i path) ++ visit_of l s ∷ []
  visits_more path i l s within is there =
      rw (take_more path i l within, flat_map-append here (take i path) (get_or path i l ∷ []), is, there) refl

  few_more : (l : Link) (o : Option Step) (rest : List Visit) (n : ℕ) → length rest ≤ n
      → length (visit_at l o ++ rest) ≤ n + 1
  few_more l None rest n few = omega (arith, few)
  few_more l (Some s) rest n few = omega (arith, few)

  pub visits_few : (path : List Link) → length (visits_along steps path) ≤ length path
  visits_few [] = omega arith
  visits_few (l ∷ path) =
      let m = few_more l (slice_get steps (l.step - 1)) (visits_along steps path) (length path) (visits_few path) in
      omega (arith, m)

  all_more : (P : Visit → Type 0) (l : Link) (o : Option Step) (rest : List Visit)
      → ((s : Step) → o ≡ Some s → P (visit_of l s)) → All P rest → All P (visit_at l o ++ rest)
  all_more P l None rest own others = others
  all_more P l (Some s) rest own others = All-cons P (visit_of l s) rest (own s refl) others

  pub visits_small : (path : List Link) → All IsShort path → All IsSmall (visits_along steps path)
  visits_small [] all = All-nil IsSmall
  visits_small (l ∷ path) all =
      all_more IsSmall l (slice_get steps (l.step - 1)) (visits_along steps path)
      (λ s is. small l s (All-head IsShort l path all)) (visits_small path (All-tail IsShort l path all))

  pub visits_have : (path : List Link) → All (λ v. HasAddress v.step.pc steps) (visits_along steps path)
  visits_have [] = All-nil (λ (v : Visit). HasAddress v.step.pc steps)
  visits_have (l ∷ path) =
      all_more (λ v. HasAddress v.step.pc steps) l (slice_get steps (l.step - 1)) (visits_along steps path)
      (λ s is. address_there steps (l.step - 1) s (slice_get_within steps (l.step - 1) s is)
      (get_or_from_slice_get steps (l.step - 1) s s is)) (visits_have path)

-- the visits along a path that was found
pub along : (config : Configuration) (steps run : List Step) (path : List Link) → steps ≡ run
    → path ≡ path_of config (history config run) → visits_along steps path ≡ path_visits config run
along config steps run path same is = rw (is, same) refl
