-- The price of an option changes no program's cycles.
use Rattle.std.proofs.Common.{◌≡◌, ◌≢◌, ◌<◌, ◌==◌, ℕ, arith, ap, sym, refl, ◌∙◌, List, length, inl, inr, get_or, subst}
use Rattle.std.proofs.Math.ListN.{set}
use Rattle.std.proofs.lemmas.Bool.{cases_Bool}
use Rattle.std.proofs.lemmas.Bool.Decides.{nat_tests}
use Rattle.std.proofs.lemmas.List.{get_or-set_other, get_or-set_same}
use Rattle.tomex_image.specs.Image.{Loaded}
use Rattle.tomex_rvdec.specs.Places.{place_of_unit}
use Rattle.tomex_rvdec.specs.declared.pool.UnitId.{UnitId}
use Rattle.tomex_rvexec.specs.Run.{most_steps, start_of}
use Rattle.tomex_rvexec.specs.Trace.{steps_from}
use Rattle.tomex_config.specs.Configuration.{Configuration, IsWithinLimits, plain_option, with_option}
use Rattle.tomex_config.specs.declared.config.UnitOption.{UnitOption}
use Rattle.tomex_timing.proofs.SameTimes.{serves_history}
use Rattle.tomex_timing.specs.History.{greatest_end}
use Rattle.tomex_timing.specs.Needs.{Serves}
use Rattle.tomex_config.specs.Parts.{count_of}
use Rattle.tomex_timing.specs.Run.{run_of, total}
use Rattle.tomex_timing.specs.Search.{history}
use Rattle.tomex_timing.specs.declared.times.Done.{Done}
use Rattle.tomex_config.specs.declared.part.Part.{Part}
use Rattle.tomex_config.specs.declared.part.Part.TheVariants.{Stations, Units, Buses, Width}
use Rattle.tomex_rvdec.proofs.Places.{unit_low}

-- what two options have in common stays in common
common : {X Y : Type 0} (f : X → Y) (xs : List X) (k j : ℕ) (a b d : X) → k < length xs → f a ≡ f b
    → f (get_or (set xs k a) j d) ≡ f (get_or (set xs k b) j d)
common f xs k j a b d low same = elim (cases_Bool (j == k)) [
  | inl e ↦
      let at : j ≡ k = grind (arith, nat_tests) in
      subst (λ (n : ℕ). f (get_or (set xs k a) n d) ≡ f (get_or (set xs k b) n d)) (sym at)
      (ap f (get_or-set_same xs k a d low) ∙ (same ∙ sym (ap f (get_or-set_same xs k b d low))))
  | inr e ↦
      let apart : j ≢ k = λ at. grind (arith, nat_tests) in
      ap f (get_or-set_other xs k j a d apart) ∙ sym (ap f (get_or-set_other xs k j b d apart))
]

module _ (c : Configuration) (unit : UnitId) (a b : UnitOption) (kinds : length c.units ≡ 5)
    (units : b.units ≡ a.units) (latency : b.latency ≡ a.latency) where
  low : place_of_unit unit < length c.units
  low = let l = unit_low unit in omega (arith, kinds)

  same_count : (part : Part) → count_of (with_option unit c b) part ≡ count_of (with_option unit c a) part
  same_count (Stations pool) = refl
  same_count (Units other) =
      common (λ (o : UnitOption). o.units) c.units (place_of_unit unit) (place_of_unit other) b a plain_option low units
  same_count Buses = refl
  same_count Width = refl

  serves : (h : List Done) → Serves (with_option unit c a) (with_option unit c b) h
  serves h = record {
    parts = λ part. inl (same_count part);
    latencies = λ other. inl (common (λ (o : UnitOption). o.latency) c.units (place_of_unit unit)
        (place_of_unit other) b a plain_option low latency);
  }

  pub same_total : (image : Loaded) → IsWithinLimits (with_option unit c a) → IsWithinLimits (with_option unit c b)
      → total (with_option unit c b) image ≡ total (with_option unit c a) image
  unfolding run_of
  same_total image one other =
      let steps = steps_from most_steps (start_of image) in
      ap greatest_end (serves_history (with_option unit c a) (with_option unit c b) steps one other
      (serves (history (with_option unit c a) steps)))
