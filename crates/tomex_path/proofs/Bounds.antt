-- What a path bounds: the law, and what follows if another machine's latencies and its width save nothing.
use Rattle.std.proofs.Common.{ℕ, ◌*◌, ◌<◌, ◌≤◌, ◌≡◌, ◌∙◌, true, false, arith, refl, sym, ap, inl, inr}
use Rattle.std.proofs.Common.{List, [], ◌∷◌, reverse, sum_by}
use Rattle.std.specs.Prelude.{◌==◌}
use Rattle.std.proofs.lemmas.Bool.{and_from, and_parts, cases_Bool, cases_lt, eq-eqb, le-ltb}
use Rattle.std.proofs.lemmas.List.{get_or-set_other}
use Rattle.std.proofs.lemmas.Nat.{mul-le}
use Rattle.tomex_rvdec.specs.Places.{place_of_unit}
use Rattle.tomex_rvdec.specs.declared.pool.UnitId.{UnitId}
use Rattle.tomex_rvdec.specs.declared.pool.UnitId.TheVariants as units
use Rattle.tomex_rvexec.specs.declared.step.Step.{Step}
use Rattle.tomex_config.specs.Configuration.{Configuration, option_of, plain_option, with_option}
use Rattle.tomex_config.specs.declared.config.UnitOption.{UnitOption}
use Rattle.tomex_timing.specs.Ahead.{one}
use Rattle.tomex_config.specs.declared.part.Part.TheVariants as parts
use Rattle.tomex_timing.specs.declared.times.Done.{Done}
use Rattle.tomex_timing.specs.History.{greatest_end}
use Rattle.tomex_timing.proofs.Limits.{same_unit}
use Rattle.tomex_config.specs.Configuration.{latency_of}
use Rattle.tomex_floor.proofs.Above.{steps_of}
use Rattle.tomex_path.specs.declared.event.Holder.TheVariants.{Last}
use Rattle.tomex_path.specs.declared.link.Link.{Link}
use Rattle.tomex_path.specs.declared.reason.Reason.{Reason}
use Rattle.tomex_path.specs.declared.reason.Reason.TheVariants as reasons
use Rattle.tomex_path.specs.Bound.{BoundPathIsLeast, PathIsBound, UnusedUnitsSaveNothing, binds, keeps, operating}
use Rattle.tomex_path.specs.Bound.{operations, saved_by_width}
use Rattle.tomex_path.specs.Laws.{is_for}
use Rattle.tomex_path.specs.Path.{links, path_of}
use Rattle.tomex_path.proofs.Chain.{holder_at}
use Rattle.tomex_path.proofs.Follows.{all_early}
use Rattle.tomex_path.proofs.Operations.{operating_is, spent}
use Rattle.tomex_path.proofs.PathStalls.{sum_turned}
use Rattle.tomex_path.proofs.SecondRun.{AreSame, last_second}
use Rattle.tomex_path.proofs.Turned.{all_turned}
use Rattle.tomex_path.proofs.Whole.{last_end}

-- the first of some steps, and the rest
abbrev first_or : Step → List Step → Step
first_or x [] = x
first_or x (y ∷ ys) = y

abbrev rest_of : List Step → List Step
rest_of [] = []
rest_of (y ∷ ys) = ys

same_steps : (h g : List Done) → steps_of h ≡ steps_of g → AreSame h g
same_steps [] [] e = tt
same_steps [] (b ∷ g) e = absurd (cc)
same_steps (d ∷ h) [] e = absurd (cc)
same_steps (d ∷ h) (b ∷ g) e = (ap (first_or d.step) e, same_steps h g (ap rest_of e))

operating_turned : (machine : Configuration) (ls : List Link)
    → operating machine (reverse ls) ≡ sum_by (spent machine) ls
operating_turned machine ls = operating_is machine (reverse ls) ∙ sum_turned (spent machine) ls

saved_turned : (config other : Configuration) (ls : List Link)
    → saved_by_width config other (reverse ls) ≡ saved_by_width config other ls
saved_turned config other ls = rw (sum_turned (λ l. one (is_for l.reason parts.Width)) ls) refl

pub path_is_bound : PathIsBound
path_is_bound config other h g good timed second same bind =
    let early = all_early config other good Last h g refl timed second (same_steps h g same)
    (all_turned (λ l. keeps other l.reason) (links config Last h) bind) in
    let own : holder_at Last h ≡ greatest_end h = last_end config good h in
    let others = last_second h g in
    let gained = operating_turned other (links config Last h) in
    let paid = operating_turned config (links config Last h) in
    let saved = saved_turned config other (links config Last h) in
    omega arith

pub narrow_saves : (config other : Configuration) (ls : List Link) → other.width ≤ config.width
    → saved_by_width config other ls ≡ 0
narrow_saves config other ls l = rw (le-ltb config.width other.width l) refl

-- the operations take no less of a machine that is no faster in their kinds
pub operating_rises : (config other : Configuration) (ls : List Link)
    → ((unit : UnitId) → 0 < operations unit ls → latency_of config unit ≤ latency_of other unit)
    → operating config ls ≤ operating other ls
operating_rises config other ls slow =
    let a = each units.Alu in
    let m = each units.Mul in
    let d = each units.Div in
    let p = each units.Mem in
    let b = each units.Bru in
    omega arith
  where
    none_of : (n x : ℕ) → n ≡ 0 → x * n ≡ 0
    none_of n x e = rw e (omega arith)

    each : (unit : UnitId) → latency_of config unit * operations unit ls ≤ latency_of other unit * operations unit ls
    each unit = elim (cases_lt 0 (operations unit ls)) [
      | inl some ↦ mul-le (latency_of config unit) (operations unit ls) (latency_of other unit) (operations unit ls)
          (slow unit some) (omega arith)
      | inr none ↦
          let z = none_of (operations unit ls) (latency_of config unit) (omega arith) in
          omega arith
    ]

pub bound_is_least : BoundPathIsLeast
bound_is_least config other h g good timed second same bind narrow slow =
    let bound = path_is_bound config other h g good timed second same bind in
    let rise = operating_rises config other (path_of config h) slow in
    let saved = narrow_saves config other (path_of config h) narrow in
    omega arith

-- a machine with the same stations keeps the same waits

keeps_as : (a b : Configuration) (reason : Reason) → a.stations ≡ b.stations → keeps a reason ≡ keeps b reason
keeps_as a b (reasons.For (parts.Stations pool)) e = rw e refl
keeps_as a b (reasons.For (parts.Units unit)) e = refl
keeps_as a b (reasons.For parts.Buses) e = refl
keeps_as a b (reasons.For parts.Width) e = refl
keeps_as a b reasons.Branch e = refl
keeps_as a b reasons.Operand e = refl
keeps_as a b reasons.Address e = refl
keeps_as a b reasons.Memory e = refl
keeps_as a b reasons.Order e = refl

binds_as : (a b : Configuration) (ls : List Link) → a.stations ≡ b.stations → binds a ls ≡ true → binds b ls ≡ true
binds_as a b [] e bind = refl
binds_as a b (l ∷ ls) e bind =
    let two = and_parts (keeps a l.reason) (binds a ls) bind in
    and_from (keeps b l.reason) (binds b ls) (sym (keeps_as a b l.reason e) ∙ two.0) (binds_as a b ls e two.1)

-- another kind's option stays
other_stays : (config : Configuration) (unit kind : UnitId) (option : UnitOption)
    → (place_of_unit kind == place_of_unit unit) ≡ false
    → option_of (with_option unit config option) kind ≡ option_of config kind
other_stays config unit kind option e =
    get_or-set_other config.units (place_of_unit unit) (place_of_unit kind) option plain_option
    (λ f. let t : true ≡ false = sym (eq-eqb (place_of_unit kind) (place_of_unit unit) f) ∙ e in absurd (cc))

pub unused_saves_nothing : UnusedUnitsSaveNothing
unused_saves_nothing config unit option h g good timed second same bind none =
    bound_is_least config (with_option unit config option) h g good timed second same
    (binds_as config (with_option unit config option) (path_of config h) refl bind) (omega arith) slow
  where
    slow : (kind : UnitId) → 0 < operations kind (path_of config h)
        → latency_of config kind ≤ latency_of (with_option unit config option) kind
    slow kind some = elim (cases_Bool (place_of_unit kind == place_of_unit unit)) [
      | inl e ↦
          let f : kind ≡ unit = same_unit kind unit e in
          let z : operations kind (path_of config h) ≡ 0 = rw f none in
          absurd (omega arith)
      | inr e ↦
          let same_latency = ap (λ (o : UnitOption). o.latency) (other_stays config unit kind option e) in
          omega (arith, same_latency)
    ]
