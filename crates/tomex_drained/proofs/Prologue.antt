-- The prologue that loads zeros is drained, on every configuration within the limits.
use Rattle.std.proofs.Common.{ℕ, zero, suc, ◌<◌, ◌≡◌, ◌∙◌, arith, refl, sym, ap, subst, false, true, List, ◌++◌}
use Rattle.std.proofs.Common.{eq-eqb}
use Rattle.std.specs.Prelude.{nat_eq}
use Rattle.std.proofs.lemmas.Bool.{ne_eqb}
use Rattle.tomex_rvdec.specs.declared.pool.UnitId.TheVariants.{Alu}
use Rattle.tomex_config.specs.Configuration.{Configuration, IsWithinLimits}
use Rattle.tomex_timing.specs.declared.times.Done.{Done}
use Rattle.tomex_timing.specs.declared.times.Times.{Times}
use Rattle.tomex_timing.specs.Recurrence.{AreTimed}
use Rattle.tomex_timing.specs.Search.{history}
use Rattle.tomex_timing.proofs.Histories.{are_timed}
use Rattle.tomex_cut.specs.Prologue.{lower, upper}
use Rattle.tomex_alike.specs.Laws.{after, done}
use Rattle.tomex_drained.specs.Drained.{IsDrained}
use Rattle.tomex_drained.specs.Parts.{blank, hook, loads, pair, prologue}
use Rattle.tomex_drained.proofs.Joined.{history_joined}
use Rattle.tomex_drained.proofs.Pairs.{ArePairs, IsPair, prologue_drains}

pair_is : (r : ℕ) (h : List Done) (a b : Times) → 0 < r
    → IsPair Alu (done (blank 0 (lower r 0)) b) (done (blank 0 (upper r 0)) a) h
pair_is r h a b some =
    let not_zero : nat_eq r 0 ≡ false = ne_eqb r 0 (λ (e : r ≡ 0). absurd (omega arith)) in
    let own : nat_eq r r ≡ true = eq-eqb r r refl in
    record {
      unit1 = refl;
      unit2 = refl;
      plain1 = refl;
      plain2 = refl;
      result1 = rw not_zero refl;
      result2 = rw not_zero refl;
      j1 = refl;
      k1 = refl;
      j2 = rw (not_zero, own) refl;
      k2 = refl;
    }

are_pairs : (config : Configuration) (n : ℕ) → ArePairs Alu (history config (loads n))
are_pairs config zero = tt
are_pairs config (suc n) =
    subst (ArePairs Alu) (sym (history_joined config (loads n) (pair (suc n))))
    (pair_is (suc n) (history config (loads n)) _ _ (omega arith), are_pairs config n)

-- after at least one pair
drained_from : (config : Configuration) (n : ℕ) → IsWithinLimits config
    → IsDrained (history config ((loads n ++ pair (suc n)) ++ hook))
drained_from config n good =
    let h = history config (loads n) in
    let e : history config ((loads n ++ pair (suc n)) ++ hook) ≡ after config (after config h (pair (suc n))) hook =
    history_joined config (loads n ++ pair (suc n)) hook
    ∙ ap (λ k. after config k hook) (history_joined config (loads n) (pair (suc n))) in
    let timed = subst (AreTimed config) e (are_timed config ((loads n ++ pair (suc n)) ++ hook) good) in
    subst IsDrained (sym e) (prologue_drains config Alu _ _ _ _ _ _ h good timed (record {
      pairs = (pair_is (suc n) h _ _ (omega arith), are_pairs config n);
      of_unit = refl;
      plain = refl;
      j = refl;
      k = refl;
      last = pair_is 31 _ _ _ (omega arith);
      branch = refl;
      branch_unit = refl;
      no_result = refl;
      waits = refl;
    }))

pub prologue_is_drained : (config : Configuration) → IsWithinLimits config → IsDrained (history config prologue)
prologue_is_drained config good = drained_from config 29 good
