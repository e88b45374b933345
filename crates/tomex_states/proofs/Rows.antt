-- Rounds of a loop, computed by the definitions: what is held after one round, moved to where the second one ends,
-- shows two rounds, though these leave other cycles.
use Rattle.std.proofs.Common.{ℕ, ◌+◌, ◌-◌, ◌≡◌, ◌≢◌, ◌∙◌, arith, refl, sym, ap, List, [], ◌∷◌, ◌++◌, map, cond, ◌==◌}
use Rattle.std.specs.List.{range_with_len}
use Rattle.std.specs.Prelude.{slice_index}
use Rattle.std.proofs.lemmas.List.FromFn.{get_or-map-range_with_len}
use Rattle.tomex_rvdec.specs.declared.op.Op.TheVariants.{Lw, Sw, Bne}
use Rattle.tomex_rvdec.specs.declared.pool.UnitId.TheVariants as units
use Rattle.tomex_rvexec.specs.declared.step.Step.{Step}
use Rattle.tomex_config.specs.Configuration.{Configuration}
use Rattle.tomex_timing.specs.declared.recent.Latest.{Latest}
use Rattle.tomex_timing.specs.declared.times.Done.{Done}
use Rattle.tomex_timing.specs.Issue.{first_issue}
use Rattle.tomex_timing.specs.Search.{history, times_of}
use Rattle.tomex_timing.proofs.Programs.{addi, step, instr, two_alu_stations, with_latency}
use Rattle.tomex_alike.specs.Alike.{end_ahead}
use Rattle.tomex_states.specs.States.{ShowsLatest}
use Rattle.tomex_states.proofs.Exact.{exact_of}

-- memory takes six cycles
abbrev machine : Configuration
machine = with_latency units.Mem two_alu_stations 6

-- lw x2,0(x8); addi x2,x2,1; sw x2,0(x8); addi x9,x9,-1; bne x9,x0 to the load, with x8 = 256: a round of a loop
abbrev round : ℕ → ℕ → List Step
round x2 x9 =
    step 0 (instr Lw 2 8 0 0) 256 0 ∷ addi 4 2 2 1 x2 ∷ step 8 (instr Sw 0 8 2 0) 256 (x2 + 1)
    ∷ addi 12 9 9 4294967295 x9 ∷ step 16 (instr Bne 0 9 0 4294967280) (x9 - 1) 0 ∷ []

-- addi x5,x5,1 comes before the loop
abbrev one_round : List Done
one_round = history machine (addi 0 5 5 1 0 ∷ round 0 3)

abbrev two_rounds : List Done
two_rounds = history machine (addi 0 5 5 1 0 ∷ (round 0 3 ++ round 1 2))

-- all cycles n later; that of a register that isn't written stays 0
abbrev moved : ℕ → Latest → Latest
moved n latest = record {
  ends = map (λ e. cond (e == 0) 0 (e + n)) latest.ends;
  issue = latest.issue + n;
  issued = latest.issued;
  branch = latest.branch + n;
  address = latest.address + n;
  end = latest.end + n;
}

abbrev passed : ℕ
passed = first_issue machine two_rounds - first_issue machine one_round

-- x5 ended in an earlier cycle than it seems to
other_cycles : slice_index (moved passed (exact_of one_round)).ends 5 ≢ slice_index (exact_of two_rounds).ends 5
unfolding times_of
other_cycles e = absurd (omega arith)

-- but it is over
moved_shows : ShowsLatest machine two_rounds (moved passed (exact_of one_round))
unfolding times_of
moved_shows = record {
  first = refl;
  issued = refl;
  width = refl;
  end = refl;
  address = refl;
  ends = λ r l.
      let f : ℕ → ℕ = λ (r : ℕ). slice_index (moved passed (exact_of one_round)).ends r
      - first_issue machine two_rounds in
      let same : map f (range_with_len 0 32) ≡ map (end_ahead machine two_rounds) (range_with_len 0 32) = refl in
      sym (get_or-map-range_with_len f 0 32 r r 0 l (omega arith)) ∙ (ap (λ es. slice_index es r) same
      ∙ get_or-map-range_with_len (end_ahead machine two_rounds) 0 32 r r 0 l (omega arith));
  count = refl;
  few = omega arith;
}
